-- Examples written out by hand from the table of the format: a wrong rule in specs/ would not check
-- here.
use Rattle.std.proofs.Common.{◌≡◌, ℕ, ◌++◌, negsuc, true, false, List, [], ◌∷◌, Some, None, refl}
use Rattle.std.specs.Prelude.{codes, replicate}
use Rattle.std.specs.Int.{w32}
use Rattle.dcsctp_types.specs.declared.snapshot.HandoverOutgoingStream.{HandoverOutgoingStream}
use Rattle.dcsctp_types.specs.declared.snapshot.HandoverOrderedStream.{HandoverOrderedStream}
use Rattle.dcsctp_types.specs.declared.kinds.ZeroChecksumAlternateErrorDetectionMethod.{ZeroChecksumAlternateErrorDetectionMethod}
use Rattle.dcsctp_types.specs.declared.options.Options.{Options}
use Rattle.dcsctp_types.specs.SnapshotItems.{QueuedPart}
use Rattle.dcsctp_types.specs.Snapshot.{empty_snapshot}
use Rattle.dcsctp_wire_checksum.specs.Crc32c.{bit_step, eight_bit_steps, byte_step, register_after, crc32c_of}
use Rattle.dcsctp_snapshot_bytes.specs.Fields.{number_bytes, number_of_width, signed_bytes, leading_signed, flag_bytes, leading_flag, payload_bytes, leading_payload, optional_bytes, leading_optional, element_list_bytes, leading_list, leading_elements}
use Rattle.dcsctp_snapshot_bytes.specs.Seal.{fingerprint, bytes_with_check}
use Rattle.dcsctp_snapshot_bytes.specs.Spelling.{snapshot_magic, queued_part_bytes, outgoing_bytes, ordered_bytes, send_bytes, received_bytes, capabilities_bytes, snapshot_bytes}
use Rattle.dcsctp_snapshot_bytes.specs.ReadingItems.{leading_queued_part, leading_limits, leading_progress, leading_ordered_stream}
use Rattle.dcsctp_snapshot_bytes.specs.Reading.{leading_windows, leading_send_progress, leading_send_part, leading_receive_numbers, leading_receive_part, leading_capabilities, leading_tags, leading_content, after_magic, read_snapshot}

-- ---- fields

magic_is_text : number_bytes w32 snapshot_magic ≡ codes "dcSn"
unfolding number_bytes
magic_is_text = refl

minus_two : signed_bytes (negsuc 1) ≡ 255 ∷ 255 ∷ 255 ∷ 254 ∷ []
unfolding signed_bytes number_bytes
minus_two = refl

minus_two_is_read : leading_signed (255 ∷ 255 ∷ 255 ∷ 254 ∷ 7 ∷ []) ≡ Some (negsuc 1, 7 ∷ [])
unfolding leading_signed number_of_width
minus_two_is_read = refl

text : payload_bytes (codes "hi") ≡ 0 ∷ 0 ∷ 0 ∷ 0 ∷ 0 ∷ 0 ∷ 0 ∷ 2 ∷ 104 ∷ 105 ∷ []
unfolding payload_bytes number_bytes
text = refl

text_is_cut_off : leading_payload (0 ∷ 0 ∷ 0 ∷ 0 ∷ 0 ∷ 0 ∷ 0 ∷ 2 ∷ 104 ∷ []) ≡ None
unfolding leading_payload number_of_width
text_is_cut_off = refl

two_is_no_flag : leading_flag (2 ∷ []) ≡ None
unfolding leading_flag
two_is_no_flag = refl

-- ---- elements

message : QueuedPart
message =
    record {
      stream_id = 1;
      ppid = 51;
      payload = 97 ∷ 98 ∷ 99 ∷ [];
      unordered = true;
      expires_in_ms = Some (negsuc 1);
      max_retransmissions = 3;
      lifecycle_id = 4;
      message_id = 5;
      remaining_offset = 1;
      mid = Some 6;
      ssn = None;
      fsn = 8;
    }

message_bytes : List ℕ
message_bytes =
    0 ∷ 1 ∷ 0 ∷ 0 ∷ 0 ∷ 51 ∷ 0 ∷ 0 ∷ 0 ∷ 0 ∷ 0 ∷ 0 ∷ 0 ∷ 3 ∷ 97 ∷ 98 ∷ 99 ∷ 1 ∷ 1 ∷ 255 ∷ 255 ∷ 255 ∷ 254 ∷ 0 ∷ 3
    ∷ 0 ∷ 0 ∷ 0 ∷ 0 ∷ 0 ∷ 0 ∷ 0 ∷ 4 ∷ 0 ∷ 0 ∷ 0 ∷ 0 ∷ 0 ∷ 0 ∷ 0 ∷ 5 ∷ 0 ∷ 0 ∷ 0 ∷ 0 ∷ 0 ∷ 0 ∷ 0 ∷ 1
    ∷ 1 ∷ 0 ∷ 0 ∷ 0 ∷ 6 ∷ 0 ∷ 0 ∷ 0 ∷ 0 ∷ 8 ∷ []

message_is_spelled : queued_part_bytes message ≡ message_bytes
unfolding queued_part_bytes number_bytes signed_bytes flag_bytes payload_bytes optional_bytes message message_bytes
message_is_spelled = refl

message_is_read : leading_queued_part message_bytes ≡ Some (message, [])
unfolding leading_queued_part leading_limits leading_progress number_of_width leading_signed leading_flag leading_payload leading_optional message message_bytes
message_is_read = refl

stream : HandoverOutgoingStream
stream = record { id = 1; next_ssn = 2; next_unordered_mid = 3; next_ordered_mid = 4; priority = 256 }

stream_is_spelled : outgoing_bytes stream ≡ 0 ∷ 1 ∷ 0 ∷ 2 ∷ 0 ∷ 0 ∷ 0 ∷ 3 ∷ 0 ∷ 0 ∷ 0 ∷ 4 ∷ 1 ∷ 0 ∷ []
unfolding outgoing_bytes number_bytes stream
stream_is_spelled = refl

ordered : HandoverOrderedStream
ordered = record { id = 45; next_ssn = 46 }

list_is_spelled : element_list_bytes ordered_bytes (ordered ∷ []) ≡ 0 ∷ 0 ∷ 0 ∷ 0 ∷ 0 ∷ 0 ∷ 0 ∷ 1 ∷ 0 ∷ 45 ∷ 0 ∷ 0 ∷ 0 ∷ 46 ∷ []
unfolding element_list_bytes ordered_bytes number_bytes ordered
list_is_spelled = refl

list_is_read : leading_list leading_ordered_stream (0 ∷ 0 ∷ 0 ∷ 0 ∷ 0 ∷ 0 ∷ 0 ∷ 1 ∷ 0 ∷ 45 ∷ 0 ∷ 0 ∷ 0 ∷ 46 ∷ []) ≡ Some (ordered ∷ [], [])
unfolding leading_list leading_elements leading_ordered_stream number_of_width ordered
list_is_read = refl

-- ---- the whole

-- The magic, the version, and 126 zeros.
empty_bytes : List ℕ
empty_bytes = 0x64 ∷ 0x63 ∷ 0x53 ∷ 0x6e ∷ 0 ∷ 1 ∷ replicate 126 0

empty_is_spelled : snapshot_bytes empty_snapshot ≡ empty_bytes
unfolding snapshot_bytes capabilities_bytes send_bytes received_bytes element_list_bytes number_bytes flag_bytes empty_bytes
empty_is_spelled = refl

empty_is_read : read_snapshot empty_bytes ≡ Some empty_snapshot
unfolding read_snapshot after_magic leading_content leading_tags leading_capabilities leading_send_part leading_windows leading_send_progress leading_receive_part leading_receive_numbers leading_list leading_elements number_of_width leading_flag empty_bytes
empty_is_read = refl

-- Version 2 is of several messages under way.
other_version_is_refused : read_snapshot (0x64 ∷ 0x63 ∷ 0x53 ∷ 0x6e ∷ 0 ∷ 2 ∷ replicate 126 0) ≡ None
unfolding read_snapshot after_magic leading_content leading_tags leading_capabilities leading_send_part leading_windows leading_send_progress leading_receive_part leading_receive_numbers leading_list leading_elements number_of_width leading_flag
other_version_is_refused = refl

trailing_byte_is_refused : read_snapshot (empty_bytes ++ 0 ∷ []) ≡ None
unfolding read_snapshot after_magic leading_content leading_tags leading_capabilities leading_send_part leading_windows leading_send_progress leading_receive_part leading_receive_numbers leading_list leading_elements number_of_width leading_flag empty_bytes
trailing_byte_is_refused = refl

-- ---- the seal

-- the check value of these digits that catalogues of checksums give
digits_are_checked : bytes_with_check (codes "123456789") ≡ codes "123456789" ++ 0xe3 ∷ 0x06 ∷ 0x92 ∷ 0x83 ∷ []
unfolding bytes_with_check number_bytes crc32c_of register_after byte_step eight_bit_steps bit_step
digits_are_checked = refl

offers : Options → ZeroChecksumAlternateErrorDetectionMethod → Options
offers options method =
    record options {
      local_port = 0x0102;
      remote_port = 0x0304;
      announced_maximum_incoming_streams = 0x0506;
      announced_maximum_outgoing_streams = 0x0708;
      enable_partial_reliability = true;
      enable_message_interleaving = false;
      zero_checksum_alternate_error_detection_method = method;
    }

offers_are_spelled : (options : Options) (method : ZeroChecksumAlternateErrorDetectionMethod) → method.0 ≡ 0x090a0b0c
    → fingerprint (offers options method) ≡ 1 ∷ 2 ∷ 3 ∷ 4 ∷ 5 ∷ 6 ∷ 7 ∷ 8 ∷ 1 ∷ 0 ∷ 9 ∷ 10 ∷ 11 ∷ 12 ∷ []
unfolding fingerprint number_bytes flag_bytes offers
offers_are_spelled options method is = rw is refl
