-- What a value says by its fields: of a parameter (RFC 9260, section 3.3.2.1; RFC 6525, section 4), of an error cause (RFC 9260,
-- section 3.3.10), and of a chunk that holds neither. Bytes after the fields are not looked at.
use Rattle.std.specs.Prelude.{◌==◌, ℕ, ◌+◌, ◌*◌, ◌-◌, ◌/◌, ◌%◌, Bool, not, ◌&&◌, List, length, take, drop, Option, Some, None, nat_lt, if◌then◌else◌}
use Rattle.std.specs.Option.{option_map}
use Rattle.std.specs.Int.{w16, w32, from_be_bytes}
use Rattle.dcsctp_wire.specs.declared.reconfiguration.ReconfigurationResponseResult.{ReconfigurationResponseResult}
use Rattle.dcsctp_wire.specs.declared.reconfiguration.ReconfigurationResponseResult.TheVariants.{SuccessNothingToDo, SuccessPerformed, Denied, ErrorWrongSSN, ErrorRequestAlreadyInProgress, ErrorBadSequenceNumber, InProgress}
use Rattle.dcsctp_wire.specs.declared.reconfiguration.NextTsns.{NextTsns}
use Rattle.dcsctp_wire.specs.declared.chunk.user_data.DataFlags.{DataFlags}
use Rattle.dcsctp_wire.specs.declared.chunk.sack.GapAckBlock.{GapAckBlock}
use Rattle.dcsctp_wire.specs.declared.chunk.forward_tsn.SkippedStream.{SkippedStream}
use Rattle.dcsctp_wire.specs.declared.chunk.forward_tsn.SkippedMessages.{SkippedMessages}
use Rattle.dcsctp_wire.specs.Numbers.{heartbeat_info_type, state_cookie_type, outgoing_ssn_reset_request_type, incoming_ssn_reset_request_type, reconfiguration_response_type, zero_checksum_acceptable_type, supported_extensions_type, forward_tsn_supported_type, missing_mandatory_parameter_code, unrecognized_chunk_type_code, no_user_data_code, cookie_received_while_shutting_down_code, user_initiated_abort_code, protocol_violation_code, data_type, sack_type, shutdown_type, shutdown_ack_type, cookie_echo_type, cookie_ack_type, shutdown_complete_type, i_data_type, forward_tsn_type, i_forward_tsn_type}
use Rattle.dcsctp_wire.specs.Content.{ParameterContent, heartbeat_info, state_cookie, outgoing_ssn_reset_request, incoming_ssn_reset_request, reconfiguration_response, supported_extensions, zero_checksum_acceptable, forward_tsn_supported, unknown_parameter, CauseContent, missing_mandatory_parameter, unrecognized_chunk_type, no_user_data, cookie_received_while_shutting_down, user_initiated_abort, protocol_violation, unknown_cause, ChunkContent, data_chunk, sack_chunk, shutdown_chunk, shutdown_ack_chunk, cookie_echo_chunk, cookie_ack_chunk, shutdown_complete_chunk, i_data_chunk, forward_tsn_chunk, i_forward_tsn_chunk, unknown_chunk}

-- big-endian numbers at a place
abbrev pub u16_at : ℕ → List ℕ → ℕ
u16_at at bytes = from_be_bytes w16 (take 2 (drop at bytes))

abbrev pub u32_at : ℕ → List ℕ → ℕ
u32_at at bytes = from_be_bytes w32 (take 4 (drop at bytes))

-- fields of that many bytes, and after them whole entries of that many
abbrev pub has_entries : ℕ → ℕ → List ℕ → Bool
has_entries fields entry value = not (nat_lt (length value) fields) && (length value - fields) % entry == 0

-- ---- parameters

unfoldable pub outgoing_request_of_value : List ℕ → Option ParameterContent
outgoing_request_of_value value =
    if has_entries 12 2 value then Some (outgoing_ssn_reset_request (u32_at 0 value) (u32_at 4 value) (u32_at 8 value) (drop 12 value)) else None

unfoldable pub incoming_request_of_value : List ℕ → Option ParameterContent
incoming_request_of_value value = if has_entries 4 2 value then Some (incoming_ssn_reset_request (u32_at 0 value) (drop 4 value)) else None

-- the result of this number (RFC 6525, section 4.4)
unfoldable pub result_of : ℕ → Option ReconfigurationResponseResult
result_of code =
    if code == 0 then Some SuccessNothingToDo
    else (if code == 1 then Some SuccessPerformed
    else (if code == 2 then Some Denied
    else (if code == 3 then Some ErrorWrongSSN
    else (if code == 4 then Some ErrorRequestAlreadyInProgress
    else (if code == 5 then Some ErrorBadSequenceNumber
    else (if code == 6 then Some InProgress
    else None))))))

-- A response whose result has no name is kept as type and value.
abbrev pub response_with : List ℕ → Option NextTsns → Option ReconfigurationResponseResult → ParameterContent
response_with value next None = unknown_parameter reconfiguration_response_type value
response_with value next (Some result) = reconfiguration_response (u32_at 0 value) result next

abbrev pub next_tsns_of_value : List ℕ → NextTsns
next_tsns_of_value value = record { sender = u32_at 8 value; receiver = u32_at 12 value }

-- After the result there are either no next TSNs or both. Values of 12 to 15 bytes would have one of them and a part of the
-- other.
unfoldable pub response_of_value : List ℕ → Option ParameterContent
response_of_value value =
    if nat_lt (length value) 8 then None
    else (if nat_lt (length value) 12 then Some (response_with value None (result_of (u32_at 4 value)))
    else (if nat_lt (length value) 16 then None
    else Some (response_with value (Some (next_tsns_of_value value)) (result_of (u32_at 4 value)))))

-- a method, which has four bytes
unfoldable pub method_of_value : List ℕ → Option ParameterContent
method_of_value value = if nat_lt (length value) 4 then None else Some (zero_checksum_acceptable (u32_at 0 value))

-- What a parameter of this type and value says.
unfoldable pub parameter_of : ℕ → List ℕ → Option ParameterContent
parameter_of parameter_type value =
    if parameter_type == heartbeat_info_type then Some (heartbeat_info value)
    else (if parameter_type == state_cookie_type then Some (state_cookie value)
    else (if parameter_type == outgoing_ssn_reset_request_type then outgoing_request_of_value value
    else (if parameter_type == incoming_ssn_reset_request_type then incoming_request_of_value value
    else (if parameter_type == reconfiguration_response_type then response_of_value value
    else (if parameter_type == supported_extensions_type then Some (supported_extensions value)
    else (if parameter_type == zero_checksum_acceptable_type then method_of_value value
    else (if parameter_type == forward_tsn_supported_type then Some forward_tsn_supported
    else Some (unknown_parameter parameter_type value))))))))

-- a stream of a request to reset streams, by its place among them
abbrev pub numbered_request_stream : ℕ → List ℕ → ℕ
numbered_request_stream index streams = u16_at (2 * index) streams

-- ---- causes

-- The types of missing parameters: a number of four bytes, and that many types of two (RFC 9260, section
-- 3.3.10.2).
unfoldable pub missing_types : List ℕ → Option (List ℕ)
missing_types value =
    if nat_lt (length value) 4 then None
    else (if nat_lt (length value) (4 + 2 * u32_at 0 value) then None
    else Some (take (2 * u32_at 0 value) (drop 4 value)))

-- the TSN of DATA without user data, which has four bytes (RFC 9260, section 3.3.10.9)
unfoldable pub no_user_data_of_value : List ℕ → Option CauseContent
no_user_data_of_value value = if nat_lt (length value) 4 then None else Some (no_user_data (u32_at 0 value))

-- What a cause of this code and value says.
unfoldable pub cause_of : ℕ → List ℕ → Option CauseContent
cause_of code value =
    if code == missing_mandatory_parameter_code then option_map missing_mandatory_parameter (missing_types value)
    else (if code == unrecognized_chunk_type_code then Some (unrecognized_chunk_type value)
    else (if code == no_user_data_code then no_user_data_of_value value
    else (if code == cookie_received_while_shutting_down_code then Some cookie_received_while_shutting_down
    else (if code == user_initiated_abort_code then Some (user_initiated_abort value)
    else (if code == protocol_violation_code then Some (protocol_violation value)
    else Some (unknown_cause code value))))))

-- ---- chunks

-- the lowest bit: E in DATA, T in ABORT and SHUTDOWN COMPLETE
abbrev pub lowest_bit : ℕ → Bool
lowest_bit flags = flags % 2 == 1

-- E, B, U and I, from the lowest bit on (RFC 9260, section 3.3.1)
abbrev pub flags_of_bits : ℕ → DataFlags
flags_of_bits flags =
    record {
      is_end = lowest_bit flags;
      is_beginning = lowest_bit (flags / 2);
      is_unordered = lowest_bit (flags / 4);
      immediate_ack = lowest_bit (flags / 8);
    }

-- DATA (RFC 9260, section 3.3.1)
unfoldable pub data_of_value : ℕ → List ℕ → Option ChunkContent
data_of_value flags value =
    if nat_lt (length value) 12 then None
    else Some (data_chunk (record {
      flags = flags_of_bits flags;
      tsn = u32_at 0 value;
      stream_id = u16_at 4 value;
      ssn = u16_at 6 value;
      ppid = u32_at 8 value;
      payload = drop 12 value;
    }))

-- I-DATA (RFC 8260, section 2.1)
unfoldable pub i_data_of_value : ℕ → List ℕ → Option ChunkContent
i_data_of_value flags value =
    if nat_lt (length value) 16 then None
    else Some (i_data_chunk (record {
      flags = flags_of_bits flags;
      tsn = u32_at 0 value;
      stream_id = u16_at 4 value;
      mid = u32_at 8 value;
      ppid_or_fsn = u32_at 12 value;
      payload = drop 16 value;
    }))

-- SACK (RFC 9260, section 3.3.4): as many blocks and duplicates as their numbers say
unfoldable pub sack_of_value : List ℕ → Option ChunkContent
sack_of_value value =
    if nat_lt (length value) 12 then None
    else (if nat_lt (length value) (12 + 4 * u16_at 8 value + 4 * u16_at 10 value) then None
    else Some (sack_chunk (record {
      cumulative_tsn_ack = u32_at 0 value;
      a_rwnd = u32_at 4 value;
      gap_ack_blocks = take (4 * u16_at 8 value) (drop 12 value);
      duplicate_tsns = take (4 * u16_at 10 value) (drop (12 + 4 * u16_at 8 value) value);
    })))

-- SHUTDOWN (RFC 9260, section 3.3.8)
unfoldable pub shutdown_of_value : List ℕ → Option ChunkContent
shutdown_of_value value = if nat_lt (length value) 4 then None else Some (shutdown_chunk (u32_at 0 value))

-- FORWARD-TSN (RFC 3758, section 3.2)
unfoldable pub forward_tsn_of_value : List ℕ → Option ChunkContent
forward_tsn_of_value value = if has_entries 4 4 value then Some (forward_tsn_chunk (u32_at 0 value) (drop 4 value)) else None

-- I-FORWARD-TSN (RFC 8260, section 2.3.1)
unfoldable pub i_forward_tsn_of_value : List ℕ → Option ChunkContent
i_forward_tsn_of_value value = if has_entries 4 8 value then Some (i_forward_tsn_chunk (u32_at 0 value) (drop 4 value)) else None

-- What a chunk of this type, flags and value says, if it holds neither parameters nor causes.
unfoldable pub content_of_fields : ℕ → ℕ → List ℕ → Option ChunkContent
content_of_fields chunk_type flags value =
    if chunk_type == data_type then data_of_value flags value
    else (if chunk_type == sack_type then sack_of_value value
    else (if chunk_type == shutdown_type then shutdown_of_value value
    else (if chunk_type == shutdown_ack_type then Some shutdown_ack_chunk
    else (if chunk_type == cookie_echo_type then Some (cookie_echo_chunk value)
    else (if chunk_type == cookie_ack_type then Some cookie_ack_chunk
    else (if chunk_type == shutdown_complete_type then Some (shutdown_complete_chunk (lowest_bit flags))
    else (if chunk_type == i_data_type then i_data_of_value flags value
    else (if chunk_type == forward_tsn_type then forward_tsn_of_value value
    else (if chunk_type == i_forward_tsn_type then i_forward_tsn_of_value value
    else Some (unknown_chunk chunk_type flags value))))))))))

-- ---- entries of lists, by their places

-- a block of a SACK (RFC 9260, section 3.3.4)
abbrev pub numbered_gap_ack_block : ℕ → List ℕ → GapAckBlock
numbered_gap_ack_block index blocks = record { start = u16_at (4 * index) blocks; end = u16_at (4 * index + 2) blocks }

-- a stream of a FORWARD-TSN (RFC 3758, section 3.2)
abbrev pub numbered_skipped_stream : ℕ → List ℕ → SkippedStream
numbered_skipped_stream index streams = record { stream_id = u16_at (4 * index) streams; ssn = u16_at (4 * index + 2) streams }

-- a stream of an I-FORWARD-TSN, whose U bit is the lowest flag (RFC 8260, section 2.3.1)
abbrev pub numbered_skipped_messages : ℕ → List ℕ → SkippedMessages
numbered_skipped_messages index streams =
    record { stream_id = u16_at (8 * index) streams; is_unordered = lowest_bit (u16_at (8 * index + 2) streams); mid = u32_at (8 * index + 4) streams }
