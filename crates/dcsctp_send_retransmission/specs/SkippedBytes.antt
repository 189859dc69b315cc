-- The entries of a FORWARD-TSN (RFC 3758, section 3.2) and of an I-FORWARD-TSN (RFC 8260, section 2.3.1), in bytes.
use Rattle.std.specs.Prelude.{◌≡◌, ℕ, ◌*◌, ◌^◌, ◌<◌, Some, List, ◌++◌, length, slice_get}
use Rattle.std.specs.List.{flat_map}
use Rattle.std.specs.Int.{w16, w32, to_be_bytes}
use Rattle.dcsctp_api.specs.wire.Fields.{numbered_skipped_stream, numbered_skipped_messages}
use Rattle.dcsctp_api.specs.wire.Spelling.{t_bit}
use Rattle.dcsctp_api.specs.wire.declared.chunk.forward_tsn.SkippedStream.{SkippedStream}
use Rattle.dcsctp_api.specs.wire.declared.chunk.forward_tsn.SkippedMessages.{SkippedMessages}
use Rattle.dcsctp_send_retransmission.specs.declared.forward_tsn.Skipped.{Skipped}
use Rattle.dcsctp_send_retransmission.specs.declared.forward_tsn.Skipped.TheVariants.{Streams, Messages}

-- the stream, and the last number that is skipped
abbrev pub skipped_stream_bytes : SkippedStream → List ℕ
skipped_stream_bytes entry = to_be_bytes w16 entry.stream_id ++ to_be_bytes w16 entry.ssn

-- the stream, the flags, of which U is the lowest and the others are reserved, and the last identifier that is skipped
abbrev pub messages_bytes : SkippedMessages → List ℕ
messages_bytes entry = to_be_bytes w16 entry.stream_id ++ to_be_bytes w16 (t_bit entry.is_unordered) ++ to_be_bytes w32 entry.mid

-- one entry after the other
abbrev pub skipped_bytes : Skipped → List ℕ
skipped_bytes (Streams streams) = flat_map skipped_stream_bytes streams.items
skipped_bytes (Messages messages) = flat_map messages_bytes messages.items

-- entries within their fields
abbrev pub FitsStream : SkippedStream → Type 0
FitsStream entry = (entry.stream_id < 2 ^ 16) × (entry.ssn < 2 ^ 16)

abbrev pub FitsMessages : SkippedMessages → Type 0
FitsMessages entry = (entry.stream_id < 2 ^ 16) × (entry.mid < 2 ^ 32)

-- These bytes are the entries of a chunk: a reader of the entry at a place finds that entry.
abbrev pub ReadsAs : Skipped → List ℕ → Type 0
ReadsAs (Streams streams) bytes =
    (length bytes ≡ 4 * length streams.items)
    × ((index : ℕ) (entry : SkippedStream) → FitsStream entry → slice_get streams.items index ≡ Some entry → numbered_skipped_stream index bytes ≡ entry)
ReadsAs (Messages messages) bytes =
    (length bytes ≡ 8 * length messages.items)
    × ((index : ℕ) (entry : SkippedMessages) → FitsMessages entry → slice_get messages.items index ≡ Some entry → numbered_skipped_messages index bytes ≡ entry)
