-- What a FORWARD-TSN says (RFC 3758, section 3.5), and an I-FORWARD-TSN (RFC 8260, section 2.3.1).
use Rattle.std.specs.Prelude.{◌≡◌, ℕ, ◌+◌, ◌-◌, ◌%◌, ◌^◌, Bool, true, false, List, length, take, map}
use Rattle.dcsctp_api.specs.wire.declared.chunk.forward_tsn.SkippedStream.{SkippedStream}
use Rattle.dcsctp_api.specs.wire.declared.chunk.forward_tsn.SkippedMessages.{SkippedMessages}
use Rattle.dcsctp_send_retransmission.specs.declared.forward_tsn.ForwardTsn.{ForwardTsn}
use Rattle.dcsctp_send_retransmission.specs.declared.forward_tsn.Skipped.{Skipped}
use Rattle.dcsctp_send_retransmission.specs.declared.forward_tsn.Skipped.TheVariants.{Streams, Messages}
use Rattle.dcsctp_api.specs.spec.queues.Items.{Item}
use Rattle.dcsctp_api.specs.spec.queues.Retransmission.{RetransmissionState}
use Rattle.dcsctp_api.specs.spec.queues.Skipping.{entry_limit, ListsEntries, IsSkippedRow}

-- ---- the chunk

-- the entries of the chunk
abbrev pub stream_entry : SkippedStream → (ℕ × Bool) × ℕ
stream_entry entry = ((entry.stream_id, false), entry.ssn)

abbrev pub messages_entry : SkippedMessages → (ℕ × Bool) × ℕ
messages_entry entry = ((entry.stream_id, entry.is_unordered), entry.mid)

abbrev pub Lists : Bool → List Item → Skipped → Type 0
Lists false row (Streams streams) = ListsEntries false row (map stream_entry streams.items)
Lists false row (Messages messages) = ⊥
Lists true row (Streams streams) = ⊥
Lists true row (Messages messages) = ListsEntries true row (map messages_entry messages.items)

-- how many entries there are
abbrev pub entry_count : Skipped → ℕ
entry_count (Streams streams) = length streams.items
entry_count (Messages messages) = length messages.items

-- The chunk skips the first items which were abandoned, as far as it has room, and no other.
pub record SkipsAbandoned (queue : RetransmissionState) (chunk : ForwardTsn) : Type 0 where
  pub count : ℕ
  pub row : IsSkippedRow queue.outstanding.is_interleaved (entry_limit queue.outstanding.is_interleaved queue.congestion.mtu) (entry_count chunk.skipped) count queue.outstanding.items
  pub cumulative : chunk.new_cumulative_tsn ≡ (queue.outstanding.first_tsn + count + (2 ^ 32 - 1)) % 2 ^ 32
  pub lists : Lists queue.outstanding.is_interleaved (take count queue.outstanding.items) chunk.skipped
