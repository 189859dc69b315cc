-- How a packet is filled: with data, and with what acknowledges data (RFC 9260, sections 6.1 and 6.2).
use Rattle.std.specs.Prelude.{◌≡◌, ℕ, ◌&&◌, ◌||◌, nat_le, length, if◌then◌else◌, Bool, true, false, List, [], ◌∷◌, ◌++◌, map}
use Rattle.std.specs.List.{AllByRecursion, flat_map}
use Rattle.dcsctp_send_retransmission.specs.wire.Content.{ChunkContent, sack_chunk}
use Rattle.dcsctp_send_retransmission.specs.wire.ReadsBack.{FitsChunk}
use Rattle.dcsctp_send_retransmission.specs.wire.Spelling.{chunk_bytes}
use Rattle.dcsctp_wire_build.specs.Building.{Building, bytes_remaining}
use Rattle.dcsctp_send_retransmission.specs.spec.endpoint.Event.{Event}
use Rattle.dcsctp_send_retransmission.specs.spec.Packet.{unworked}
use Rattle.dcsctp_send_retransmission.specs.spec.queues.Chunks.{AreChunksOfTsns}
use Rattle.dcsctp_send_retransmission.specs.spec.queues.Filling.{Stage}
use Rattle.dcsctp_send_retransmission.specs.spec.queues.Retransmission.{outstanding_count}
use Rattle.dcsctp_send_retransmission.specs.spec.queues.SendQueue.{SendQueueState, has_queued_data}
use Rattle.dcsctp_send_retransmission.specs.spec.queues.Tracker.{is_acknowledgement_due, owes_acknowledgement, sack_of, tracker_after_sack}
use Rattle.dcsctp_send_retransmission.specs.spec.queues.Transfer.{Transfer, advertised_window, may_give}
use Rattle.dcsctp_send_retransmission.specs.spec.endpoint.FlushOutcomes.{FillingEvent, filling_event_content, stage_of, FillsIfAllowed}
use Rattle.dcsctp_send_retransmission.specs.send_queue.Telling.{AddsFront}

-- is there any?
abbrev pub has_chunks : List ChunkContent → Bool
has_chunks [] = false
has_chunks (chunk ∷ chunks) = true

-- ---- data

-- what the queues do while a packet with that much room is filled
abbrev pub FillsRoom : ℕ → ℕ → Transfer → SendQueueState → Stage → Type 0
FillsRoom now room transfer waiting sent =
    FillsIfAllowed (may_give waiting transfer.retransmission) now (stage_of waiting transfer.retransmission [] room) sent

-- what waits in the send queue, the events so far, and the packet
pub record PacketStage : Type 0 where
  pub waiting : SendQueueState
  pub events : List (Event (List ℕ))
  pub packet : Building

abbrev pub packet_stage : SendQueueState → List (Event (List ℕ)) → Building → PacketStage
packet_stage waiting events packet = record { waiting = waiting; events = events; packet = packet }

-- Chunks with data were put into a packet, or none, and their events were added. Where nothing waits and nothing is outstanding,
-- nothing has changed.
pub record FillsDataPacket (now : ℕ) (old : Transfer) (before : PacketStage) (new : Transfer) (after : PacketStage) (any : Bool) : Type 0 where
  pub sent : Stage
  pub fills : FillsRoom now (bytes_remaining before.packet) old before.waiting sent
  pub idle : has_queued_data before.waiting ≡ false → outstanding_count old.retransmission ≡ 0
      → sent ≡ stage_of before.waiting old.retransmission [] (bytes_remaining before.packet)
  pub chunks : List ChunkContent
  pub are : AreChunksOfTsns sent.queue.outstanding sent.tsns (map unworked chunks)
  pub fits : AllByRecursion FitsChunk chunks
  pub adds : after.packet ≡ record before.packet { body = before.packet.body ++ flat_map chunk_bytes chunks }
  pub told : List FillingEvent
  pub are_told : map filling_event_content told ≡ sent.told
  pub tells : after.events ≡ before.events ++ sent.told
  pub answers : any ≡ has_chunks chunks
  pub queue : after.waiting ≡ sent.waiting
  pub is : new ≡ record old { retransmission = sent.queue }

-- If an allocation failed, the first events of some such filling were added.
pub record AddsFirstOfFilling (now room : ℕ) (old : Transfer) (waiting : SendQueueState) (before after : List (Event (List ℕ))) : Type 0 where
  pub sent : Stage
  pub fills : FillsRoom now room old waiting sent
  pub tells : AddsFront before sent.told after

-- ---- what acknowledges

-- Is a SACK to be sent? One that is delayed may go along.
abbrev pub is_sack_wanted : Bool → Transfer → Bool
is_sack_wanted along transfer = is_acknowledgement_due transfer.tracker || (owes_acknowledgement transfer.tracker && along)

-- the packet with the chunk after the others, if it fits
abbrev pub with_chunk : Building → ChunkContent → Building
with_chunk packet chunk = if nat_le (length (chunk_bytes chunk)) (bytes_remaining packet) then record packet { body = packet.body ++ chunk_bytes chunk } else packet

-- A SACK was made, or none was asked for.
abbrev pub FillsRequestedSack : Bool → Transfer → Building → Transfer → Building → Type 0
FillsRequestedSack true old packet new filled =
    (new ≡ record old { tracker = tracker_after_sack old.tracker }) × (filled ≡ with_chunk packet (sack_chunk (sack_of (bytes_remaining packet) old.tracker (advertised_window old))))
FillsRequestedSack false old packet new filled = (new ≡ old) × (filled ≡ packet)
