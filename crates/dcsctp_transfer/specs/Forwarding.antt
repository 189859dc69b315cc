-- Chunks by which the peer waits no longer for messages that were abandoned (RFC 3758, section 3.5; RFC 8260, section 2.3.1).
use Rattle.std.specs.Prelude.{◌≡◌, ◌≤◌, ℕ, length, Option, List, [], ◌++◌, map}
use Rattle.std.specs.List.{AllByRecursion, flat_map}
use Rattle.dcsctp_send_retransmission.specs.wire.Content.{ChunkContent, forward_tsn_chunk, i_forward_tsn_chunk}
use Rattle.dcsctp_send_retransmission.specs.wire.ReadsBack.{FitsChunk}
use Rattle.dcsctp_send_retransmission.specs.wire.Spelling.{chunk_bytes}
use Rattle.dcsctp_wire_build.specs.Building.{Building, bytes_remaining}
use Rattle.dcsctp_send_retransmission.specs.spec.endpoint.Event.{Event}
use Rattle.dcsctp_send_retransmission.specs.spec.Packet.{Plain, plain_out}
use Rattle.dcsctp_send_retransmission.specs.spec.queues.Abandoning.{GivesUpAll}
use Rattle.dcsctp_send_retransmission.specs.spec.queues.Filling.{Stage}
use Rattle.dcsctp_send_retransmission.specs.spec.queues.Retransmission.{RetransmissionState}
use Rattle.dcsctp_send_retransmission.specs.spec.queues.SendQueue.{SendQueueState}
use Rattle.dcsctp_send_retransmission.specs.spec.queues.Skipping.{SaysForward}
use Rattle.dcsctp_send_retransmission.specs.spec.queues.Transfer.{Transfer}
use Rattle.dcsctp_send_retransmission.specs.spec.endpoint.FlushOutcomes.{FillingEvent, filling_event_content, FitsPlain, stage_of, may_abandon, GivesUpThenForwards, forward_made}
use Rattle.dcsctp_send_retransmission.specs.send_queue.Telling.{AddsFront}
use Rattle.dcsctp_send_retransmission.specs.declared.forward_tsn.Skipped.{Skipped}
use Rattle.dcsctp_send_retransmission.specs.declared.forward_tsn.Skipped.TheVariants.{Streams, Messages}
use Rattle.dcsctp_transfer.specs.Filling.{with_chunk, PacketStage}

-- the chunk with this new cumulative TSN, and with entries as they lie in memory
abbrev pub forward_said : ℕ → List ℕ → Skipped → ChunkContent
forward_said tsn entries (Streams streams) = forward_tsn_chunk tsn entries
forward_said tsn entries (Messages messages) = i_forward_tsn_chunk tsn entries

-- What skips messages was put after the other chunks, if it fits; its numbers fit their fields then.
pub record PutsForward (state : RetransmissionState) (packet filled : Building) : Type 0 where
  pub chunk : ChunkContent
  pub says : SaysForward state chunk
  pub fits : length (chunk_bytes chunk) ≤ bytes_remaining packet → FitsChunk chunk
  pub is : filled ≡ with_chunk packet chunk

-- what the queues do before a FORWARD-TSN, and which chunks that brings
abbrev pub AbandonsExpired : ℕ → ℕ → Transfer → SendQueueState → Stage → Option ℕ → List Plain → Type 0
AbandonsExpired now room transfer waiting gave_up next chunks =
    GivesUpThenForwards (may_abandon transfer.retransmission) now transfer room (stage_of waiting transfer.retransmission [] 0) gave_up (forward_made next chunks)

-- Messages were abandoned, and their events were added. If a chunk was made, the result says when the next one may be made.
pub record MakesForwardTsn (now : ℕ) (old : Transfer) (before : PacketStage) (new : Transfer) (after : PacketStage) (next : Option ℕ) : Type 0 where
  pub gave_up : Stage
  pub chunks : List Plain
  pub gives_up : AbandonsExpired now (bytes_remaining before.packet) old before.waiting gave_up next chunks
  pub fits : AllByRecursion FitsPlain chunks
  pub adds : after.packet ≡ record before.packet { body = before.packet.body ++ flat_map chunk_bytes (map plain_out chunks) }
  pub told : List FillingEvent
  pub are_told : map filling_event_content told ≡ gave_up.told
  pub tells : after.events ≡ before.events ++ gave_up.told
  pub queue : after.waiting ≡ gave_up.waiting
  pub is : new ≡ record old { retransmission = gave_up.queue }

-- If an allocation failed, the first of these events were added.
pub record AddsFirstOfAbandoning (now : ℕ) (old : Transfer) (waiting : SendQueueState) (before after : List (Event (List ℕ))) : Type 0 where
  pub gave_up : Stage
  pub gives_up : GivesUpAll now (stage_of waiting old.retransmission [] 0) gave_up
  pub tells : AddsFront before gave_up.told after
