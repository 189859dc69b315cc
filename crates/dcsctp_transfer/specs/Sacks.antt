-- What a SACK does to an association's data (RFC 9260, sections 6.2.1 and 6.3).
use Rattle.std.specs.Prelude.{Bool, true, false, Result, Ok, Err, ◌≡◌, ℕ, List, ◌++◌, map}
use Rattle.std.specs.List.{AllByRecursion, flat_map}
use Rattle.std.specs.declared.alloc.AllocError.{AllocError}
use Rattle.dcsctp_send_retransmission.specs.wire.Content.{ChunkContent, SackContent}
use Rattle.dcsctp_send_retransmission.specs.wire.ReadsBack.{FitsChunk}
use Rattle.dcsctp_send_retransmission.specs.wire.Spelling.{chunk_bytes}
use Rattle.dcsctp_wire_build.specs.Building.{Building, bytes_remaining}
use Rattle.dcsctp_send_retransmission.specs.spec.endpoint.Event.{Event}
use Rattle.dcsctp_send_retransmission.specs.spec.queues.Acknowledging.{is_sack_valid, has_acknowledged, delivered_up_to}
use Rattle.dcsctp_send_retransmission.specs.spec.Packet.{unworked}
use Rattle.dcsctp_send_retransmission.specs.spec.queues.AtOnce.{SendsAtOnce}
use Rattle.dcsctp_send_retransmission.specs.spec.queues.Chunks.{AreChunksOfTsns}
use Rattle.dcsctp_send_retransmission.specs.spec.queues.Retransmission.{RetransmissionState}
use Rattle.dcsctp_send_retransmission.specs.spec.queues.SendQueue.{SendQueueState}
use Rattle.dcsctp_send_retransmission.specs.spec.queues.Transfer.{Transfer}
use Rattle.dcsctp_send_retransmission.specs.spec.endpoint.TransferMoves.{TakesSack, lost_all}
use Rattle.dcsctp_send_retransmission.specs.send_queue.Telling.{AddsFront}
use Rattle.dcsctp_transfer.specs.declared.sacks.HandledSack.{HandledSack}
use Rattle.dcsctp_transfer.specs.declared.sacks.HandledSack.TheVariants.{Invalid, Valid}

-- What a SACK does at this moment, by its result. If an allocation failed, the first of its events are added.
abbrev pub HandlesSack : ℕ → SackContent → Transfer → List (Event (List ℕ)) → Transfer → List (Event (List ℕ)) → Result HandledSack AllocError → Type 0
HandlesSack now sack old told new telling (Ok Invalid) =
    (is_sack_valid old.retransmission sack.cumulative_tsn_ack ≡ false) × (new ≡ old) × (telling ≡ told)
HandlesSack now sack old told new telling (Ok (Valid acknowledges)) =
    (is_sack_valid old.retransmission sack.cumulative_tsn_ack ≡ true)
    × TakesSack now sack old new
    × (telling ≡ told ++ delivered_up_to sack.cumulative_tsn_ack old.retransmission)
    × (acknowledges ≡ has_acknowledged old.retransmission new.retransmission)
HandlesSack now sack old told new telling (Err error) =
    (new ≡ old)
    × AddsFront told (delivered_up_to sack.cumulative_tsn_ack old.retransmission) telling
    × (is_sack_valid old.retransmission sack.cumulative_tsn_ack ≡ false → telling ≡ told)

-- All that is in flight is lost at this moment, or nothing changes.
abbrev pub lost_if_due : Bool → ℕ → Transfer → Transfer
lost_if_due true now transfer = lost_all now transfer
lost_if_due false now transfer = transfer

-- Chunks that were lost were put into a packet, or none. Nothing else of the queues moves, whatever waits.
pub record FillsAtOnce (now : ℕ) (old : Transfer) (packet : Building) (new : Transfer) (filled : Building) : Type 0 where
  pub left : RetransmissionState
  pub tsns : List ℕ
  pub sends : (waiting : SendQueueState) → SendsAtOnce now (bytes_remaining packet) waiting old.retransmission left tsns
  pub chunks : List ChunkContent
  pub are : AreChunksOfTsns left.outstanding tsns (map unworked chunks)
  pub fits : AllByRecursion FitsChunk chunks
  pub adds : filled ≡ record packet { body = packet.body ++ flat_map chunk_bytes chunks }
  pub is : new ≡ record old { retransmission = left }
