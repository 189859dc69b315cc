-- Each SACK has an outcome.
use Rattle.std.proofs.Common.{ℕ, Option, List, refl}
use Rattle.dcsctp_spec.specs.wire.CleanBlocks.{blocks_of_bytes}
use Rattle.dcsctp_spec.specs.wire.Content.{SackContent}
use Rattle.dcsctp_spec.specs.wire.declared.chunk.sack.GapAckBlock.{GapAckBlock}
use Rattle.dcsctp_spec.specs.queues.Acknowledging.{AcknowledgesItems, exiting, is_recovering}
use Rattle.dcsctp_spec.specs.queues.Outstanding.{acknowledged_count}
use Rattle.dcsctp_spec.specs.queues.Retransmission.{RetransmissionState}
use Rattle.dcsctp_spec.specs.queues.RoundTrip.{MeasuresRoundTrip}
use Rattle.dcsctp_spec.specs.queues.Transfer.{Transfer}
use Rattle.dcsctp_spec.specs.endpoint.TransferMoves.{TakesSack}
use Rattle.dcsctp_spec_lemmas.proofs.CleanedBlockLemmas.{some_cleaned}
use Rattle.dcsctp_spec_lemmas.proofs.ReportLemmas.{some_limit, some_newest}

some_acknowledged : (now cumulative window : ℕ) (blocks : List GapAckBlock) (old : RetransmissionState) → (new : RetransmissionState) × AcknowledgesItems now cumulative window blocks old new
some_acknowledged now cumulative window blocks old =
    let count : ℕ = acknowledged_count old.outstanding cumulative in
    let (limit, missing) = some_limit (is_recovering count (exiting cumulative old)) count blocks old.outstanding.items in
    let (newest, is_newest) = some_newest count blocks old.outstanding.items in
    (_, record { limit = limit; missing = missing; newest = newest; is_newest = is_newest; is = refl })

some_measured : (now count : ℕ) (blocks : List GapAckBlock) (old : RetransmissionState) → (round_trip : Option ℕ) × MeasuresRoundTrip now count blocks old.outstanding.items round_trip
some_measured now count blocks old =
    let (newest, is_newest) = some_newest count blocks old.outstanding.items in
    (_, record { newest = newest; is_newest = is_newest; is = refl })

pub some_taken : (now : ℕ) (sack : SackContent) (transfer : Transfer) → (left : Transfer) × TakesSack now sack transfer left
some_taken now sack transfer =
    let (blocks, cleaned) = some_cleaned (blocks_of_bytes sack.gap_ack_blocks) in
    let (left, acknowledges) = some_acknowledged now sack.cumulative_tsn_ack sack.a_rwnd blocks transfer.retransmission in
    let (round_trip, measures) = some_measured now (acknowledged_count transfer.retransmission.outstanding sack.cumulative_tsn_ack) blocks transfer.retransmission in
    (_, record { blocks = blocks; cleaned = cleaned; left = left; acknowledges = acknowledges; round_trip = round_trip; measures = measures; is = refl })
