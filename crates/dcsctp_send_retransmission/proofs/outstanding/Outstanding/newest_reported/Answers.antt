use Rattle.std.proofs.Common.{List, subst, refl, add-one, arith}
use Rattle.std.proofs.lemmas.List.{take_all}
use Rattle.dcsctp_api.specs.wire.declared.chunk.sack.GapAckBlock.{GapAckBlock}
use Rattle.dcsctp_api.specs.spec.queues.Reports.{IsNewlyAcknowledged, IsLastPlace}
use Rattle.dcsctp_send_retransmission.proofs.ReportLemmas.{newest_more, newest_first}
use Rattle.dcsctp_send_retransmission.proofs.outstanding.Outstanding.newest_reported.Goals as goal

pub loop-block-init : goal.loop-block-init
loop-block-init c = newest_first c.args.count c.args.blocks.now c.args.self.now.items c.last_unacknowledged-newest.result c.last_unacknowledged-newest.ensures

pub loop-block-preserved : goal.loop-block-preserved
loop-block-preserved c =
    let here = rw (c.places_of-start.ensures.0, c.places_of-start.ensures.1) at c.last_unacknowledged_from-last.ensures in
    rw (add-one, c.later_of-newest.ensures)
    (newest_more c.args.count c.args.blocks.now c.loop-block.block-index _ (record { start = 0; end = 0 }) c.args.self.now.items _ _ c.loop-block-test.true refl c.loop-block.invariant here)

pub returns : goal.returns
returns c =
    let P : List GapAckBlock → Type 0 = λ blocks. IsLastPlace (IsNewlyAcknowledged c.args.count blocks) c.args.self.now.items c.loop-block.newest in
    subst P (take_all c.loop-block.block-index c.args.blocks.now (omega (arith, c.loop-block-test.false))) c.loop-block.invariant
