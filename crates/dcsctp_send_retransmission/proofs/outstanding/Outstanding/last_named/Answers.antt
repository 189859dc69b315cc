use Rattle.std.proofs.Common.{List, subst, refl, add-one, arith}
use Rattle.std.proofs.lemmas.List.{take_all}
use Rattle.dcsctp_api.specs.wire.declared.chunk.sack.GapAckBlock.{GapAckBlock}
use Rattle.dcsctp_api.specs.spec.queues.Reports.{NamesItem, IsLastPlace}
use Rattle.dcsctp_send_retransmission.proofs.ReportLemmas.{named_more}
use Rattle.dcsctp_send_retransmission.proofs.outstanding.Outstanding.last_named.Goals as goal

pub loop-block-preserved : goal.loop-block-preserved
loop-block-preserved c =
    let here = rw (c.places_of-start.ensures.0, c.places_of-start.ensures.1) at c.last_within.ensures in
    rw (add-one, c.later_of-last.ensures)
    (named_more c.args.count c.args.blocks.now c.loop-block.block-index _ (record { start = 0; end = 0 }) c.args.self.now.items _ _ c.loop-block-test.true refl c.loop-block.invariant here)

pub returns : goal.returns
returns c =
    let P : List GapAckBlock → Type 0 = λ blocks. IsLastPlace (λ place item. NamesItem c.args.count blocks place) c.args.self.now.items c.loop-block.last in
    subst P (take_all c.loop-block.block-index c.args.blocks.now (omega (arith, c.loop-block-test.false))) c.loop-block.invariant
