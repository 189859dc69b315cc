use Rattle.std.proofs.Common.{List, refl, subst, sym, add-one, arith}
use Rattle.std.proofs.lemmas.List.{take_all}
use Rattle.dcsctp_api.specs.wire.declared.chunk.sack.GapAckBlock.{GapAckBlock}
use Rattle.dcsctp_send_retransmission.specs.NamedPlaces.{BlocksAreSettled}
use Rattle.dcsctp_api.specs.spec.queues.Outstanding.{OutstandingState, reported_items}
use Rattle.dcsctp_send_retransmission.proofs.ItemsLemmas.{reported_further}
use Rattle.dcsctp_send_retransmission.proofs.SettledLemmas.{reported_is_settled}
use Rattle.dcsctp_send_retransmission.proofs.outstanding.Outstanding.acknowledge_blocks.Goals as goal

pub loop-block-preserved : goal.loop-block-preserved
loop-block-preserved c =
    let further = reported_further c.args.count c.args.blocks.now c.loop-block.block-index _ (record { start = 0; end = 0 }) c.args.self.now.items c.loop-block-test.true refl in
    rw (c.change_from-row.ensures, c.places_of-start.ensures.0, c.places_of-start.ensures.1, c.loop-block.invariant, add-one, further) refl

pub keep_named-requires-clause-settled : goal.keep_named-requires-clause-settled
keep_named-requires-clause-settled c =
    let P : List GapAckBlock → Type 0 = λ blocks. BlocksAreSettled c.args.count c.args.blocks.now (reported_items c.args.count blocks c.args.self.now.items) in
    let Q : OutstandingState → Type 0 = λ m. BlocksAreSettled c.args.count c.args.blocks.now m.items in
    let all = take_all c.loop-block.block-index c.args.blocks.now (omega (arith, c.loop-block-test.false)) in
    subst Q (sym c.loop-block.invariant) (subst P (sym all) (reported_is_settled c.args.count c.args.blocks.now c.args.self.now.items))
