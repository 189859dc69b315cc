use Rattle.std.proofs.Common.{ap, arith}
use Rattle.dcsctp_api.specs.types.declared.ids.StreamId.{StreamId}
use Rattle.dcsctp_send_queue.proofs.PausedLemmas.{less_through, not_less_from}
use Rattle.dcsctp_send_queue.proofs.paused.place_of.Goals as goal

pub halving-preserved-then-index-id : goal.halving-preserved-then-index-id
halving-preserved-then-index-id c =
    let at = ap (λ (id : StreamId). id.0) c.index.ensures in
    record {
      in_range = (omega arith, omega arith);
      below = less_through c.args.ids.now.items c.args.id c.index.result.now _ _ c.requires (omega arith) (omega (arith, at, c.if-index-id.true));
      above = c.halving.invariant.above;
    }

pub halving-preserved : goal.halving-preserved
halving-preserved c =
    let at = ap (λ (id : StreamId). id.0) c.index.ensures in
    record {
      in_range = (omega arith, omega arith);
      below = c.halving.invariant.below;
      above = not_less_from c.args.ids.now.items c.args.id c.index.result.now _ _ c.requires (omega arith) (omega (arith, at, c.if-index-id.false));
    }
