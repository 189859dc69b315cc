use Rattle.std.proofs.Common.{ap, ◌∙◌, arith}
use Rattle.dcsctp_api.specs.types.queues.SendStreams.{comes_after}
use Rattle.dcsctp_send_queue.proofs.TurnLemmas.{through, from_on}
use Rattle.dcsctp_send_queue.proofs.turns.place_of.Goals as goal

pub halving-preserved-then-comes_after : goal.halving-preserved-then-comes_after
halving-preserved-then-comes_after c =
    let at = ap (λ turn. comes_after turn c.args.turn) c.index.ensures in
    record {
      in_range = (omega arith, omega arith);
      below = through c.args.turns.now.items c.args.turn c.args.turn _ _ c.requires (omega arith) (c.if-comes_after.ensures ∙ at);
      above = c.halving.invariant.above;
    }

pub halving-preserved : goal.halving-preserved
halving-preserved c =
    let at = ap (λ turn. comes_after turn c.args.turn) c.index.ensures in
    record {
      in_range = (omega arith, omega arith);
      below = c.halving.invariant.below;
      above = from_on c.args.turns.now.items c.args.turn c.args.turn _ _ c.requires (omega arith) (c.if-comes_after.ensures ∙ at);
    }
