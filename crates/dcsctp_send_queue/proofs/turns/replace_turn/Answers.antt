use Rattle.std.proofs.Common.{ap, ◌∙◌, arith, length, sym}
use Rattle.dcsctp_api.specs.types.queues.SendStreams.{with_turn}
use Rattle.dcsctp_send_queue.proofs.StreamLemmas.{set_single}
use Rattle.dcsctp_send_queue.proofs.turns.replace_turn.Goals as goal

pub add_turn-requires : goal.add_turn-requires
add_turn-requires c =
    let left = c.remove_turn.ensures.turns c.requires.others c.requires.are in
    let few = ap length left in
    let fits = c.requires.has_room in
    let kept = c.remove_turn.ensures.capacity in
    record {
      ordered = rw left c.requires.ordered;
      room = omega (arith, few, fits, kept, c.remove_turn.new.turns.ok.0);
    }

pub returns-then-len-eq1-clause-turns : goal.returns-then-len-eq1-clause-turns
returns-then-len-eq1-clause-turns c others are =
    set_single c.args.turns.now.items others c.args.before c.args.after are (sym c.args.turns.now.ok.0 ∙ (sym c.len.ensures ∙ c.if-len-eq1.true))

pub returns-clause-turns : goal.returns-clause-turns
returns-clause-turns c others are =
    let left = c.remove_turn.ensures.turns others are in
    c.add_turn.ensures.turns ∙ ap (λ ts. with_turn c.args.after ts) left
