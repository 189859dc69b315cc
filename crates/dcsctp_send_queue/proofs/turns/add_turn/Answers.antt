use Rattle.std.proofs.Common.{◌∙◌}
use Rattle.dcsctp_send_queue.proofs.TurnLemmas.{insert-with_turn}
use Rattle.dcsctp_send_queue.proofs.turns.add_turn.Goals as goal

pub returns-clause-turns : goal.returns-clause-turns
returns-clause-turns c = (rw c.unwrap.ensures at c.insert.ensures.items) ∙ insert-with_turn c.args.turns.now.items c.args.turn c.place_of-place.result c.place_of-place.ensures
