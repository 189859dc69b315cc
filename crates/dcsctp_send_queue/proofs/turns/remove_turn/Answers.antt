use Rattle.std.proofs.Common.{◌<◌, ap, ◌∙◌, arith, length}
use Rattle.std.specs.List.{remove}
use Rattle.std.specs.VecDeque.{deque_len}
use Rattle.dcsctp_send_queue.proofs.TurnLemmas.{IsOrdered-with_turn, place_within, remove-with_turn}
use Rattle.dcsctp_send_queue.proofs.turns.remove_turn.Goals as goal

pub place_of-place-requires : goal.place_of-place-requires
place_of-place-requires c = rw c.requires.are (IsOrdered-with_turn c.requires.others c.args.turn c.requires.ordered)

pub returns-clause-turns : goal.returns-clause-turns
returns-clause-turns c others are =
    let place = rw are at c.place_of-place.ensures in
    let within = place_within others c.args.turn c.place_of-place.result place in
    let same = ap length are in
    let lt : c.place_of-place.result < deque_len c.args.turns.now = omega (arith, within, same, c.args.turns.now.ok.0) in
    let taken = c.remove.ensures.succeeds c.args.turn lt in
    (rw taken at c.remove.ensures.items)
    ∙ (ap (λ ts. remove ts c.place_of-place.result) are ∙ remove-with_turn others c.args.turn c.place_of-place.result place)
