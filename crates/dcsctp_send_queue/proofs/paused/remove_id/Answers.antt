use Rattle.std.proofs.Common.{◌<◌, ap, sym, ◌∙◌, arith, length}
use Rattle.std.specs.List.{remove}
use Rattle.std.specs.VecDeque.{deque_len}
use Rattle.dcsctp_send_queue.proofs.PausedLemmas.{AreIdsAscending-with_id, id_within, only_id, remove-with_id}
use Rattle.dcsctp_send_queue.proofs.paused.remove_id.Goals as goal

pub place_of-place-requires : goal.place_of-place-requires
place_of-place-requires c = rw c.requires.are (AreIdsAscending-with_id c.requires.others c.args.id c.requires.ascending)

pub returns-clause-ids : goal.returns-clause-ids
returns-clause-ids c others are =
    let place = rw are at c.place_of-place.ensures in
    let within = id_within others c.args.id c.place_of-place.result place in
    let same = ap length are in
    let lt : c.place_of-place.result < deque_len c.args.ids.now = omega (arith, within, same, c.args.ids.now.ok.0) in
    let taken = c.remove.ensures.succeeds c.args.id lt in
    (rw taken at c.remove.ensures.items)
    ∙ (ap (λ ids. remove ids c.place_of-place.result) are ∙ remove-with_id others c.args.id c.place_of-place.result place)

pub returns-then-len-eq1-clause-ids : goal.returns-then-len-eq1-clause-ids
returns-then-len-eq1-clause-ids c others are =
    let one = sym (ap length are) ∙ (sym c.args.ids.now.ok.0 ∙ (sym c.len.ensures ∙ c.if-len-eq1.true)) in
    c.clear.ensures.items ∙ sym (only_id others c.args.id one)
