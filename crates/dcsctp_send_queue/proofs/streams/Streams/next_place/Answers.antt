use Rattle.dcsctp_send_queue.proofs.NextLemmas.{next_at, not_lost}
use Rattle.dcsctp_send_queue.proofs.streams.Streams.next_place.Goals as goal

pub returns-in-Ok-clause-some : goal.returns-in-Ok-clause-some
returns-in-Ok-clause-some c =
    let last = rw c.self.inside.turns.ok.0 at c.in_ok-turn.ensures.item in
    rw (← c.self.view_is)
    (next_at c.self.inside.items c.self.inside.turns.items _ c.in-Ok.place _ c.self.invariant.ranked last.3.0 last.1
    (rw c.self.view_is c.in-Ok.ensures.found.0) (rw c.self.view_is c.in-Ok.ensures.found.1))

pub returns-in-Err-clause-none : goal.returns-in-Err-clause-none
returns-in-Err-clause-none c =
    let last = rw c.self.inside.turns.ok.0 at c.in_ok-turn.ensures.item in
    absurd (not_lost c.self.inside.items c.self.inside.turns.items _ c.in-Err.field-0 _ c.self.invariant.ranked last.3.0 last.1
    (rw c.self.view_is c.in-Err.ensures.found))
