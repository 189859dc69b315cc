use Rattle.std.proofs.Common.{◌≡◌, ◌-◌, ◌++◌, ℤ, map, length, take, drop}
use Rattle.dcsctp_session.specs.Status.{status_number}
use Rattle.dcsctp_session.specs.Answering.{statuses_from_place}
use Rattle.dcsctp_session.proofs.many.tell_each.Given as goal

-- Those before this place are written, and what is left says the others.
abbrev pub invariant-loop-place : goal.invariant-loop-place
invariant-loop-place l =
    (length l.results ≡ length l.initial.results)
    × (take l.place l.results ++ map status_number (statuses_from_place (length l.initial.results - l.place) l.place (drop l.before l.refused))
    ≡ map status_number (statuses_from_place (length l.initial.results) 0 l.refused))
