-- What is true of a tracker's delay, and of what it received.
use Rattle.std.specs.Prelude.{◌≡◌, ℕ, ◌+◌, ◌≤◌, true, Option, Some, IfSome, IsSome, List}
use Rattle.dcsctp_spec_lemmas.specs.types.declared.tracking.TsnRange.{TsnRange}
use Rattle.dcsctp_spec_lemmas.specs.types.declared.tracking.AckState.{AckState}
use Rattle.dcsctp_spec_lemmas.specs.types.declared.tracking.AckState.TheVariants.{Idle, BecomingDelayed, Delayed, Immediate}
use Rattle.dcsctp_spec_lemmas.specs.spec.endpoint.Timers.{RunningTimer, TimerModel}
use Rattle.dcsctp_spec_lemmas.specs.spec.queues.Ranges.{is_number_covered}
use Rattle.dcsctp_spec_lemmas.specs.spec.queues.Tracker.{greatest_distance}

-- No number in the ranges is more than 65,535 beyond the cumulative one.
abbrev pub IsWithinReach : ℕ → List TsnRange → Type 0
IsWithinReach cumulative ranges = (number : ℕ) → is_number_covered number ranges ≡ true → number ≤ cumulative + greatest_distance

-- The timer doesn't start again once it has expired.
pub record RunsOnce (timer : TimerModel) : Type 0 where
  pub next : timer.settings.terms.max_restarts ≡ Some 0
  pub present : IfSome timer.running (λ running. running.terms.max_restarts ≡ Some 0)

-- While an acknowledgement is delayed, its timer runs.
abbrev pub RunsWhereDelayed : AckState → Option RunningTimer → Type 0
RunsWhereDelayed Idle running = Unit {0}
RunsWhereDelayed BecomingDelayed running = Unit {0}
RunsWhereDelayed Delayed running = IsSome running
RunsWhereDelayed Immediate running = Unit {0}
