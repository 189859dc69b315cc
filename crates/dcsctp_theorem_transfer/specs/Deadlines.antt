-- A socket asks to be called again in time: no later than each of its timers expires that must run.
use Rattle.std.specs.Prelude.{ℕ, ◌≤◌, max, Option, None, Some, List, [], ◌∷◌}
use Rattle.dcsctp_spec_lemmas.specs.types.declared.tracking.AckState.{AckState}
use Rattle.dcsctp_spec_lemmas.specs.types.declared.tracking.AckState.TheVariants.{Idle, BecomingDelayed, Delayed, Immediate}
use Rattle.dcsctp_spec_lemmas.specs.spec.endpoint.Endpoint.{Endpoint, Core, closed, cookie_wait, cookie_echoed, open_in}
use Rattle.dcsctp_spec_lemmas.specs.spec.endpoint.OwnTimers.{acknowledgement_delay, retransmission}
use Rattle.dcsctp_spec_lemmas.specs.spec.endpoint.TimeTurns.{t1_timer, own_timer, deadline, next_moment}
use Rattle.dcsctp_spec_lemmas.specs.spec.queues.Items.{Item}
use Rattle.dcsctp_spec_lemmas.specs.spec.queues.Transfer.{Transfer}
use Rattle.dcsctp_spec_runs.specs.Deadlines.{T1Runs}
use Rattle.dcsctp_theorem_transfer.specs.Delaying.{DelaysByTimer}
use Rattle.dcsctp_theorem_transfer.specs.Retransmitting.{RunsT3}

-- An INIT ACK or a COOKIE ACK is awaited.
abbrev pub AwaitsAnswer : Core → Type 0
AwaitsAnswer closed = ⊥
AwaitsAnswer (cookie_wait my) = Unit {0}
AwaitsAnswer (cookie_echoed my held cookie) = Unit {0}
AwaitsAnswer (open_in phase my held) = ⊥

abbrev pub IsOpen : Core → Type 0
IsOpen closed = ⊥
IsOpen (cookie_wait my) = ⊥
IsOpen (cookie_echoed my held cookie) = ⊥
IsOpen (open_in phase my held) = Unit {0}

abbrev pub AreSome : List Item → Type 0
AreSome [] = ⊥
AreSome (item ∷ items) = Unit {0}

-- Data was sent that isn't acknowledged yet.
abbrev pub HasOutstanding : Option Transfer → Type 0
HasOutstanding None = ⊥
HasOutstanding (Some transfer) = AreSome transfer.retransmission.outstanding.items

abbrev pub IsDelayedState : AckState → Type 0
IsDelayedState Idle = ⊥
IsDelayedState BecomingDelayed = ⊥
IsDelayedState Delayed = Unit {0}
IsDelayedState Immediate = ⊥

-- Data was received whose acknowledgement is delayed.
abbrev pub IsDelaying : Option Transfer → Type 0
IsDelaying None = ⊥
IsDelaying (Some transfer) = IsDelayedState transfer.tracker.acknowledgement

-- There is such a deadline, and `poll_timeout` answers no later moment, or the present one if the deadline has come.
abbrev pub MeetsDeadline : Endpoint → Option ℕ → Type 0
MeetsDeadline e None = ⊥
MeetsDeadline e (Some deadline) = next_moment e ≤ max deadline e.moment

-- It asks to be called when T1, T3 or the delay of an acknowledgement expires at the latest (RFC 9260, sections 5.1, 6.3.2 and 6.2).
-- While a COOKIE ACK is awaited that is T1 alone.
pub record AsksInTime (e : Endpoint) : Type 0 where
  pub connecting : AwaitsAnswer e.core → MeetsDeadline e (deadline e t1_timer)
  pub sending : IsOpen e.core → HasOutstanding e.queues.transfer → MeetsDeadline e (deadline e (own_timer retransmission))
  pub receiving : IsOpen e.core → IsDelaying e.queues.transfer → MeetsDeadline e (deadline e (own_timer acknowledgement_delay))

-- So it does if these timers run.
abbrev pub RunningTimersCount : Type 0
RunningTimersCount = (e : Endpoint) → T1Runs e.core e.timers.t1 → RunsT3 e.queues.transfer → DelaysByTimer e.queues.transfer → AsksInTime e
