-- The call `advance_time` at the deadline of a delayed acknowledgement: it sends the SACK (RFC 9260, section 6.2).
use Rattle.std.specs.Prelude.{◌≡◌, ◌≤◌, ℕ, true, List, [], ◌∷◌}
use Rattle.dcsctp_spec_lemmas.specs.wire.Content.{SackContent}
use Rattle.dcsctp_spec_lemmas.specs.types.Schedule.{advance_call}
use Rattle.dcsctp_spec_lemmas.specs.spec.endpoint.CallTurns.{Transition, events_of}
use Rattle.dcsctp_spec_lemmas.specs.spec.endpoint.Endpoint.{Endpoint}
use Rattle.dcsctp_spec_lemmas.specs.spec.endpoint.Event.{packets_of_events}
use Rattle.dcsctp_spec_lemmas.specs.spec.endpoint.OwnTimers.{retransmission, heartbeat_interval, heartbeat_timeout, reconfiguration}
use Rattle.dcsctp_spec_lemmas.specs.spec.endpoint.TimeTurns.{Timer, own_timer, t2_timer, NoneIsDue}
use Rattle.dcsctp_spec_lemmas.specs.spec.endpoint.Turn.{with_clock}
use Rattle.dcsctp_spec_lemmas.specs.spec.endpoint.UserTurns.{UserTurns}
use Rattle.dcsctp_theorem_transfer.specs.Deadlines.{IsOpen}
use Rattle.dcsctp_theorem_transfer.specs.Expiring.{LeavesErrors, is_delay_over}
use Rattle.dcsctp_theorem_transfer.specs.Recovering.{BeginWithThisSack, DelaysSack}

-- the timers of an open association that are handled after the delay of an acknowledgement
abbrev pub later_timers : List Timer
later_timers = own_timer retransmission ∷ own_timer heartbeat_interval ∷ own_timer heartbeat_timeout ∷ own_timer reconfiguration ∷ t2_timer ∷ []

-- The association is open. The delay is over at this moment, and no other timer is due. The errors are within the limit.
pub record OnlyDelayIsOver (e : Endpoint) (moment : ℕ) : Type 0 where
  pub is_open : IsOpen e.core
  pub present : e.moment ≤ moment
  pub over : is_delay_over e moment ≡ true
  pub others : NoneIsDue (with_clock moment e) later_timers
  pub errors : LeavesErrors e.options.max_retransmissions e.error_count 0

-- A SACK that is delayed is sent by the call then, first in its first packet.
abbrev pub CallSendsDelayedSack : Type 0
CallSendsDelayedSack =
    (e : Endpoint) (sack : SackContent) (moment : ℕ) (turns : List Transition) → UserTurns e (advance_call moment) turns → DelaysSack e sack
    → OnlyDelayIsOver e moment → BeginWithThisSack sack (packets_of_events (events_of turns))
