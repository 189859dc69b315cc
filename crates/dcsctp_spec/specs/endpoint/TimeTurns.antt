-- Time: the deadlines that a socket waits for, and what `advance_time` does.
use Rattle.std.specs.Prelude.{◌≡◌, ◌≤◌, ◌<◌, ℕ, min, max, Bool, true, false, nat_le, if◌then◌else◌, Option, None, Some, List, [], ◌∷◌}
use Rattle.std.specs.Duration.{max_nanos}
use Rattle.dcsctp_spec.specs.endpoint.Endpoint.{Endpoint, Core, closed, cookie_wait, cookie_echoed, open_in}
use Rattle.dcsctp_spec.specs.endpoint.Timers.{RunningTimer, is_restarted}
use Rattle.dcsctp_spec.specs.association.Acts.{t1_expires, shutdown_repeats, abort_with, flushes}
use Rattle.dcsctp_types.specs.declared.ends.AbortReason.TheVariants.{TooManyErrors}
use Rattle.dcsctp_spec.specs.queues.Tracker.{delayed_acknowledgement}
use Rattle.dcsctp_spec.specs.queues.Transfer.{Transfer}
use Rattle.dcsctp_spec.specs.queues.Retransmission.{retransmission_deadline}
use Rattle.dcsctp_spec.specs.endpoint.HeartbeatOutcomes.{is_exhausted}
use Rattle.dcsctp_spec.specs.endpoint.OwnTimers.{OwnTimer, acknowledgement_delay, retransmission, heartbeat_interval, heartbeat_timeout, reconfiguration}
use Rattle.dcsctp_spec.specs.endpoint.Turn.{Input, act_input, timer_expires, time_passes, with_clock}
use Rattle.dcsctp_spec.specs.endpoint.CallTurns.{Transition, IsTurn, Turns, after_all, words_of, effects_of, events_of}

-- ---- deadlines

-- the timers of a socket: T1 (RFC 9260, section 5.1), those of an open association, and T2 (section 9.2)
pub data Timer : Type 0 where
  t1_timer : Timer
  own_timer : OwnTimer → Timer
  t2_timer : Timer

-- Those that are handled in a phase, in their order.
abbrev pub handled_timers : Core → List Timer
handled_timers closed = []
handled_timers (cookie_wait mine) = t1_timer ∷ []
handled_timers (cookie_echoed mine held cookie) = own_timer acknowledgement_delay ∷ t1_timer ∷ []
handled_timers (open_in phase mine held) =
    own_timer acknowledgement_delay ∷ own_timer retransmission ∷ own_timer heartbeat_interval ∷ own_timer heartbeat_timeout
    ∷ own_timer reconfiguration ∷ t2_timer ∷ []

-- Those whose deadlines count. While the COOKIE ECHO isn't answered it is T1 alone.
abbrev pub timers_counted : Core → List Timer
timers_counted closed = []
timers_counted (cookie_wait mine) = t1_timer ∷ []
timers_counted (cookie_echoed mine held cookie) = t1_timer ∷ []
timers_counted (open_in phase mine held) = handled_timers (open_in phase mine held)

-- when a timer expires next, if it runs
abbrev pub deadline_of : Option RunningTimer → Option ℕ
deadline_of None = None
deadline_of (Some timer) = Some timer.deadline

-- when an acknowledgement is delayed no longer, and when what is in flight is lost
abbrev pub delay_deadline : Option Transfer → Option ℕ
delay_deadline None = None
delay_deadline (Some transfer) = delayed_acknowledgement transfer.tracker

abbrev pub loss_deadline : Option Transfer → Option ℕ
loss_deadline None = None
loss_deadline (Some transfer) = retransmission_deadline transfer.retransmission

abbrev pub deadline : Endpoint → Timer → Option ℕ
deadline e t1_timer = deadline_of e.timers.t1
deadline e (own_timer acknowledgement_delay) = delay_deadline e.queues.transfer
deadline e (own_timer retransmission) = loss_deadline e.queues.transfer
deadline e (own_timer heartbeat_interval) = deadline_of e.timers.heartbeat_interval
deadline e (own_timer heartbeat_timeout) = deadline_of e.timers.heartbeat_timeout
deadline e (own_timer reconfiguration) = deadline_of e.timers.reconfiguration
deadline e t2_timer = deadline_of e.timers.t2

-- these, and one more, if there is one
abbrev pub with_deadline : Option ℕ → List ℕ → List ℕ
with_deadline None others = others
with_deadline (Some deadline) others = deadline ∷ others

abbrev pub deadlines_of : Endpoint → List Timer → List ℕ
deadlines_of e [] = []
deadlines_of e (timer ∷ timers) = with_deadline (deadline e timer) (deadlines_of e timers)

-- the running deadlines that count
abbrev pub deadlines : Endpoint → List ℕ
deadlines e = deadlines_of e (timers_counted e.core)

-- the least of these
abbrev pub earliest : ℕ → List ℕ → ℕ
earliest first [] = first
earliest first (deadline ∷ others) = earliest (min first deadline) others

-- never, if there is none; else the earliest, but not before the present moment
abbrev pub next_of : ℕ → List ℕ → ℕ
next_of moment [] = max_nanos
next_of moment (deadline ∷ others) = max (earliest deadline others) moment

-- The next deadline of a socket. The last moment means never.
abbrev pub next_moment : Endpoint → ℕ
next_moment e = next_of e.moment (deadlines e)

-- ---- the outcome of a moment

-- Has this deadline come?
abbrev pub has_come : ℕ → Option ℕ → Bool
has_come moment None = false
has_come moment (Some deadline) = nat_le deadline moment

-- is a restart left to a timer that expires?
abbrev pub has_restart : Option RunningTimer → Bool
has_restart None = false
has_restart (Some timer) = is_restarted timer

-- T2 sends its packet again. With no restart left the association is aborted, as after too many errors.
abbrev pub t2_input : Bool → Input
t2_input true = act_input shutdown_repeats
t2_input false = act_input (abort_with TooManyErrors)

-- what the expiry of a timer is
abbrev pub expiry_input : Endpoint → Timer → Input
expiry_input e t1_timer = act_input (t1_expires (has_restart e.timers.t1))
expiry_input e (own_timer timer) = timer_expires timer
expiry_input e t2_timer = t2_input (has_restart e.timers.t2)

-- its own abort, if too many errors were counted (RFC 9260, section 8.1); else these
abbrev pub unless_exhausted : Endpoint → List Input → List Input
unless_exhausted e inputs = if is_exhausted e.options.max_retransmissions e.error_count then act_input (abort_with TooManyErrors) ∷ [] else inputs

-- What follows the timers if one has expired: an association whose peer doesn't answer is aborted. Else what waits is sent,
-- except in CookieEchoed.
abbrev pub inputs_behind : Endpoint → Core → List Input
inputs_behind e closed = []
inputs_behind e (cookie_wait mine) = []
inputs_behind e (cookie_echoed mine held cookie) = unless_exhausted e []
inputs_behind e (open_in phase mine held) = unless_exhausted e (act_input flushes ∷ [])

abbrev pub after_expiries : Endpoint → Bool → List Input
after_expiries e false = []
after_expiries e true = inputs_behind e e.core

-- This input has its turn, and then come these.
abbrev pub FirstThen : (Endpoint → List Transition → Type 0) → Endpoint → Input → List Transition → Type 0
FirstThen Rest e input [] = ⊥
FirstThen Rest e input (first ∷ turns) = IsTurn e input first × Rest first.outcome.after turns

-- A timer that is due has its turn before these.
abbrev pub ExpiryThen : Bool → (Bool → Endpoint → List Transition → Type 0) → Endpoint → Bool → Timer → List Transition → Type 0
ExpiryThen true Rest e has_expired timer turns = FirstThen (Rest true) e (expiry_input e timer) turns
ExpiryThen false Rest e has_expired timer turns = Rest has_expired e turns

-- The turns of the timers that are due, each in the state that it is in at its turn, and what follows them. A flag says whether
-- one has expired before.
abbrev pub ExpiryTurns : List Timer → Bool → Endpoint → List Transition → Type 0
ExpiryTurns [] has_expired e turns = Turns e (after_expiries e has_expired) turns
ExpiryTurns (timer ∷ timers) has_expired e turns =
    ExpiryThen (has_come e.moment (deadline e timer)) (ExpiryTurns timers) e has_expired timer turns

-- All that is due.
abbrev pub DueTurns : Endpoint → List Transition → Type 0
DueTurns e turns = ExpiryTurns (handled_timers e.core) false e turns

-- The clock is moved, and then the timers that are due have their turns.
abbrev pub MomentTurns : Endpoint → ℕ → List Transition → Type 0
MomentTurns e moment [] = ⊥
MomentTurns e moment (moved ∷ turns) = IsTurn e (time_passes moment) moved × DueTurns moved.outcome.after turns

-- A moment that isn't earlier than the present one moves the clock; an earlier one changes nothing.
abbrev pub TimeTurns : Bool → Endpoint → ℕ → List Transition → Type 0
TimeTurns true e moment turns = MomentTurns e moment turns
TimeTurns false e moment turns = turns ≡ []

-- `advance_time` is called.
abbrev pub AdvanceTurns : Endpoint → ℕ → List Transition → Type 0
AdvanceTurns e moment turns = TimeTurns (nat_le e.moment moment) e moment turns

-- ---- if nothing is due

-- No COOKIE ACK is awaited: if one is, an acknowledgement may have a deadline that `poll_timeout` doesn't give.
abbrev pub AwaitsNoCookieAck : Core → Type 0
AwaitsNoCookieAck closed = Unit {0}
AwaitsNoCookieAck (cookie_wait mine) = Unit {0}
AwaitsNoCookieAck (cookie_echoed mine held cookie) = ⊥
AwaitsNoCookieAck (open_in phase mine held) = Unit {0}

-- None of these timers is due.
abbrev pub NoneIsDue : Endpoint → List Timer → Type 0
NoneIsDue e [] = Unit {0}
NoneIsDue e (timer ∷ timers) = (has_come e.moment (deadline e timer) ≡ false) × NoneIsDue e timers

-- The moment isn't before the present one, and is before the socket's next deadline.
pub record Waits (e : Endpoint) (moment : ℕ) : Type 0 where
  pub phase : AwaitsNoCookieAck e.core
  pub present : e.moment ≤ moment
  pub next : moment < next_moment e

-- The clock has moved, and nothing else happened.
pub record MoveClock (e : Endpoint) (moment : ℕ) (turns : List Transition) : Type 0 where
  pub endpoint : after_all e turns ≡ with_clock moment e
  pub events : events_of turns ≡ []
  pub words : words_of turns ≡ []
  pub effects : effects_of turns ≡ []

-- Time that passes before the next moment only moves the clock.
abbrev pub TimePassesQuietly : Type 0
TimePassesQuietly = (e : Endpoint) (moment : ℕ) (turns : List Transition) → AdvanceTurns e moment turns → Waits e moment → MoveClock e moment turns
