-- What becomes of timers when a moment has come.
use Rattle.std.specs.Prelude.{◌≡◌, ℕ, Bool, true, false, Option, None, Some, Result}
use Rattle.rand_core.specs.Stream.{Stream}
use Rattle.dcsctp_transfer.specs.types.ByResult.{ByResult}
use Rattle.dcsctp_transfer.specs.spec.endpoint.Endpoint.{Endpoint}
use Rattle.dcsctp_transfer.specs.spec.endpoint.Timers.{RunningTimer, is_timer_expired, is_restarted, TimerModel, running_after}
use Rattle.dcsctp_transfer.specs.spec.endpoint.Outcome.{Outcome}
use Rattle.dcsctp_transfer.specs.spec.endpoint.TimeTurns.{Timer, deadline, has_come, expiry_input}
use Rattle.dcsctp_transfer.specs.spec.endpoint.Turn.{Turn}
use Rattle.dcsctp_core.specs.declared.context.Context.{Context}
use Rattle.dcsctp_core.specs.View.{View, view_of}
use Rattle.dcsctp_core.specs.Handling.{TakesPossibleTurn, CutsSomeTurn}
use Rattle.dcsctp_core.specs.declared.expiry.Expiry.{Expiry}
use Rattle.dcsctp_core.specs.declared.expiry.Expiry.TheVariants.{NotDue, Again, GaveUp}
use Rattle.dcsctp_core.specs.declared.state.State.{State}
use Rattle.dcsctp_core.specs.declared.state.State.TheVariants.{Closed, CookieWait, CookieEchoed, Open}

-- what is said of a timer that runs
abbrev pub expiry_if_due : Bool → Bool → Expiry
expiry_if_due true true = Again
expiry_if_due true false = GaveUp
expiry_if_due false restarts = NotDue

-- what is said of a timer, if it runs
abbrev pub expiry_of : ℕ → Option RunningTimer → Expiry
expiry_of moment None = NotDue
expiry_of moment (Some timer) = expiry_if_due (is_timer_expired moment timer) (is_restarted timer)

-- a timer once this moment has come
abbrev pub timer_after : ℕ → TimerModel → TimerModel
timer_after moment timer = record timer { running = running_after moment timer.running }

-- the state once T1 has come to this moment
abbrev pub state_after_t1 : ℕ → State → State
state_after_t1 moment Closed = Closed
state_after_t1 moment (CookieWait wait) = CookieWait (record wait { t1_init = timer_after moment wait.t1_init })
state_after_t1 moment (CookieEchoed echoed) = CookieEchoed (record echoed { t1_cookie = timer_after moment echoed.t1_cookie })
state_after_t1 moment (Open opened) = Open opened

-- the view with this endpoint, if a timer has expired
abbrev pub where_expired : {R : Type 0} → Bool → Endpoint → View R → View R
where_expired true e view = record view { endpoint = e }
where_expired false e view = view

-- ---- a timer's turn

-- is it due at an endpoint?
abbrev pub is_timer_due : Endpoint → Timer → Bool
is_timer_due e timer = has_come e.moment (deadline e timer)

-- what may come of a timer that expires
abbrev pub ExpiryTurn : {R : Type 0} → Timer → View R → Outcome → Type 0
ExpiryTurn timer view o = Turn view.endpoint (expiry_input view.endpoint timer) o

-- The timer expired, and its turn took place; or it isn't due, and nothing has changed.
abbrev pub ExpiresAlways : {R : Type 0} → (R → Stream) → Timer → Context R → Bool → Context R → Type 0
ExpiresAlways stream timer old true new = (is_timer_due (view_of old).endpoint timer ≡ true) × TakesPossibleTurn stream (ExpiryTurn timer) (view_of old) (view_of new)
ExpiresAlways stream timer old false new = (is_timer_due (view_of old).endpoint timer ≡ false) × (view_of new ≡ view_of old)

-- That is so; or an allocation failed in the turn of a timer that is due, and the first of its events may have been added.
abbrev pub Expires : {R E : Type 0} → (R → Stream) → Timer → Context R → Result Bool E → Context R → Type 0
Expires stream timer old result new =
    ByResult (λ is_expired. ExpiresAlways stream timer old is_expired new)
    ((is_timer_due (view_of old).endpoint timer ≡ true) × CutsSomeTurn (ExpiryTurn timer) (view_of old) (view_of new).events) result
