-- A socket that connects, and whose INITs or COOKIE ECHOs are lost: the restarts of its T1, and when it expires.
use Rattle.std.specs.Prelude.{◌≡◌, ◌≤◌, ◌+◌, ◌&&◌, false, ℕ, zero, suc, max, Option, None, Some}
use Rattle.std.specs.Duration.{max_nanos}
use Rattle.dcsctp_spec_lemmas.specs.types.declared.association.Pair.{Pair}
use Rattle.dcsctp_spec_lemmas.specs.spec.CookieFits.{FitsPair}
use Rattle.dcsctp_spec_lemmas.specs.spec.endpoint.Endpoint.{Endpoint, cookie_wait}
use Rattle.dcsctp_spec_lemmas.specs.spec.endpoint.Timers.{RunningTimer, continued_timer}

-- A timer that has expired that often may do so that many times more, and go on.
abbrev pub LeavesRestarts : Option ℕ → ℕ → ℕ → Type 0
LeavesRestarts None expiries more = Unit {0}
LeavesRestarts (Some limit) expiries more = expiries + more ≤ limit

-- T1 runs with that many restarts left. Clock and deadline are moments that there are.
pub record RetriesT1 (e : Endpoint) (more : ℕ) : Type 0 where
  pub timer : RunningTimer
  pub runs : e.timers.t1 ≡ Some timer
  pub left : LeavesRestarts timer.terms.max_restarts timer.expiries more
  pub clock : e.moment ≤ max_nanos
  pub deadline : timer.deadline ≤ max_nanos

-- It awaits an INIT ACK with that many restarts of T1 left, and no shutdown was asked for. Messages may be queued.
pub record RetriesInit (e : Endpoint) (p : Pair) (more : ℕ) : Type 0 where
  pub core : e.core ≡ cookie_wait p
  pub asks : (e.options.follow_rfc && e.shutdown_asked) ≡ false
  pub pair : FitsPair p
  pub t1 : RetriesT1 e more

-- ---- when T1 expires

-- the moment at which a timer has expired that many times more, if it goes on, and each time expires as soon as it is due
abbrev pub nth_expiry : ℕ → RunningTimer → ℕ → ℕ
nth_expiry moment timer zero = moment
nth_expiry moment timer (suc more) =
    let next : ℕ = max timer.deadline moment in
    nth_expiry next (continued_timer next timer) more

abbrev pub timer_expiry : ℕ → Option RunningTimer → ℕ → ℕ
timer_expiry moment None more = max_nanos
timer_expiry moment (Some timer) more = nth_expiry moment timer more

-- the moment at which T1 has
abbrev pub t1_expiry : Endpoint → ℕ → ℕ
t1_expiry e more = timer_expiry e.moment e.timers.t1 more
