-- Timers (RFC 9260, section 6.3). Moments and durations are nanoseconds.
use Rattle.std.specs.Prelude.{ℕ, ◌+◌, ◌*◌, ◌-◌, ◌^◌, min, max, nat_le, nat_lt, Bool, true, false, if◌then◌else◌, Option, None, Some}
use Rattle.std.specs.Duration.{as_nanos, max_nanos}
use Rattle.std.specs.Option.{option_map}
use Rattle.dcsctp_types.specs.declared.options.Options.{Options}
use Rattle.dcsctp_types.specs.declared.kinds.BackoffAlgorithm.{BackoffAlgorithm}
use Rattle.dcsctp_types.specs.declared.kinds.BackoffAlgorithm.TheVariants.{Fixed, Exponential}

-- How a timer continues once it has expired (RFC 9260, section 6.3.3). Durations are nanoseconds.
pub record BackoffTerms : Type 0 where
  pub backoff : BackoffAlgorithm
  -- how often it restarts after it has expired; None: no limit
  pub max_restarts : Option ℕ
  -- the longest that it runs after it has expired; None: no limit
  pub max_backoff : Option ℕ

-- How a timer runs, once it is started.
pub record TimerSettings : Type 0 where
  -- how long before it expires first
  pub duration : ℕ
  pub terms : BackoffTerms

-- A timer of this layer that runs (RFC 9260, sections 5.1, 8.3 and 9.2; RFC 6525, section 5.1).
pub record RunningTimer : Type 0 where
  -- the moment at which it expires next, in nanoseconds
  pub deadline : ℕ
  -- how long it runs this time, before the limit is applied
  pub wait : ℕ
  pub expiries : ℕ
  pub terms : BackoffTerms

-- the moment that comes that much later, or the last one that there is
abbrev pub moment_after : ℕ → ℕ → ℕ
moment_after moment duration = min (moment + duration) max_nanos

-- A timer that is started at this moment. The bound doesn't cut its first deadline.
abbrev pub started_timer : ℕ → TimerSettings → Option RunningTimer
started_timer moment settings =
    Some (record { deadline = moment_after moment settings.duration; wait = settings.duration; expiries = 0; terms = settings.terms })

-- how long a timer runs after it has expired, before the limit is applied: as long as before, or twice as long
abbrev pub next_wait : BackoffAlgorithm → ℕ → ℕ
next_wait Fixed wait = wait
next_wait Exponential wait = min (wait * 2) max_nanos

-- no longer than the bound, if there is one
abbrev pub bounded_wait : Option ℕ → ℕ → ℕ
bounded_wait None wait = wait
bounded_wait (Some bound) wait = min wait bound

-- The longest that the retransmission timer runs once it has expired. By the RFC no longer than the greatest timeout (RFC 9260,
-- section 6.3.3, E2).
abbrev pub longest_backoff : Options → Option ℕ
longest_backoff options =
    let limit : Option ℕ = option_map as_nanos options.max_timer_backoff_duration in
    if options.follow_rfc then Some (bounded_wait limit (as_nanos options.rto_max)) else limit

-- The same of a timer that repeats a control chunk of the association: only by the RFC it has a bound.
abbrev pub longest_wait : Options → Option ℕ
longest_wait options = if options.follow_rfc then longest_backoff options else None

-- May a timer that has expired that often continue?
abbrev pub may_restart : Option ℕ → ℕ → Bool
may_restart None expiries = true
may_restart (Some restarts) expiries = nat_le expiries restarts

-- how often it has expired, with this time; the count stops at the greatest number of 64 bits
abbrev pub next_expiries : ℕ → ℕ
next_expiries expiries = min (expiries + 1) (2 ^ 64 - 1)

-- A timer that has expired at this moment, and continues. Its next wait follows from its last one.
abbrev pub continued_timer : ℕ → RunningTimer → RunningTimer
continued_timer moment timer =
    let wait = next_wait timer.terms.backoff timer.wait in
    record timer { deadline = moment_after moment (bounded_wait timer.terms.max_backoff wait); wait = wait; expiries = next_expiries timer.expiries }

-- Its deadline has come: a timer expires at no earlier moment.
abbrev pub is_timer_expired : ℕ → RunningTimer → Bool
is_timer_expired moment timer = nat_le timer.deadline moment

-- Does it continue once it expires?
abbrev pub is_restarted : RunningTimer → Bool
is_restarted timer = may_restart timer.terms.max_restarts (next_expiries timer.expiries)

-- What is left of a timer that expires at this moment: it continues, or, if its restarts are used up, it stops.
abbrev pub timer_after_expiry : ℕ → RunningTimer → Option RunningTimer
timer_after_expiry moment timer = if is_restarted timer then Some (continued_timer moment timer) else None

-- ---- a timer between two calls

pub record TimerModel : Type 0 where
  -- None: it doesn't run
  pub running : Option RunningTimer
  -- how it runs once it is started next
  pub settings : TimerSettings

-- when it expires next, if it runs
abbrev pub running_deadline : Option RunningTimer → Option ℕ
running_deadline None = None
running_deadline (Some timer) = Some timer.deadline

-- Does it expire at this moment?
abbrev pub is_expired_timer : ℕ → Option RunningTimer → Bool
is_expired_timer moment None = false
is_expired_timer moment (Some timer) = is_timer_expired moment timer

-- what is left of it once this moment has come
abbrev pub running_after : ℕ → Option RunningTimer → Option RunningTimer
running_after moment None = None
running_after moment (Some timer) = if is_timer_expired moment timer then timer_after_expiry moment timer else Some timer

-- Has it expired since it was started?
abbrev pub has_expired : Option RunningTimer → Bool
has_expired None = false
has_expired (Some timer) = nat_lt 0 timer.expiries

-- From its next start on it runs twice as long, and no longer than the bound; one that was longer stays.
abbrev pub backed_off : TimerModel → TimerModel
backed_off timer =
    let settings : TimerSettings = timer.settings in
    let wait : ℕ = bounded_wait settings.terms.max_backoff (next_wait settings.terms.backoff settings.duration) in
    record timer { settings = record settings { duration = max wait settings.duration } }
