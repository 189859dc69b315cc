-- Outside examples of timers, computed by the definitions: a wrong rule in specs/ would not check here. Moments and
-- durations are nanoseconds.
use Rattle.std.proofs.Common.{◌≡◌, ℕ, true, false, Option, None, Some, List, [], ◌∷◌, refl}
use Rattle.std.specs.Prelude.{codes}
use Rattle.std.specs.Duration.{max_nanos}
use Rattle.dcsctp_types.specs.declared.association.Pair.{Pair}
use Rattle.dcsctp_types.specs.declared.association.Held.{Held}
use Rattle.dcsctp_types.specs.declared.kinds.BackoffAlgorithm.TheVariants.{Fixed, Exponential}
use Rattle.dcsctp_types.specs.declared.kinds.ErrorKind.TheVariants.{TooManyRetries}
use Rattle.dcsctp_spec.specs.endpoint.Event.{aborted}
use Rattle.dcsctp_spec.specs.queues.Transfer.{empty_queues}
use Rattle.dcsctp_spec.specs.endpoint.Endpoint.{Endpoint, Core, closed, cookie_wait, cookie_echoed, open_in, established}
use Rattle.dcsctp_spec.specs.endpoint.Timers.{RunningTimer, started_timer, timer_after_expiry, is_timer_expired}
use Rattle.dcsctp_spec.specs.association.Acts.{t1_expires, abort_with, flushes}
use Rattle.dcsctp_types.specs.declared.ends.AbortReason.TheVariants.{TooManyErrors}
use Rattle.dcsctp_spec.specs.endpoint.Turn.{act_input}
use Rattle.dcsctp_spec.specs.endpoint.TimerOutcomes.{t1_gives_up_outcome}
use Rattle.dcsctp_spec.specs.endpoint.TimeTurns.{t1_timer, deadline, next_moment, has_come, expiry_input, after_expiries}

-- one second, with so many restarts
second : Option ℕ → ℕ → ℕ → ℕ → RunningTimer
second restarts deadline wait expiries = record { deadline = deadline; wait = wait; expiries = expiries; terms = record { backoff = Exponential; max_restarts = restarts; max_backoff = None } }

starts_for_a_second : started_timer 5 (record { duration = 1_000_000_000; terms = record { backoff = Exponential; max_restarts = Some 8; max_backoff = None } }) ≡ Some (second (Some 8) 1_000_000_005 1_000_000_000 0)
unfolding second
starts_for_a_second = refl

-- Two seconds, then four, each from the moment of the call, which may be late.
then_two : timer_after_expiry 1_000_000_000 (second (Some 8) 1_000_000_000 1_000_000_000 0) ≡ Some (second (Some 8) 3_000_000_000 2_000_000_000 1)
unfolding second
then_two = refl

then_four_and_late : timer_after_expiry 3_500_000_000 (second (Some 8) 3_000_000_000 2_000_000_000 1) ≡ Some (second (Some 8) 7_500_000_000 4_000_000_000 2)
unfolding second
then_four_and_late = refl

-- Eight restarts, and no ninth.
eighth_restart : timer_after_expiry 255_000_000_000 (second (Some 8) 255_000_000_000 128_000_000_000 7) ≡ Some (second (Some 8) 511_000_000_000 256_000_000_000 8)
unfolding second
eighth_restart = refl

no_ninth_restart : timer_after_expiry 511_000_000_000 (second (Some 8) 511_000_000_000 256_000_000_000 8) ≡ None
unfolding second
no_ninth_restart = refl

no_restart_at_all : timer_after_expiry 1_000_000_000 (second (Some 0) 1_000_000_000 1_000_000_000 0) ≡ None
unfolding second
no_restart_at_all = refl

-- a timer with a fixed wait, and one that a bound cuts while its wait keeps doubling
fixed : ℕ → ℕ → RunningTimer
fixed deadline expiries = record { deadline = deadline; wait = 30; expiries = expiries; terms = record { backoff = Fixed; max_restarts = None; max_backoff = None } }

waits_as_long : timer_after_expiry 100 (fixed 100 900) ≡ Some (fixed 130 901)
unfolding fixed
waits_as_long = refl

cut : ℕ → ℕ → ℕ → RunningTimer
cut deadline wait expiries = record { deadline = deadline; wait = wait; expiries = expiries; terms = record { backoff = Exponential; max_restarts = None; max_backoff = Some 50 } }

bound_cuts : timer_after_expiry 100 (cut 100 40 1) ≡ Some (cut 150 80 2)
unfolding cut
bound_cuts = refl

last_moment : timer_after_expiry max_nanos (cut max_nanos 40 1) ≡ Some (cut max_nanos 80 2)
unfolding cut
last_moment = refl

due_at_its_deadline : is_timer_expired 1_000 (fixed 1_000 0) ≡ true
unfolding fixed
due_at_its_deadline = refl

not_due_before : is_timer_expired 999 (fixed 1_000 0) ≡ false
unfolding fixed
not_due_before = refl

-- ---- at an endpoint

mine : Pair
mine = record { tag = 7; first_tsn = 100 }

-- T1 runs, with so many restarts
connecting : Endpoint → Option ℕ → ℕ → Endpoint
connecting e restarts moment = record e { moment = moment; core = cookie_wait mine; timers = record e.timers { t1 = Some (second restarts 1_000 1_000 0) } }

waits_for_t1 : (e : Endpoint) → next_moment (connecting e (Some 8) 10) ≡ 1_000
unfolding connecting second
waits_for_t1 e = refl

never_before_now : (e : Endpoint) → next_moment (connecting e (Some 8) 2_000) ≡ 2_000
unfolding connecting second
never_before_now e = refl

never_where_closed : (e : Endpoint) → next_moment (record (connecting e (Some 8) 10) { core = closed }) ≡ max_nanos
unfolding connecting second
never_where_closed e = refl

-- an open association with these timers of heartbeats
beating_at : Endpoint → Held → Option RunningTimer → Option RunningTimer → Endpoint
beating_at e held interval timeout =
    record e { moment = 10; core = open_in established mine held; timers = record e.timers { t1 = Some (second (Some 8) 5 5 0); heartbeat_interval = interval; heartbeat_timeout = timeout; reconfiguration = None; t2 = None }; queues = empty_queues e.options }

never_without_heartbeats : (e : Endpoint) (held : Held) → next_moment (beating_at e held None None) ≡ max_nanos
unfolding beating_at
never_without_heartbeats e held = refl

waits_for_the_interval : (e : Endpoint) (held : Held) → next_moment (beating_at e held (Some (fixed 30_000 0)) None) ≡ 30_000
unfolding beating_at fixed
waits_for_the_interval e held = refl

waits_for_the_first : (e : Endpoint) (held : Held) → next_moment (beating_at e held (Some (fixed 30_000 0)) (Some (fixed 500 0))) ≡ 500
unfolding beating_at fixed
waits_for_the_first e held = refl

-- The own request to reset streams counts too.
waits_for_the_request : (e : Endpoint) (held : Held) → next_moment (record (beating_at e held (Some (fixed 30_000 0)) None) { timers = record e.timers { heartbeat_interval = Some (fixed 30_000 0); heartbeat_timeout = None; reconfiguration = Some (fixed 400 0); t2 = None } }) ≡ 400
unfolding beating_at fixed
waits_for_the_request e held = refl

nothing_before : (e : Endpoint) → has_come 999 (deadline (connecting e (Some 8) 10) t1_timer) ≡ false
unfolding connecting second
nothing_before e = refl

due_then : (e : Endpoint) → has_come 1_000 (deadline (connecting e (Some 8) 10) t1_timer) ≡ true
unfolding connecting second
due_then e = refl

again_at_deadline : (e : Endpoint) → expiry_input (connecting e (Some 8) 10) t1_timer ≡ act_input (t1_expires true)
unfolding connecting second
again_at_deadline e = refl

given_up_at_deadline : (e : Endpoint) → expiry_input (connecting e (Some 0) 10) t1_timer ≡ act_input (t1_expires false)
unfolding connecting second
given_up_at_deadline e = refl

-- an endpoint with so many errors, of which one is allowed
with_errors : Endpoint → Core → ℕ → Endpoint
with_errors e core count = record e { core = core; options = record e.options { max_retransmissions = Some 1 }; error_count = count }

-- A peer that is held is given up, also one whose COOKIE ACK is awaited.
too_many_errors : (e : Endpoint) (held : Held) (cookie : List ℕ) → after_expiries (with_errors e (cookie_echoed mine held cookie) 2) true ≡ act_input (abort_with TooManyErrors) ∷ []
unfolding with_errors
too_many_errors e held cookie = refl

too_many_where_open : (e : Endpoint) (held : Held) → after_expiries (with_errors e (open_in established mine held) 2) true ≡ act_input (abort_with TooManyErrors) ∷ []
unfolding with_errors
too_many_where_open e held = refl

not_without_peer : (e : Endpoint) → after_expiries (with_errors e (cookie_wait mine) 2) true ≡ []
unfolding with_errors
not_without_peer e = refl

not_without_expiry : (e : Endpoint) (held : Held) → after_expiries (with_errors e (open_in established mine held) 2) false ≡ []
unfolding with_errors
not_without_expiry e held = refl

-- What waits goes out where the errors are allowed, but not while the COOKIE ECHO isn't answered.
an_error_that_is_allowed : (e : Endpoint) (held : Held) → after_expiries (with_errors e (open_in established mine held) 1) true ≡ act_input flushes ∷ []
unfolding with_errors
an_error_that_is_allowed e held = refl

one_while_connecting : (e : Endpoint) (held : Held) (cookie : List ℕ) → after_expiries (with_errors e (cookie_echoed mine held cookie) 1) true ≡ []
unfolding with_errors
one_while_connecting e held cookie = refl

told_in_cookie_wait : (e : Endpoint) → (t1_gives_up_outcome e (cookie_wait mine)).events ≡ aborted TooManyRetries (codes "No INIT_ACK received") ∷ []
told_in_cookie_wait e = refl

told_in_cookie_echoed : (e : Endpoint) (held : Held) (cookie : List ℕ) → (t1_gives_up_outcome e (cookie_echoed mine held cookie)).events ≡ aborted TooManyRetries (codes "No COOKIE_ACK received") ∷ []
told_in_cookie_echoed e held cookie = refl
