-- Which deadlines the list of a socket has, and what `poll_timeout` and `advance_time` learn from it.
use Rattle.std.specs.Prelude.{◌≡◌, ℕ, max, Bool, true, false, nat_lt, if◌then◌else◌, Option, None, Some, List, [], ◌∷◌}
use Rattle.std.specs.Duration.{max_nanos}
use Rattle.dcsctp_transfer.specs.spec.endpoint.Endpoint.{Endpoint, Core, closed, cookie_wait, cookie_echoed, open_in}
use Rattle.dcsctp_transfer.specs.spec.endpoint.TimeTurns.{Timer, t1_timer, own_timer, t2_timer, timers_counted, deadline}
use Rattle.dcsctp_transfer.specs.spec.endpoint.OwnTimers.{acknowledgement_delay, retransmission, heartbeat_interval, heartbeat_timeout, reconfiguration}
use Rattle.dcsctp_core.specs.declared.deadlines.DeadlineKind.{DeadlineKind}
use Rattle.dcsctp_core.specs.declared.deadlines.DeadlineKind.TheVariants.{AcknowledgementDelay, Retransmission, HeartbeatInterval, HeartbeatTimeout, Reconfiguration, T1, T2}
use Rattle.dcsctp_core.specs.declared.deadlines.Entry.{Entry}
use Rattle.dcsctp_core.specs.Listing.{is_same_kind, listed_deadline, first_moment}

-- the kind of a timer's deadline
abbrev pub kind_of : Timer → DeadlineKind
kind_of t1_timer = T1
kind_of (own_timer acknowledgement_delay) = AcknowledgementDelay
kind_of (own_timer retransmission) = Retransmission
kind_of (own_timer heartbeat_interval) = HeartbeatInterval
kind_of (own_timer heartbeat_timeout) = HeartbeatTimeout
kind_of (own_timer reconfiguration) = Reconfiguration
kind_of t2_timer = T2

-- the deadline of a kind, if its timer is among these and runs
abbrev pub deadline_among : Endpoint → List Timer → DeadlineKind → Option ℕ
deadline_among e [] kind = None
deadline_among e (timer ∷ timers) kind = if is_same_kind kind (kind_of timer) then deadline e timer else deadline_among e timers kind

-- the deadline of a kind, if it counts in the phase
abbrev pub deadline_in_phase : Endpoint → DeadlineKind → Option ℕ
deadline_in_phase e kind = deadline_among e (timers_counted e.core) kind

-- The list has exactly the running deadlines that count in the phase.
abbrev pub ListsDeadlines : Endpoint → List Entry → Type 0
ListsDeadlines e entries = (kind : DeadlineKind) → listed_deadline kind entries ≡ deadline_in_phase e kind

-- a deadline, but not before the present moment; the last moment if there is none
abbrev pub next_deadline : ℕ → Option ℕ → ℕ
next_deadline moment None = max_nanos
next_deadline moment (Some deadline) = max deadline moment

-- Is the first deadline later than a moment, or is there none?
abbrev pub is_deadline_later : ℕ → Option ℕ → Bool
is_deadline_later moment None = true
is_deadline_later moment (Some deadline) = nat_lt moment deadline

-- Does the list say that nothing is due at a moment? In CookieEchoed it doesn't have the delay of an acknowledgement.
abbrev pub is_quiet : Core → ℕ → List Entry → Bool
is_quiet closed moment entries = is_deadline_later moment (first_moment entries)
is_quiet (cookie_wait mine) moment entries = is_deadline_later moment (first_moment entries)
is_quiet (cookie_echoed mine held cookie) moment entries = false
is_quiet (open_in phase mine held) moment entries = is_deadline_later moment (first_moment entries)
