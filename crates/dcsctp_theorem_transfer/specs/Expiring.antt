-- The call `advance_time` at T3's deadline: which turns it has, and which of its packets brings what was lost (RFC 9260, sections
-- 6.3.3, 8.1 and 8.3).
use Rattle.std.specs.Prelude.{◌≡◌, ◌⊎◌, ◌≤◌, ◌+◌, ℕ, Bool, true, false, Option, None, Some, List, [], ◌∷◌, ◌++◌}
use Rattle.dcsctp_spec_lemmas.specs.types.Schedule.{advance_call}
use Rattle.dcsctp_spec_lemmas.specs.types.declared.association.Held.{Held}
use Rattle.dcsctp_spec_lemmas.specs.spec.Packet.{Emission}
use Rattle.dcsctp_spec_lemmas.specs.spec.association.Acts.{flushes}
use Rattle.dcsctp_spec_lemmas.specs.spec.endpoint.CallTurns.{Transition, Turns, WholeTurns, after_all, events_of}
use Rattle.dcsctp_spec_lemmas.specs.spec.endpoint.Endpoint.{Endpoint}
use Rattle.dcsctp_spec_lemmas.specs.spec.endpoint.Event.{packets_of_events}
use Rattle.dcsctp_spec_lemmas.specs.spec.endpoint.HeartbeatOutcomes.{heartbeat_emission, heartbeat_timeout_settings}
use Rattle.dcsctp_spec_lemmas.specs.spec.endpoint.OwnTimers.{OwnTimer, acknowledgement_delay, retransmission, heartbeat_interval, heartbeat_timeout, reconfiguration}
use Rattle.dcsctp_spec_lemmas.specs.spec.endpoint.Timers.{started_timer}
use Rattle.dcsctp_spec_lemmas.specs.spec.endpoint.TimeTurns.{own_timer, t2_timer, deadline, deadline_of, has_come}
use Rattle.dcsctp_spec_lemmas.specs.spec.endpoint.Turn.{Input, act_input, timer_expires, time_passes}
use Rattle.dcsctp_spec_lemmas.specs.spec.endpoint.UserTurns.{UserTurns}
use Rattle.dcsctp_spec_lemmas.specs.spec.queues.Outstanding.{tsn_at}
use Rattle.dcsctp_spec_lemmas.specs.spec.queues.Transfer.{Transfer}
use Rattle.dcsctp_theorem_transfer.specs.Deadlines.{IsOpen}
use Rattle.dcsctp_theorem_transfer.specs.Recovering.{IsLost, IsLostBehind, AwaitsData, HasReceivedPart, ComesThrough, ComesBehind}
use Rattle.dcsctp_theorem_transfer.specs.Resending.{SaysDataAlone, IsLowest, BeginWithTsn}

-- ---- what is due

-- That many errors more are within the limit.
abbrev pub LeavesErrors : Option ℕ → ℕ → ℕ → Type 0
LeavesErrors None count more = Unit {0}
LeavesErrors (Some limit) count more = count + more ≤ limit

-- Is an acknowledgement delayed no longer at this moment, and is a HEARTBEAT due?
abbrev pub is_delay_over : Endpoint → ℕ → Bool
is_delay_over e moment = has_come moment (deadline e (own_timer acknowledgement_delay))

abbrev pub is_beat_due : Endpoint → ℕ → Bool
is_beat_due e moment = has_come moment (deadline e (own_timer heartbeat_interval))

-- when the answer to the last HEARTBEAT is late: one that goes out at this moment has its time from then on
abbrev pub answer_deadline : Bool → Endpoint → ℕ → Option ℕ
answer_deadline false e moment = deadline e (own_timer heartbeat_timeout)
answer_deadline true e moment = deadline_of (started_timer moment (heartbeat_timeout_settings e.options))

abbrev pub is_answer_late : Endpoint → ℕ → Bool
is_answer_late e moment = has_come moment (answer_deadline (is_beat_due e moment) e moment)

-- T3's expiry is an error, and so is an answer that is late.
abbrev pub errors_with : Bool → ℕ
errors_with false = 1
errors_with true = 2

-- The association is open. T3's deadline has come at this moment, and none of T2 or of a reconfiguration timer. The errors that
-- count then are within the limit.
pub record T3IsDue (e : Endpoint) (moment : ℕ) : Type 0 where
  pub is_open : IsOpen e.core
  pub present : e.moment ≤ moment
  pub due : has_come moment (deadline e (own_timer retransmission)) ≡ true
  pub reconfiguration : has_come moment (deadline e (own_timer reconfiguration)) ≡ false
  pub t2 : has_come moment (deadline e t2_timer) ≡ false
  pub errors : LeavesErrors e.options.max_retransmissions e.error_count (errors_with (is_answer_late e moment))

-- ---- the turns

-- This timer expires before these inputs, if it is due.
abbrev pub where_due : Bool → OwnTimer → List Input → List Input
where_due false timer inputs = inputs
where_due true timer inputs = timer_expires timer ∷ inputs

-- the timers of heartbeats that are due, and the flush
abbrev pub inputs_after_t3 : Endpoint → ℕ → List Input
inputs_after_t3 e moment =
    where_due (is_beat_due e moment) heartbeat_interval (where_due (is_answer_late e moment) heartbeat_timeout (act_input flushes ∷ []))

-- The clock is moved, the delay of an acknowledgement may be over, and T3 expires. Then come the others.
abbrev pub inputs_at_t3 : Endpoint → ℕ → List Input
inputs_at_t3 e moment =
    time_passes moment ∷ where_due (is_delay_over e moment) acknowledgement_delay (timer_expires retransmission ∷ inputs_after_t3 e moment)

-- The call has these turns.
abbrev pub CallExpiresT3 : Type 0
CallExpiresT3 =
    (e : Endpoint) (moment : ℕ) (turns : List Transition) → UserTurns e (advance_call moment) turns → T3IsDue e moment
    → Turns e (inputs_at_t3 e moment) turns

-- ---- the packets

-- None; or one of a HEARTBEAT, if that is due.
abbrev pub AreHeartbeats : Bool → List Emission → Type 0
AreHeartbeats false packets = packets ≡ []
AreHeartbeats true packets = (packets ≡ []) ⊎ (held : Held) × (counter : ℕ) × (packets ≡ heartbeat_emission held counter ∷ [])

-- The packets of the call are those of its flush, behind a HEARTBEAT if that is due. This is so of the flush's.
pub record FlushAtT3 (e : Endpoint) (moment : ℕ) (Flushed : List Emission → Type 0) (packets : List Emission) : Type 0 where
  pub heartbeats : List Emission
  pub flushed : List Emission
  pub are : packets ≡ heartbeats ++ flushed
  pub beats : AreHeartbeats (is_beat_due e moment) heartbeats
  pub sends : Flushed flushed

-- The first packet brings the lowest TSN, whenever the other socket handles it.
pub record ComesAtOnce (e : Endpoint) (old : Transfer) (packets : List Emission) : Type 0 where
  pub first : Emission
  pub others : List Emission
  pub are : packets ≡ first ∷ others
  pub comes : (other : Endpoint) (received : Transfer) → AwaitsData other received old.retransmission.outstanding.is_interleaved
      → HasReceivedPart old.retransmission.outstanding received.tracker → (turns : List Transition) → WholeTurns other first.packet turns → ComesThrough e old other turns

-- So the call at T3's deadline brings what was lost.
pub record CallsRecover : Type 0 where
  -- its turns
  pub expires : CallExpiresT3
  -- The first packet of the flush begins with the lowest TSN, if there is nothing else to say.
  pub again : (e : Endpoint) (transfer : Transfer) (place moment : ℕ) (turns : List Transition) → UserTurns e (advance_call moment) turns → T3IsDue e moment
      → SaysDataAlone e transfer → is_delay_over e moment ≡ false → IsLowest e transfer place
      → FlushAtT3 e moment (BeginWithTsn (tsn_at transfer.retransmission.outstanding place)) (packets_of_events (events_of turns))
  -- It comes through.
  pub through : (e : Endpoint) (transfer : Transfer) (moment : ℕ) (turns : List Transition) → UserTurns e (advance_call moment) turns → T3IsDue e moment
      → IsLost e transfer → is_delay_over e moment ≡ false → FlushAtT3 e moment (ComesAtOnce (after_all e turns) transfer) (packets_of_events (events_of turns))
  -- Where a SACK may be owed or due, one of the first two packets of the flush comes through.
  pub behind : (e : Endpoint) (transfer : Transfer) (moment : ℕ) (turns : List Transition) → UserTurns e (advance_call moment) turns → T3IsDue e moment
      → IsLostBehind e transfer → FlushAtT3 e moment (ComesBehind (after_all e turns) transfer) (packets_of_events (events_of turns))
