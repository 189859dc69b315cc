-- Time goes on at a socket that awaits data: whatever of its timers expire, it still awaits data (RFC 9260, sections 6.2, 6.3.3, 8.1 and
-- 8.3).
use Rattle.std.specs.Prelude.{◌≡◌, ℕ, Bool, false, List}
use Rattle.dcsctp_spec_lemmas.specs.types.Schedule.{advance_call}
use Rattle.dcsctp_spec_lemmas.specs.spec.endpoint.CallTurns.{Transition, after_all}
use Rattle.dcsctp_spec_lemmas.specs.spec.endpoint.Endpoint.{Endpoint}
use Rattle.dcsctp_spec_lemmas.specs.spec.endpoint.TimeTurns.{t2_timer, deadline, has_come}
use Rattle.dcsctp_spec_lemmas.specs.spec.endpoint.UserTurns.{UserTurns}
use Rattle.dcsctp_spec_lemmas.specs.spec.queues.Transfer.{Transfer}
use Rattle.dcsctp_theorem_transfer.specs.Expiring.{LeavesErrors}
use Rattle.dcsctp_theorem_transfer.specs.InOrder.{StillAwaits}
use Rattle.dcsctp_theorem_transfer.specs.Recovering.{AwaitsData}

-- T2 isn't due at this moment. At most three errors count in one call: T3's, that of an answer to a HEARTBEAT, and that of a request.
-- They are within the limit.
pub record MayTick (e : Endpoint) (moment : ℕ) : Type 0 where
  pub t2 : has_come moment (deadline e t2_timer) ≡ false
  pub errors : LeavesErrors e.options.max_retransmissions e.error_count 3

-- So it is of each call of `advance_time`.
abbrev pub TimePassesReceiver : Type 0
TimePassesReceiver =
    (e : Endpoint) (received : Transfer) (is_interleaved : Bool) (moment : ℕ) (turns : List Transition) → UserTurns e (advance_call moment) turns
    → AwaitsData e received is_interleaved → MayTick e moment → StillAwaits received is_interleaved (after_all e turns)
