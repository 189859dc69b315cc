-- The timers of an association, except for T1, and the outcome of each.
use Rattle.std.specs.Prelude.{◌≡◌, Bool, true, false}
use Rattle.dcsctp_spec.specs.Reconfiguration.{RequestedReset}
use Rattle.dcsctp_spec.specs.endpoint.Endpoint.{Endpoint, held_by_core}
use Rattle.dcsctp_spec.specs.endpoint.Outcome.{Outcome}
use Rattle.dcsctp_spec.specs.association.Acts.{Act, flushes, request_again, request_renewed}
use Rattle.dcsctp_spec.specs.endpoint.HeartbeatOutcomes.{interval_outcome, timeout_outcome}
use Rattle.dcsctp_spec.specs.endpoint.DataOutcomes.{delay_outcome, LossTurn}
use Rattle.dcsctp_spec.specs.endpoint.ReconfigurationOutcomes.{reset_again, is_renewed, reconfiguration_outcome}

pub data OwnTimer : Type 0 where
  -- an acknowledgement is delayed no longer (RFC 9260, section 6.2)
  acknowledgement_delay : OwnTimer
  -- what is in flight isn't acknowledged (RFC 9260, section 6.3.3)
  retransmission : OwnTimer
  -- a HEARTBEAT is due, and its answer is awaited no longer (RFC 9260, section 8.3)
  heartbeat_interval : OwnTimer
  heartbeat_timeout : OwnTimer
  -- its own request to reset streams is sent again (RFC 6525, section 5.1.1)
  reconfiguration : OwnTimer

abbrev pub TimerTurn : Endpoint → OwnTimer → Outcome → Type 0
TimerTurn e acknowledgement_delay o = o ≡ delay_outcome e e.queues.transfer
TimerTurn e retransmission o = LossTurn e e.queues.transfer o
TimerTurn e heartbeat_interval o = o ≡ interval_outcome e e.core
TimerTurn e heartbeat_timeout o = o ≡ timeout_outcome e
TimerTurn e reconfiguration o = o ≡ reconfiguration_outcome e (held_by_core e.core) e.outstanding

-- Under its number, or under the next one.
abbrev pub repeating_act : Bool → RequestedReset → Act
repeating_act false reset = request_again reset
repeating_act true reset = request_renewed reset

-- the act of the association that its turn is
abbrev pub timer_act : Endpoint → OwnTimer → Act
timer_act e acknowledgement_delay = flushes
timer_act e retransmission = flushes
timer_act e heartbeat_interval = flushes
timer_act e heartbeat_timeout = flushes
timer_act e reconfiguration = repeating_act (is_renewed e e.outstanding) (reset_again e.outstanding)
