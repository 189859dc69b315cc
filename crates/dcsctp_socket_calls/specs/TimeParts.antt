-- The timers of `advance_time`, and what follows them.
use Rattle.std.specs.Prelude.{true, List, []}
use Rattle.dcsctp_core.specs.spec.endpoint.Endpoint.{Endpoint}
use Rattle.dcsctp_core.specs.spec.endpoint.Turn.{Input}
use Rattle.dcsctp_core.specs.spec.endpoint.TimeTurns.{Timer, t1_timer, own_timer, t2_timer, unless_exhausted, ExpiryTurns}
use Rattle.dcsctp_core.specs.spec.endpoint.OwnTimers.{acknowledgement_delay, retransmission, heartbeat_interval, heartbeat_timeout, reconfiguration}
use Rattle.dcsctp_core.specs.spec.endpoint.CallTurns.{Transition, Turns}
use Rattle.dcsctp_socket_calls.specs.declared.timers.SocketTimer.{SocketTimer}
use Rattle.dcsctp_socket_calls.specs.declared.timers.SocketTimer.TheVariants.{T1, AcknowledgementDelay, Retransmission, HeartbeatInterval, HeartbeatTimeout, Reconfiguration, T2}

-- a timer of the code, as one of the machine
abbrev pub timer_of_socket : SocketTimer → Timer
timer_of_socket T1 = t1_timer
timer_of_socket AcknowledgementDelay = own_timer acknowledgement_delay
timer_of_socket Retransmission = own_timer retransmission
timer_of_socket HeartbeatInterval = own_timer heartbeat_interval
timer_of_socket HeartbeatTimeout = own_timer heartbeat_timeout
timer_of_socket Reconfiguration = own_timer reconfiguration
timer_of_socket T2 = t2_timer

-- What follows if one timer has expired: our own abort, if too many errors were counted, and else these inputs.
abbrev pub EndTurns : List Input → Endpoint → List Transition → Type 0
EndTurns inputs e turns = Turns e (unless_exhausted e inputs) turns

-- what follows the timers if one has expired
abbrev pub TurnsAfter : Endpoint → List Transition → Type 0
TurnsAfter e turns = ExpiryTurns [] true e turns
