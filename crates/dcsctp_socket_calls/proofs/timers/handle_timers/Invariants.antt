use Rattle.std.proofs.Common.{map, drop}
use Rattle.dcsctp_socket_calls.specs.TimeParts.{timer_of_socket}
use Rattle.dcsctp_socket_calls.proofs.TimerLoop.{Handled}
use Rattle.dcsctp_socket_calls.proofs.timers.handle_timers.Given as goal

-- the timers from this one on are left
abbrev pub invariant-loop-timer : goal.invariant-loop-timer
invariant-loop-timer g l = Handled g.R.Rng.stream (map timer_of_socket (drop l.timer-index l.timer-items)) l.has_expired l.fn.context l.context
