use Rattle.std.proofs.Common.{rules}
use Rattle.dcsctp_socket_calls.proofs.ClockLemmas.{clock_time_moves, early_time_moves}
use Rattle.dcsctp_socket_calls.proofs.timers.move_clock.Goals as goal

pub returns-then-lt-clause-turn : goal.returns-then-lt-clause-turn
returns-then-lt-clause-turn g c = early_time_moves g.R.Rng.stream c.args.context.now c.begin_call.new.self c.args.now c.begin_call.ensures (search rules)

pub returns-clause-turn : goal.returns-clause-turn
returns-clause-turn g c = clock_time_moves g.R.Rng.stream c.args.context.now c.begin_call.new.self c.args.now c.begin_call.ensures (search rules) c.requires
