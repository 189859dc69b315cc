use Rattle.std.proofs.lemmas.Result.{err_from_is_err_and}
use Rattle.std.proofs.Common.{rules}
use Rattle.dcsctp_socket_calls.proofs.ClockLemmas.{early_time_moves}
use Rattle.dcsctp_socket_calls.proofs.TimeLemmas.{time_moves, time_cut, waits_rest}
use Rattle.dcsctp_socket_calls.proofs.calls.advance_time.Goals as goal

pub returns-in_err-handle_timers-clause-turn : goal.returns-in_err-handle_timers-clause-turn
returns-in_err-handle_timers-clause-turn g c =
    rw (err_from_is_err_and c.from_residual.result c.from_residual.ensures.1).1
    (time_cut c.args.context.now c.begin_call.new.self c.args.now _ c.begin_call.ensures (search rules) c.in_err-handle_timers.ensures.turns)

pub returns-clause-turn : goal.returns-clause-turn
returns-clause-turn g c =
    (tt, time_moves g.R.Rng.stream c.args.context.now c.begin_call.new.self c.handle_timers.new.context c.args.now c.begin_call.ensures (search rules) c.in_ok-handle_timers.ensures.turns)

-- The moment is an earlier one.
pub returns-then-lt-clause-turn : goal.returns-then-lt-clause-turn
returns-then-lt-clause-turn g c = (tt, early_time_moves g.R.Rng.stream c.args.context.now c.begin_call.new.self c.args.now c.begin_call.ensures (search rules))

-- Where nothing is due no allocation fails.
pub returns-in_err-handle_timers-clause-waits : goal.returns-in_err-handle_timers-clause-waits
returns-in_err-handle_timers-clause-waits g c =
    rw (err_from_is_err_and c.from_residual.result c.from_residual.ensures.1).1
    (λ waits. c.in_err-handle_timers.ensures.waits (waits_rest c.args.context.now c.begin_call.new.self c.args.now c.begin_call.ensures waits))
