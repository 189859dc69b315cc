use Rattle.std.proofs.Common.{true, false, Ok, Err, arith}
use Rattle.std.proofs.lemmas.Result.{err_from_is_err_and}
use Rattle.dcsctp_socket_calls.proofs.TimerLoop.{none_handled, one_handled, one_cut, one_was_due, all_handled, one_expired, none_expired}
use Rattle.dcsctp_socket_calls.proofs.timers.handle_timers.Goals as goal

pub loop-timer-init : goal.loop-timer-init
loop-timer-init g c = none_handled g.R.Rng.stream c.args.context.now c.timers_of-timer-items.result.now c.timers_of-timer-items.ensures

pub loop-timer-preserved : goal.loop-timer-preserved
loop-timer-preserved g c =
    one_handled g.R.Rng.stream c.timers_of-timer-items.result.now c.loop-timer.timer-index _ c.loop-timer.has_expired c.in_ok-has_expired.field-0
    c.args.context.now c.loop-timer.context c.handle_timer.new.context c.loop-timer-test.true c.in_ok-has_expired.ensures c.loop-timer.invariant

pub returns-in_err-has_expired-clause-turns : goal.returns-in_err-has_expired-clause-turns
returns-in_err-has_expired-clause-turns g c =
    rw (err_from_is_err_and c.from_residual.result c.from_residual.ensures.1).1
    (one_cut g.R.Rng.stream c.timers_of-timer-items.result.now c.loop-timer.timer-index _ c.loop-timer.has_expired
    c.args.context.now c.loop-timer.context c.handle_timer.new.context _ c.loop-timer-test.true c.in_err-has_expired.ensures c.loop-timer.invariant)

pub returns-in_err-has_expired-clause-waits : goal.returns-in_err-has_expired-clause-waits
returns-in_err-has_expired-clause-waits g c =
    λ none. absurd (one_was_due g.R.Rng.stream c.timers_of-timer-items.result.now c.loop-timer.timer-index _ c.loop-timer.has_expired
    c.args.context.now c.loop-timer.context c.handle_timer.new.context _ c.loop-timer-test.true c.in_err-has_expired.ensures c.loop-timer.invariant none)

pub returns-in_err-end_where_held-clause-turns : goal.returns-in_err-end_where_held-clause-turns
returns-in_err-end_where_held-clause-turns g c =
    rw (err_from_is_err_and c.from_residual-in_err-end_where_held.result c.from_residual-in_err-end_where_held.ensures.1).1
    ((all_handled g.R.Rng.stream c.timers_of-timer-items.result.now c.loop-timer.timer-index c.loop-timer.has_expired true c.args.context.now c.loop-timer.context
    (omega (arith, c.loop-timer-test.false)) c.if-has_expired.true c.loop-timer.invariant).works (Err _) c.end_where_held.new.context c.in_err-end_where_held.ensures)

pub returns-in_err-end_where_held-clause-waits : goal.returns-in_err-end_where_held-clause-waits
returns-in_err-end_where_held-clause-waits g c =
    λ none. absurd (one_expired g.R.Rng.stream c.args.context.now c.loop-timer.context
    (all_handled g.R.Rng.stream c.timers_of-timer-items.result.now c.loop-timer.timer-index c.loop-timer.has_expired true c.args.context.now c.loop-timer.context
    (omega (arith, c.loop-timer-test.false)) c.if-has_expired.true c.loop-timer.invariant) none)

pub returns-in_ok-end_where_held-clause-turns : goal.returns-in_ok-end_where_held-clause-turns
returns-in_ok-end_where_held-clause-turns g c =
    (all_handled g.R.Rng.stream c.timers_of-timer-items.result.now c.loop-timer.timer-index c.loop-timer.has_expired true c.args.context.now c.loop-timer.context
    (omega (arith, c.loop-timer-test.false)) c.if-has_expired.true c.loop-timer.invariant).works (Ok tt) c.end_where_held.new.context c.in_ok-end_where_held.ensures

pub returns-else-has_expired-clause-turns : goal.returns-else-has_expired-clause-turns
returns-else-has_expired-clause-turns g c =
    none_expired g.R.Rng.stream c.args.context.now c.loop-timer.context
    (all_handled g.R.Rng.stream c.timers_of-timer-items.result.now c.loop-timer.timer-index c.loop-timer.has_expired false c.args.context.now c.loop-timer.context
    (omega (arith, c.loop-timer-test.false)) c.if-has_expired.false c.loop-timer.invariant)
