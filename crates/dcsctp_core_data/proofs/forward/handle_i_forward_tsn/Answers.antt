use Rattle.std.proofs.Common.{refl}
use Rattle.std.proofs.lemmas.Result.{err_from_is_err_and}
use Rattle.dcsctp_core.specs.spec.queues.Arrivals.{skipped_messages}
use Rattle.dcsctp_core.specs.declared.context.Context.{Context}
use Rattle.dcsctp_core.specs.View.{view_of}
use Rattle.dcsctp_core.proofs.LendingLemmas.{left_with}
use Rattle.dcsctp_core_data.proofs.ArrivalLemmas.{forward_cut, forward_unasked, forward_worked}
use Rattle.dcsctp_core_data.proofs.forward.handle_i_forward_tsn.Goals as goal

pub returns-in_default : goal.returns-in_default
returns-in_default g c = forward_unasked g.R.Rng.stream c.args.context.now c.args.chunk.now.new_cumulative_tsn (skipped_messages c.args.chunk.now.skipped_streams.now) c.in_default.ensures.tcb

pub returns-in_err-skipped : goal.returns-in_err-skipped
returns-in_err-skipped g c =
    rw (err_from_is_err_and c.from_residual.result c.from_residual.ensures.1).1
    (forward_cut (view_of c.args.context.now) c.args.chunk.now.new_cumulative_tsn (skipped_messages c.args.chunk.now.skipped_streams.now))

pub returns : goal.returns
returns g c =
    let old = c.args.context.now in
    let new : Context g.row.R.Denot = record old { state = left_with old.state c.in-Some.tcb.now c.handle_forward_tsn.new.self } in
    forward_worked g.R.Rng.stream old new c.in-Some.tcb.now c.handle_forward_tsn.new.self c.handle_forward_tsn.result c.args.chunk.now.new_cumulative_tsn (skipped_messages c.args.chunk.now.skipped_streams.now) refl
    c.in-Some.ensures.tcb
    (rw (← c.in_ok-skipped.ensures, ← c.deref.ensures.value) c.handle_forward_tsn.ensures.ok)
