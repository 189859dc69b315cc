use Rattle.std.proofs.lemmas.Result.{err_from_is_err_and}
use Rattle.dcsctp_core.specs.View.{view_of}
use Rattle.dcsctp_core_ends.proofs.EndLemmas.{completes, completes_in_part}
use Rattle.dcsctp_core_ends.proofs.shutdown.chunks.complete_shutdown.Goals as goal

pub returns-in_err-end_shutdown : goal.returns-in_err-end_shutdown
returns-in_err-end_shutdown g c =
    rw (err_from_is_err_and c.from_residual-in_err-end_shutdown.result c.from_residual-in_err-end_shutdown.ensures.1).1
    (completes_in_part g.R.Rng.stream (view_of c.args.context.now) (view_of c.send_shutdown_complete.new.context) (view_of c.end_shutdown.new.context) c.requires
    c.in_ok-send_shutdown_complete.ensures c.in_err-end_shutdown.ensures)

pub returns : goal.returns
returns g c =
    completes g.R.Rng.stream (view_of c.args.context.now) (view_of c.send_shutdown_complete.new.context) (view_of c.end_shutdown.new.context) c.requires
    c.in_ok-send_shutdown_complete.ensures c.in_ok-end_shutdown.ensures
