use Rattle.std.proofs.lemmas.Result.{err_from_is_err_and}
use Rattle.std.proofs.Common.{ap}
use Rattle.dcsctp_core.specs.View.{View, view_of}
use Rattle.dcsctp_core_ends.proofs.T2Lemmas.{t2_again_not}
use Rattle.dcsctp_core_ends.proofs.shutdown.t2.handle_t2.Goals as goal

pub returns-in_err-send_again-in-Again : goal.returns-in_err-send_again-in-Again
returns-in_err-send_again-in-Again g c =
    rw (err_from_is_err_and c.from_residual.result c.from_residual.ensures.1).1
    (t2_again_not c.args.context.now (view_of c.send_again.new.context).events c.in-Again.ensures.answer (ap (λ (v : View g.row.R.Denot). v.events) c.in_err-send_again-in-Again.ensures))
