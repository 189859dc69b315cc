use Rattle.std.proofs.lemmas.Result.{err_from_is_err_and}
use Rattle.dcsctp_core.specs.View.{view_of}
use Rattle.dcsctp_core_data.proofs.RefusalLemmas.{told_moves, told_cut}
use Rattle.dcsctp_core_data.proofs.refusal.refuse_empty.Goals as goal

pub returns : goal.returns
returns g c =
    told_moves g.R.Rng.stream (view_of c.args.context.now) (view_of c.report_no_user_data.new.context) (view_of c.tell_no_user_data.new.context) c.args.tsn
    c.in_ok-report_no_user_data.ensures c.in_ok-tell_no_user_data.ensures

pub returns-in_err-tell_no_user_data : goal.returns-in_err-tell_no_user_data
returns-in_err-tell_no_user_data g c =
    rw (err_from_is_err_and c.from_residual-in_err-tell_no_user_data.result c.from_residual-in_err-tell_no_user_data.ensures.1).1
    (told_cut g.R.Rng.stream (view_of c.args.context.now) (view_of c.report_no_user_data.new.context) (view_of c.tell_no_user_data.new.context) c.args.tsn
    c.in_ok-report_no_user_data.ensures c.in_err-tell_no_user_data.ensures)
