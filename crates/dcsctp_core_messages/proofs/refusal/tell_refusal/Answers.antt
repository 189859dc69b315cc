use Rattle.std.proofs.lemmas.Result.{err_from_is_err_and}
use Rattle.dcsctp_core.specs.api.Messages.{refusal_of}
use Rattle.dcsctp_core.specs.View.{view_of}
use Rattle.dcsctp_core_messages.proofs.RefusalLemmas.{told_in_part}
use Rattle.dcsctp_core_messages.proofs.refusal.tell_refusal.Goals as goal

pub returns-in_err-report_refusal : goal.returns-in_err-report_refusal
returns-in_err-report_refusal g c =
    rw (err_from_is_err_and c.from_residual-in_err-report_refusal.result c.from_residual-in_err-report_refusal.ensures.1).1
    (told_in_part g.R.Rng.stream (refusal_of c.args.error) c.args.lifecycle_id (view_of c.args.context.now) (view_of c.tell_end.new.context) (view_of c.report_refusal.new.context)
    c.in_ok-tell_end.ensures c.in_err-report_refusal.ensures)
