-- The run is looked up by where it begins.
use Rattle.std.proofs.Common.{Some, None, sym, ap, ◌∙◌}
use Rattle.std.specs.Option.{option_copied}
use Rattle.dcsctp_receive_reassembly.specs.Runs.{lent_run}
use Rattle.dcsctp_receive_reassembly.proofs.JoinsLemmas.{named_run}
use Rattle.dcsctp_receive_reassembly.proofs.joining.run_at.Goals as goal

pub returns-in_err-run : goal.returns-in_err-run
returns-in_err-run c = λ at begins.
    ap lent_run c.from_residual-in_err-run.ensures
    ∙ named_run c.args.first c.in_ok-first.first at c.args.runs.now.entries None c.requires c.in_ok-first.was (sym (ap option_copied c.in_err-run.was) ∙ c.get.ensures.value) begins

pub returns : goal.returns
returns c = λ at begins.
    named_run c.args.first c.in_ok-first.first at c.args.runs.now.entries (Some c.in_ok-run.run'.now) c.requires c.in_ok-first.was (sym (ap option_copied c.in_ok-run.was) ∙ c.get.ensures.value) begins
