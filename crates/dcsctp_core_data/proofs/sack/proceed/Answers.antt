use Rattle.std.proofs.Common.{ap}
use Rattle.std.proofs.lemmas.Result.{err_from_is_err_and}
use Rattle.dcsctp_core.specs.View.{View, view_of}
use Rattle.dcsctp_core_data.proofs.ProceedLemmas.{proceed_cut, proceed_cut_later, proceeded, stepped_held}
use Rattle.dcsctp_core_data.proofs.sack.proceed.Goals as goal

pub returns-in_err-step_shutdown : goal.returns-in_err-step_shutdown
returns-in_err-step_shutdown g c =
    rw (err_from_is_err_and c.from_residual.result c.from_residual.ensures.1).1
    (λ some. proceed_cut c.args.context.now (view_of c.step_shutdown.new.context).events some (ap (λ (v : View g.row.R.Denot). v.events) c.in_err-step_shutdown.ensures))

pub returns-in_err-resend : goal.returns-in_err-resend
returns-in_err-resend g c =
    rw (err_from_is_err_and c.from_residual-in_err-resend.result c.from_residual-in_err-resend.ensures.1).1
    (λ some. proceed_cut_later g.R.Rng.stream c.args.context.now c.step_shutdown.new.context (view_of c.resend.new.context).events some c.in_ok-step_shutdown.ensures
    (c.in_err-resend.ensures (stepped_held g.R.Rng.stream c.args.context.now c.step_shutdown.new.context some c.in_ok-step_shutdown.ensures)))

pub returns : goal.returns
returns g c =
    λ some. proceeded g.R.Rng.stream c.args.context.now c.step_shutdown.new.context c.resend.new.context some c.in_ok-step_shutdown.ensures
    (c.in_ok-resend.ensures (stepped_held g.R.Rng.stream c.args.context.now c.step_shutdown.new.context some c.in_ok-step_shutdown.ensures))
