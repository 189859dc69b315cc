use Rattle.std.proofs.Common.{ℕ, List, subst}
use Rattle.dcsctp_core.specs.types.declared.kinds.ErrorKind.TheVariants.{NotConnected}
use Rattle.dcsctp_core.specs.View.{Moves, view_of}
use Rattle.dcsctp_core.specs.Handling.{report_turn}
use Rattle.dcsctp_core_data.proofs.refusal.report_not_connected.Goals as goal

pub returns : goal.returns
returns g c =
    subst (λ (text : List ℕ). Moves g.R.Rng.stream (view_of c.args.context.now) (report_turn NotConnected text (view_of c.args.context.now)) (view_of c.report.new.self))
    c.in_ok-text.ensures.ok c.in_ok-report.ensures
