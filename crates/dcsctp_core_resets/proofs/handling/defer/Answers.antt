use Rattle.std.proofs.Common.{refl, ap, ◌∙◌}
use Rattle.dcsctp_core.specs.types.Ids.{stream_numbers}
use Rattle.dcsctp_core.specs.declared.context.Context.{Context}
use Rattle.dcsctp_core_resets.specs.Resets.{reset_of_request}
use Rattle.dcsctp_core_resets.proofs.HandlingLemmas.{deferred}
use Rattle.dcsctp_core_resets.proofs.handling.defer.Goals as goal

pub returns : goal.returns
returns g c =
    let new : Context g.row.R.Denot = record c.args.context.now { state = c.defer_reset.new.state } in
    deferred c.args.context.now c.defer_reset.new.state _ (reset_of_request c.args.request.now) c.defer_reset.result new refl
    (ap (λ streams. stream_numbers streams) c.deref.ensures.value ∙ c.in_ok-streams.ensures) c.defer_reset.ensures.ok c.defer_reset.ensures.err
