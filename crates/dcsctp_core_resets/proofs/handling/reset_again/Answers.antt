use Rattle.std.proofs.Common.{ap, ◌∙◌}
use Rattle.dcsctp_core.specs.types.Ids.{stream_numbers}
use Rattle.dcsctp_core_resets.specs.Resets.{reset_of_request}
use Rattle.dcsctp_core_resets.proofs.HandlingLemmas.{renewed_silently}
use Rattle.dcsctp_core_resets.proofs.handling.reset_again.Goals as goal

pub returns : goal.returns
returns g c =
    renewed_silently c.args.context.now c.reset_streams.new.state _ (reset_of_request c.args.request.now) (ap (λ streams. stream_numbers streams) c.deref.ensures.value ∙ c.in_ok-streams.ensures)
    c.in_ok-reset_streams.ensures
