use Rattle.std.proofs.Common.{List, ℕ, map, ◌++◌, ◌∷◌, [], ap, ◌∙◌}
use Rattle.dcsctp_core.specs.spec.endpoint.Event.{incoming_stream_reset}
use Rattle.dcsctp_core.specs.types.Ids.{stream_numbers}
use Rattle.dcsctp_core.specs.api.Events.{event_content}
use Rattle.dcsctp_core.specs.View.{view_of}
use Rattle.dcsctp_core.proofs.Composing.{added_one}
use Rattle.dcsctp_core_resets.specs.Resets.{reset_of_request}
use Rattle.dcsctp_core_resets.proofs.HandlingLemmas.{performed}
use Rattle.dcsctp_core_resets.proofs.handling.perform.Goals as goal

pub returns : goal.returns
returns g c =
    let old = c.args.context.now in
    performed old c.reset_streams.new.state (map event_content c.add.new.self) _ (reset_of_request c.args.request.now) (ap (λ streams. stream_numbers streams) c.deref.ensures.value ∙ c.in_ok-streams.ensures)
    c.in_ok-reset_streams.ensures
    (added_one old.events c.add.new.self _ c.in_ok-add.ensures.ok
    ∙ ap (λ (streams : List ℕ). (view_of old).events ++ incoming_stream_reset streams ∷ []) c.in_ok-streams.ensures)
