use Rattle.std.proofs.Common.{ap, is_some, ◌∙◌}
use Rattle.dcsctp_channels.specs.Layer.{layer_view}
use Rattle.dcsctp_channels.proofs.Placing.{waits_at}
use Rattle.dcsctp_channels.proofs.queries.is_waiting.Goals as goal

pub returns : goal.returns
returns c = c.is_some.ensures ∙ ap is_some c.place_of.ensures ∙ waits_at c.args.id.0 0 (layer_view c.args.layer.now).waiting
