use Rattle.std.proofs.Common.{List, map, ap}
use Rattle.dcsctp_channel_calls.specs.Opening.{channels_waiting}
use Rattle.dcsctp_channels.specs.declared.layer.Waiting.{Waiting}
use Rattle.dcsctp_channels.specs.Layer.{layer_view, waiting_said}
use Rattle.dcsctp_channels.proofs.Placing.{out_of}
use Rattle.dcsctp_channels.proofs.closing.take_out.Goals as goal

pub returns : goal.returns
returns c =
    ap (λ (items : List Waiting). channels_waiting (map waiting_said items) (layer_view c.args.layer.now)) (out_of c.remove.result _ (c.remove.ensures.variant.1 c.requires) c.remove.ensures.items)
