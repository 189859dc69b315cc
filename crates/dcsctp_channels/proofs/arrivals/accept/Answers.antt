use Rattle.std.proofs.Common.{◌≡◌, [], ◌∷◌, subst}
use Rattle.dcsctp_channel_calls.specs.api.types.ByResult.{ByResult}
use Rattle.dcsctp_channel_calls.specs.messages.channel_spec.Slots.{Opening, incoming}
use Rattle.dcsctp_channel_calls.specs.messages.Contents.{opening_of_message}
use Rattle.dcsctp_channel_calls.specs.View.{of_channel}
use Rattle.dcsctp_channel_calls.specs.Events.{with_notices}
use Rattle.dcsctp_channels.specs.Layer.{layer_view, whole_view}
use Rattle.dcsctp_channels.proofs.Arriving.{accepts_in}
use Rattle.dcsctp_channels.proofs.arrivals.accept.Goals as goal

pub returns : goal.returns
returns g c =
    accepts_in c.args.stream c.in_ok-id.id.0 (opening_of_message c.args.message.now) (whole_view (g.S.DcSctpSocket.user_view c.args.socket.now) c.args.layer.now)
    (g.S.DcSctpSocket.user_view c.prepare_stream.new.socket) (layer_view c.name.new.self) (layer_view c.take_accepted.new.layer) (layer_view c.report.new.self) c.report.result
    c.requires c.in_ok-prepare_stream.ensures c.in_ok-id.ensures.0 c.in_ok-id.ensures.1 c.in_ok-take_accepted.ensures.0 c.in_ok-take_accepted.ensures.1
    (subst (λ (opening : Opening). ByResult (λ done. layer_view c.report.new.self ≡ with_notices (of_channel (incoming c.in_ok-id.id.0 opening) ∷ []) (layer_view c.take_accepted.new.layer)) (layer_view c.report.new.self ≡ layer_view c.take_accepted.new.layer) c.report.result)
    c.in_ok-options.ensures c.report.ensures)
