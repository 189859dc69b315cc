use Rattle.dcsctp_channels.specs.Layer.{layer_view, whole_view}
use Rattle.dcsctp_channels.proofs.Arriving.{ready_in}
use Rattle.dcsctp_channels.proofs.polling.handle_ready.Goals as goal

pub returns : goal.returns
returns g c =
    ready_in c.in-Some.message (whole_view (g.S.DcSctpSocket.user_view c.args.socket.now) c.args.layer.now) (g.S.DcSctpSocket.user_view c.get_next_message.new.self) (layer_view c.count_taken.new.self) _
    c.handle_message.result c.in-Some.ensures c.in_ok-count_taken.ensures c.handle_message.ensures
