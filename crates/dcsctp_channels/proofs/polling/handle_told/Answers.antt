use Rattle.std.proofs.Common.{map, ap}
use Rattle.dcsctp_channels.specs.Layer.{reported_event, whole_view}
use Rattle.dcsctp_channels.proofs.Arriving.{told_handled}
use Rattle.dcsctp_channels.proofs.polling.handle_told.Goals as goal

pub returns-in_ok-handle_event-in-Some : goal.returns-in_ok-handle_event-in-Some
returns-in_ok-handle_event-in-Some g c =
    told_handled (whole_view (g.S.DcSctpSocket.user_view c.args.socket.now) c.args.layer.now) _ (reported_event c.in-Some.told) (map reported_event c.pop_front.new.self.items)
    (ap (map reported_event) c.in-Some.ensures.items) c.in_ok-handle_event-in-Some.ensures.0 c.in_ok-handle_event-in-Some.ensures.1
