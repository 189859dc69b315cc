use Rattle.std.proofs.Common.{sym, ◌∙◌, refl}
use Rattle.dcsctp_channel_calls.specs.messages.Contents.{opening_of_message}
use Rattle.dcsctp_channels.specs.Layer.{whole_view}
use Rattle.dcsctp_channels.proofs.Arriving.{refused_in}
use Rattle.dcsctp_channels.proofs.arrivals.take_control.Goals as goal

pub returns-else-accepts : goal.returns-else-accepts
returns-else-accepts g c =
    refused_in c.args.stream (opening_of_message c.in-Ok-Open.message) _ (whole_view (g.S.DcSctpSocket.user_view c.args.socket.now) c.args.layer.now) _ c.refuse_open.result (rw c.in-Ok-Open.field-0-is at c.in-Ok-Open.ensures)
    (sym c.accepts.ensures ∙ c.if-accepts.false) (c.refuse_open.ensures c.args.layer.now.named (opening_of_message c.in-Ok-Open.message) refl)
