use Rattle.std.proofs.Common.{sym, ◌∙◌}
use Rattle.dcsctp_channels.proofs.Weighing.{no_deadline}
use Rattle.dcsctp_channels.proofs.closing.next_deadline.Goals as goal

pub returns-then-layer-eq0 : goal.returns-then-layer-eq0
returns-then-layer-eq0 g c =
    c.poll_timeout-due.ensures
    ∙ sym (no_deadline (g.S.DcSctpSocket.user_view c.args.socket.now) c.args.layer.now.table.channels.entries _ (sym c.args.layer.now.table.counted ∙ c.if-layer-eq0.true))
