use Rattle.std.proofs.Common.{sym, ◌∙◌}
use Rattle.dcsctp_channels.proofs.Arriving.{acks_in}
use Rattle.dcsctp_channels.proofs.arrivals.ack_now.Goals as goal

pub returns-in-Some : goal.returns-in-Some
returns-in-Some g c =
    let at = sym c.at.ensures ∙ c.in-Some.is in
    acks_in c.args.stream c.in-Some.held _ _ c.send_ack.result at (sym c.ack_is_due.ensures ∙ c.if-ack_is_due.true) (c.send_ack.ensures c.in-Some.held at)
