use Rattle.dcsctp_channels.specs.Layer.{whole_view}
use Rattle.dcsctp_channels.proofs.Loops.{PollsFurther}
use Rattle.dcsctp_channels.proofs.polling.poll.Given as goal

abbrev pub invariant-loop-turn : goal.invariant-loop-turn
invariant-loop-turn g l = PollsFurther (whole_view (g.S.DcSctpSocket.user_view l.fn.socket) l.fn.layer) (whole_view (g.S.DcSctpSocket.user_view l.socket) l.layer)
