use Rattle.std.proofs.Common.{length}
use Rattle.dcsctp_channels.specs.Layer.{whole_view}
use Rattle.dcsctp_channels.proofs.Loops.{GathersFurther}
use Rattle.dcsctp_channels.proofs.below.gather.Given as goal

abbrev pub invariant-loop-event : goal.invariant-loop-event
invariant-loop-event g l = GathersFurther (whole_view (g.S.DcSctpSocket.user_view l.fn.socket) l.fn.layer) (whole_view (g.S.DcSctpSocket.user_view l.socket) l.layer)

-- the events that wait
abbrev pub decreases-loop-event : goal.decreases-loop-event
decreases-loop-event g l = length (g.S.DcSctpSocket.user_view l.socket).events
