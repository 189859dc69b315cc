use Rattle.std.proofs.Common.{length}
use Rattle.dcsctp_channels.specs.Layer.{whole_view}
use Rattle.dcsctp_channels.proofs.Loops.{BeginsFurther}
use Rattle.dcsctp_channels.proofs.opening.begin_all.Given as goal

abbrev pub invariant-loop-waiting : goal.invariant-loop-waiting
invariant-loop-waiting g l = BeginsFurther l.role (whole_view (g.S.DcSctpSocket.user_view l.fn.socket) l.fn.layer) (whole_view (g.S.DcSctpSocket.user_view l.socket) l.layer)

-- the channels that wait
abbrev pub decreases-loop-waiting : goal.decreases-loop-waiting
decreases-loop-waiting g l = length l.layer.waiting.items
