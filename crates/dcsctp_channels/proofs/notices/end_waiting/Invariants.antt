use Rattle.std.proofs.Common.{length}
use Rattle.dcsctp_channels.specs.Layer.{layer_view}
use Rattle.dcsctp_channels.proofs.Loops.{EndsFurther}
use Rattle.dcsctp_channels.proofs.notices.end_waiting.Given as goal

abbrev pub invariant-loop-waiting : goal.invariant-loop-waiting
invariant-loop-waiting l = EndsFurther (layer_view l.fn.layer) (layer_view l.layer)

-- the channels that wait
abbrev pub decreases-loop-waiting : goal.decreases-loop-waiting
decreases-loop-waiting l = length l.layer.waiting.items
