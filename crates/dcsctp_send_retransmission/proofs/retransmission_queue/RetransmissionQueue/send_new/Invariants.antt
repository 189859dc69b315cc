use Rattle.std.proofs.Common.{◌≡◌}
use Rattle.dcsctp_api.specs.spec.queues.Items.{marked_items}
use Rattle.dcsctp_send_retransmission.specs.Fresh.{SendsFresh}
use Rattle.dcsctp_send_retransmission.specs.Sending.{ContinuesPacket}
use Rattle.dcsctp_send_retransmission.specs.States.{stage}
use Rattle.dcsctp_api.specs.spec.queues.Filling.{StepNew, StageSteps}
use Rattle.dcsctp_send_retransmission.proofs.retransmission_queue.RetransmissionQueue.send_new.Given as goal

abbrev pub invariant-loop-now : goal.invariant-loop-now
invariant-loop-now l =
    ContinuesPacket l.initial.self l.initial.packet l.self l.packet × (marked_items l.self.outstanding.items ≡ marked_items l.initial.self.outstanding.items)
    × SendsFresh l.now l.initial.self.outstanding l.self.outstanding l.initial.packet.tsns.items l.packet.tsns.items
    × (marked_items l.initial.self.outstanding.items ≡ 0 → StageSteps (StepNew l.now) (stage l.initial.self l.initial.queue l.initial.events l.initial.packet.tsns.items l.initial.packet.room) (stage l.self l.queue l.events l.packet.tsns.items l.packet.room))

abbrev pub decreases-loop-now : goal.decreases-loop-now
decreases-loop-now l = l.packet.room
