use Rattle.std.proofs.Common.{List}
use Rattle.dcsctp_api.specs.declared.events.SocketEvent.{SocketEvent}
use Rattle.dcsctp_api.specs.spec.queues.SendQueue.{SendQueueState}
use Rattle.dcsctp_api.specs.spec.queues.Items.{marked_items}
use Rattle.dcsctp_send_retransmission.specs.Sending.{ContinuesPacket}
use Rattle.dcsctp_send_retransmission.specs.States.{stage}
use Rattle.dcsctp_api.specs.spec.queues.Filling.{SendsMarked, StageSteps}
use Rattle.dcsctp_api.specs.spec.queues.AtOnce.{SendsFirst}
use Rattle.dcsctp_send_retransmission.proofs.retransmission_queue.RetransmissionQueue.send_again_at_once.Given as goal

abbrev pub invariant-loop-place : goal.invariant-loop-place
invariant-loop-place l =
    ContinuesPacket l.initial.self l.initial.packet l.self l.packet
    × ((waiting : SendQueueState) (events : List SocketEvent)
    → StageSteps (SendsMarked l.now) (stage l.initial.self waiting events l.initial.packet.tsns.items l.initial.packet.room) (stage l.self waiting events l.packet.tsns.items l.packet.room))
    × SendsFirst l.initial.self.outstanding.items l.self.outstanding.items l.restarts

abbrev pub decreases-loop-place : goal.decreases-loop-place
decreases-loop-place l = marked_items l.self.outstanding.items
