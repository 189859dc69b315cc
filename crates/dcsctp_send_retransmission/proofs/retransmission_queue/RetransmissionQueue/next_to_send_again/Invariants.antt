use Rattle.std.proofs.Common.{◌≤◌, ℕ, List}
use Rattle.dcsctp_api.specs.spec.queues.Items.{marked_items}
use Rattle.dcsctp_send_retransmission.specs.Sending.{KeepsAllFragments}
use Rattle.dcsctp_send_retransmission.specs.States.{stage}
use Rattle.dcsctp_api.specs.spec.queues.Filling.{StageSteps, StepAgain}
use Rattle.dcsctp_send_retransmission.proofs.retransmission_queue.RetransmissionQueue.next_to_send_again.Given as goal

abbrev pub invariant-loop-place : goal.invariant-loop-place
invariant-loop-place l =
    KeepsAllFragments l.initial.self l.self × (marked_items l.self.outstanding.items ≤ marked_items l.initial.self.outstanding.items)
    × ((tsns : List ℕ) (room : ℕ) → StageSteps (StepAgain l.now) (stage l.initial.self l.initial.queue l.initial.events tsns room) (stage l.self l.queue l.events tsns room))

abbrev pub decreases-loop-place : goal.decreases-loop-place
decreases-loop-place l = marked_items l.self.outstanding.items
