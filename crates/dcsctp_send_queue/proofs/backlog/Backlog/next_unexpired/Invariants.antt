use Rattle.dcsctp_send_queue.specs.Telling.{contents}
use Rattle.dcsctp_api.specs.spec.queues.Sending.{DropsAll}
use Rattle.dcsctp_send_queue.proofs.WaitingLemmas.{count_messages}
use Rattle.dcsctp_send_queue.specs.Backlog.{queue_of}
use Rattle.dcsctp_send_queue.proofs.backlog.Backlog.next_unexpired.Given as goal

abbrev pub invariant-loop-place : goal.invariant-loop-place
invariant-loop-place l = DropsAll l.now (queue_of l.initial.self) (contents l.initial.events) (queue_of l.self) (contents l.events)

abbrev pub decreases-loop-place : goal.decreases-loop-place
decreases-loop-place l = count_messages l.self.streams
