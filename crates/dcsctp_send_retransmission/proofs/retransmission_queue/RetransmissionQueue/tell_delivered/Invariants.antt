use Rattle.std.proofs.Common.{◌≡◌, ◌++◌, take}
use Rattle.dcsctp_send_queue.specs.Telling.{contents}
use Rattle.dcsctp_api.specs.spec.queues.Acknowledging.{delivered_events}
use Rattle.dcsctp_send_retransmission.proofs.retransmission_queue.RetransmissionQueue.tell_delivered.Given as goal

abbrev pub invariant-loop-place : goal.invariant-loop-place
invariant-loop-place l = contents l.events ≡ contents l.initial.events ++ delivered_events (take l.place l.self.outstanding.items)
