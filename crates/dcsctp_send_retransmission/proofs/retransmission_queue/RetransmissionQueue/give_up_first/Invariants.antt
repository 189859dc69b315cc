use Rattle.std.proofs.Common.{[]}
use Rattle.dcsctp_send_retransmission.specs.States.{stage}
use Rattle.dcsctp_send_retransmission.proofs.GivingUpLemmas.{Scans}
use Rattle.dcsctp_send_retransmission.proofs.retransmission_queue.RetransmissionQueue.give_up_first.Given as goal

abbrev pub invariant-loop-place : goal.invariant-loop-place
invariant-loop-place l =
    Scans l.now l.place (stage l.initial.self l.initial.queue l.initial.events [] 0) (stage l.self l.queue l.events [] 0)
