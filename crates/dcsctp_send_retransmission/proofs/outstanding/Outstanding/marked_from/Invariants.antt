use Rattle.dcsctp_send_retransmission.specs.Outstanding.{NoneMarkedBetween}
use Rattle.dcsctp_send_retransmission.proofs.outstanding.Outstanding.marked_from.Given as goal

abbrev pub invariant-loop-place : goal.invariant-loop-place
invariant-loop-place l = NoneMarkedBetween l.start l.place l.self.items
