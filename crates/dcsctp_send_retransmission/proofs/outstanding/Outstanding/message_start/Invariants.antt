use Rattle.std.proofs.Common.{◌≤◌, ◌+◌}
use Rattle.dcsctp_send_retransmission.proofs.MessageLemmas.{AllBear}
use Rattle.dcsctp_send_retransmission.proofs.outstanding.Outstanding.message_start.Given as goal

abbrev pub invariant-loop-start : goal.invariant-loop-start
invariant-loop-start l = (l.start ≤ l.place) × AllBear l.message_id l.start (l.place + 1) l.self.items

abbrev pub decreases-loop-start : goal.decreases-loop-start
decreases-loop-start l = l.start
