use Rattle.std.proofs.Common.{◌<◌, ◌≤◌, ◌-◌, length}
use Rattle.dcsctp_send_retransmission.proofs.MessageLemmas.{AllBear}
use Rattle.dcsctp_send_retransmission.proofs.outstanding.Outstanding.message_end.Given as goal

abbrev pub invariant-loop-end : goal.invariant-loop-end
invariant-loop-end l = (l.place < l.end) × (l.end ≤ length l.self.items) × AllBear l.message_id l.place l.end l.self.items

abbrev pub decreases-loop-end : goal.decreases-loop-end
decreases-loop-end l = l.len - l.end
