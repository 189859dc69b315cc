use Rattle.std.proofs.Common.{◌≤◌, ◌-◌, max}
use Rattle.dcsctp_api.specs.spec.queues.Reports.{IsLastPlace}
use Rattle.dcsctp_send_retransmission.proofs.SettledLemmas.{IsAwaitedWithin}
use Rattle.dcsctp_send_retransmission.proofs.outstanding.Outstanding.last_unacknowledged_from.Given as goal

abbrev pub invariant-loop-place : goal.invariant-loop-place
invariant-loop-place l = (l.start ≤ l.place) × (l.place ≤ max l.start l.limit) × IsLastPlace (IsAwaitedWithin l.start l.place) l.self.items l.last

abbrev pub decreases-loop-place : goal.decreases-loop-place
decreases-loop-place l = l.limit - l.place
