use Rattle.std.proofs.Common.{◌≡◌, ◌≤◌, ◌-◌, max}
use Rattle.dcsctp_api.specs.spec.queues.Items.{changed_between}
use Rattle.dcsctp_send_retransmission.proofs.outstanding.Outstanding.change_from.Given as goal

abbrev pub invariant-loop-place : goal.invariant-loop-place
invariant-loop-place l =
    (l.self ≡ record l.initial.self { items = changed_between l.change l.start l.place l.initial.self.items }) × (l.start ≤ l.place) × (l.place ≤ max l.start l.limit)

abbrev pub decreases-loop-place : goal.decreases-loop-place
decreases-loop-place l = l.limit - l.place
