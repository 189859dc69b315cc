use Rattle.std.proofs.Common.{◌≡◌, ℕ, ◌<◌, ◌≤◌, true, Some, length}
use Rattle.std.specs.List.{slice_get}
use Rattle.dcsctp_api.specs.spec.queues.Items.{Item}
use Rattle.dcsctp_api.specs.types.queues.Progress.{is_unacknowledged}
use Rattle.dcsctp_send_retransmission.proofs.outstanding.Outstanding.last_unacknowledged.Given as goal

abbrev pub invariant-loop-place : goal.invariant-loop-place
invariant-loop-place l = record {
  within : (l.place ≤ length l.self.items) × (l.place ≤ l.end);
  none_behind : (k : ℕ) (item : Item) → l.place ≤ k → k < l.end → slice_get l.self.items k ≡ Some item → is_unacknowledged item.progress.state ≡ true → ⊥;
}

abbrev pub decreases-loop-place : goal.decreases-loop-place
decreases-loop-place l = l.place
