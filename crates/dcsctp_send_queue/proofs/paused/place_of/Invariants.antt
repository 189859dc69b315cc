use Rattle.std.proofs.Common.{◌-◌, ℕ, ◌<◌, ◌≤◌, length, get_or}
use Rattle.dcsctp_send_queue.proofs.paused.place_of.Given as goal

abbrev pub invariant-halving : goal.invariant-halving
invariant-halving l = record {
  in_range : (l.low ≤ l.high) × (l.high ≤ length l.ids.items);
  below : (k : ℕ) → k < l.low → (get_or l.ids.items k l.id).0 < l.id.0;
  above : (k : ℕ) → l.high ≤ k → k < length l.ids.items → l.id.0 ≤ (get_or l.ids.items k l.id).0;
}

abbrev pub decreases-halving : goal.decreases-halving
decreases-halving l = l.high - l.low
