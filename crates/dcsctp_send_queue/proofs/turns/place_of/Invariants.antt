use Rattle.std.proofs.Common.{◌-◌, ◌≡◌, ℕ, ◌<◌, ◌≤◌, true, false, length, get_or}
use Rattle.dcsctp_api.specs.types.queues.SendStreams.{comes_after}
use Rattle.dcsctp_send_queue.proofs.turns.place_of.Given as goal

abbrev pub invariant-halving : goal.invariant-halving
invariant-halving l = record {
  in_range : (l.low ≤ l.high) × (l.high ≤ length l.turns.items);
  below : (k : ℕ) → k < l.low → comes_after (get_or l.turns.items k l.turn) l.turn ≡ true;
  above : (k : ℕ) → l.high ≤ k → k < length l.turns.items → comes_after (get_or l.turns.items k l.turn) l.turn ≡ false;
}

abbrev pub decreases-halving : goal.decreases-halving
decreases-halving l = l.high - l.low
