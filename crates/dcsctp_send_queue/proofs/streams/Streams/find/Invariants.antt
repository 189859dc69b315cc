use Rattle.std.proofs.Common.{◌-◌, ℕ, ◌<◌, ◌≤◌, length}
use Rattle.dcsctp_api.specs.types.queues.SendStreams.{stream_at}
use Rattle.dcsctp_send_queue.proofs.streams.Streams.find.Given as goal

abbrev pub invariant-halving : goal.invariant-halving
invariant-halving l = record {
  in_range : (l.low ≤ l.high) × (l.high ≤ length l.self);
  below : (k : ℕ) → k < l.low → (stream_at l.self k).id < l.id.0;
  above : (k : ℕ) → l.high ≤ k → k < length l.self → l.id.0 ≤ (stream_at l.self k).id;
}

abbrev pub decreases-halving : goal.decreases-halving
decreases-halving l = l.high - l.low
