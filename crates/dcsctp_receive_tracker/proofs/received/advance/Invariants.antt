use Rattle.std.proofs.Common.{◌≡◌, ◌≤◌, ℕ, length}
use Rattle.dcsctp_receive_tracker.specs.Received.{IsSpaced, ranges_of}
use Rattle.dcsctp_spec_lemmas.specs.spec.queues.Ranges.{is_received}
use Rattle.dcsctp_receive_tracker.proofs.received.advance.Given as goal

abbrev pub invariant-loop-first : goal.invariant-loop-first
invariant-loop-first l =
    record {
      forward : l.number ≤ l.reached;
      spaced : IsSpaced (ranges_of l.ranges);
      members : (other : ℕ) → is_received l.reached other (ranges_of l.ranges) ≡ is_received l.number other (ranges_of l.initial.ranges);
    }

abbrev pub decreases-loop-first : goal.decreases-loop-first
decreases-loop-first l = length l.ranges.entries
