-- What is true of the fields of a tracker at all times.
use Rattle.std.specs.Prelude.{◌≤◌, length}
use Rattle.dcsctp_receive_tracker.specs.declared.data_tracker.DataTracker.TheInside.{Inside}
use Rattle.dcsctp_receive_tracker.specs.Received.{ranges_of}
use Rattle.dcsctp_spec_lemmas.specs.spec.queues.Ranges.{IsBeyond}
use Rattle.dcsctp_receive_tracker.specs.Acknowledging.{IsWithinReach, RunsOnce, RunsWhereDelayed}

pub record IsTrackerKept (tracker : Inside) : Type 0 where
  pub beyond : IsBeyond tracker.received.cumulative (ranges_of tracker.received.ranges)
  pub near : IsWithinReach tracker.received.cumulative (ranges_of tracker.received.ranges)
  pub few : length tracker.duplicates.items ≤ 20
  pub delay : RunsOnce tracker.delay
  pub runs : RunsWhereDelayed tracker.acknowledgement tracker.delay.running
