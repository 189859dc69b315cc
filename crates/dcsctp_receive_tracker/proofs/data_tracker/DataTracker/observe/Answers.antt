use Rattle.std.proofs.Common.{refl}
use Rattle.dcsctp_receive_tracker.specs.Received.{ranges_of}
use Rattle.dcsctp_receive_tracker.specs.contracts.data_tracker.DataTracker.{the_view}
use Rattle.dcsctp_receive_tracker.proofs.ObservingLemmas.{observes, has_entries}
use Rattle.dcsctp_receive_tracker.proofs.data_tracker.DataTracker.observe.Goals as goal

pub returns-clause-ok : goal.returns-clause-ok
returns-clause-ok c =
    rw (← c.self.view_is, c.after_arrival-self-inside.ensures, c.stop.ensures)
    (observes c.args.tsn c.args.immediate_ack c.in_ok-is_new.is_new (the_view c.self.inside) _ c.receive.new.self.cumulative (ranges_of c.receive.new.self.ranges) c.self.invariant.beyond (rw (← c.number_of-number.ensures) c.in_ok-is_new.ensures.ok)
    (rw (c.in_ok-keep_duplicate.ensures.ok, has_entries c.is_empty-2.result c.receive.new.self.ranges.entries c.is_empty-2.ensures, has_entries c.is_empty.result c.self.inside.received.ranges.entries c.is_empty.ensures) refl))
