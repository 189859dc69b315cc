use Rattle.dcsctp_receive_tracker.proofs.ObservingLemmas.{highest_is}
use Rattle.dcsctp_receive_tracker.proofs.received.Received.highest.Goals as goal

pub returns-in-Some : goal.returns-in-Some
returns-in-Some c = highest_is c.args.self.now.cumulative c.args.self.now.ranges.entries c.in-Some.field-0-0.now c.in-Some.last.now c.in-Some.ensures.last
