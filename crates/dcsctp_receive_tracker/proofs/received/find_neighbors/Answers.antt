-- The last range of all begins at the number or before it.
use Rattle.dcsctp_receive_tracker.proofs.NeighborLemmas.{last_before}
use Rattle.dcsctp_receive_tracker.proofs.received.find_neighbors.Goals as goal

pub returns-in_default-clause-before : goal.returns-in_default-clause-before
returns-in_default-clause-before c =
    last_before c.args.number c.args.ranges.now.entries c.last_key_value.result c.in-Some.range c.in-Some.ensures c.last_key_value.ensures.last c.last_key_value.ensures.all_up_to c.if-range-number.false
