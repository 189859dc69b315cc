-- The last of the ranges that begin up to the next number says which two are the neighbors.
use Rattle.std.proofs.Common.{◌+◌, ◌∙◌}
use Rattle.dcsctp_receive_ordered_map.proofs.EntryLemmas.{range_up_to}
use Rattle.dcsctp_receive_tracker.proofs.NeighborLemmas.{nearest_before, nothing_behind, second_before}
use Rattle.dcsctp_receive_tracker.proofs.received.search_neighbors.Goals as goal

pub returns-in-Some-clause-before : goal.returns-in-Some-clause-before
returns-in-Some-clause-before c =
    second_before c.args.number c.args.ranges.now.entries c.range-up_to.result c.next_back.new.self c.next_back.result c.in-Some.range c.range-up_to.ensures.ordered
    (c.range-up_to.ensures.between tt ∙ range_up_to (c.args.number + 1) c.args.ranges.now.entries c.range-up_to.ensures.ordered)
    c.next_back.ensures.steps c.in-Some.ensures
    c.next_back-in-Some.new.self c.next_back-in-Some.result c.range_of.result c.if-range-number.true c.next_back-in-Some.ensures.steps c.range_of.ensures

pub returns-in_default-clause-before : goal.returns-in_default-clause-before
returns-in_default-clause-before c =
    nearest_before c.args.number c.args.ranges.now.entries c.range-up_to.result c.next_back.new.self c.next_back.result c.in-Some.range c.range-up_to.ensures.ordered
    (c.range-up_to.ensures.between tt ∙ range_up_to (c.args.number + 1) c.args.ranges.now.entries c.range-up_to.ensures.ordered)
    c.next_back.ensures.steps c.in-Some.ensures c.if-range-number.false

pub returns-in_default-clause-behind : goal.returns-in_default-clause-behind
returns-in_default-clause-behind c =
    nothing_behind c.args.number c.args.ranges.now.entries c.range-up_to.result c.next_back.new.self c.next_back.result c.in-Some.range c.range-up_to.ensures.ordered
    (c.range-up_to.ensures.between tt ∙ range_up_to (c.args.number + 1) c.args.ranges.now.entries c.range-up_to.ensures.ordered)
    c.next_back.ensures.steps c.in-Some.ensures c.if-range-number.false
