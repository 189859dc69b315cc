-- The range after the number is removed.
use Rattle.std.specs.Ordering.{nat_cmp}
use Rattle.std.specs.BTreeMap.{insert_entry}
use Rattle.dcsctp_receive_tracker.proofs.RangeEntryLemmas.{joins_behind}
use Rattle.dcsctp_receive_tracker.proofs.received.put.Goals as goal

pub returns-clause-ok : goal.returns-clause-ok
returns-clause-ok c =
    joins_behind (insert_entry nat_cmp c.args.ranges.now.entries c.args.number) c.args.number c.args.behind c.in-Some.next c.insert-2.new.self.entries c.remove.new.self.entries
    c.in-Some.is c.in_ok-insert-2.ensures.entries c.insert-2.ensures.ordered c.remove.ensures.entries
