-- The range after the number is removed.
use Rattle.std.specs.Map.{set_value}
use Rattle.std.specs.Ordering.{nat_cmp}
use Rattle.std.specs.BTreeMap.{is_at}
use Rattle.dcsctp_receive_tracker.proofs.RangeEntryLemmas.{joins_behind}
use Rattle.dcsctp_receive_tracker.proofs.received.extend.Goals as goal

pub returns : goal.returns
returns c =
    joins_behind (set_value (is_at (nat_cmp c.args.first)) c.args.ranges.now.entries) c.args.number c.args.behind c.in-Some.next c.set_last-2.new.ranges.entries c.remove.new.self.entries
    c.in-Some.is c.set_last-2.ensures.entries c.set_last-2.ensures.ordered c.remove.ensures.entries
