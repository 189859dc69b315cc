use Rattle.std.proofs.Common.{◌∙◌}
use Rattle.std.specs.Map.Iter.{deref_pair}
use Rattle.dcsctp_receive_ordered_map.proofs.EntryLemmas.{range_behind, first_of_drop}
use Rattle.dcsctp_receive_ordered_map.specs.Entries.{count_up_to}
use Rattle.dcsctp_receive_ordered_map.proofs.entries.entry_behind.Goals as goal

pub returns-clause-entry : goal.returns-clause-entry
returns-clause-entry g c =
    first_of_drop deref_pair (count_up_to c.args.key c.args.entries.now.entries) c.args.entries.now.entries c.range.result c.next.result c.next.new.self
    (c.range.ensures.between tt ∙ range_behind c.args.key c.args.entries.now.entries c.range.ensures.ordered)
    c.next.ensures.steps
