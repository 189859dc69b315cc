use Rattle.std.proofs.Common.{◌∙◌}
use Rattle.std.specs.Map.Iter.{deref_pair}
use Rattle.dcsctp_receive_ordered_map.proofs.EntryLemmas.{count_within, last_is_before, last_of_take, range_up_to}
use Rattle.dcsctp_receive_ordered_map.specs.Entries.{count_up_to}
use Rattle.dcsctp_receive_ordered_map.proofs.entries.entry_up_to.Goals as goal

pub returns-then-last-key-clause-entry : goal.returns-then-last-key-clause-entry
returns-then-last-key-clause-entry g c =
    last_is_before c.args.key (deref_pair (c.in-Some.last, c.in-Some.value)) c.args.entries.now.entries c.in-Some.ensures.last c.in-Some.ensures.all_up_to c.if-last-key.true

pub returns-clause-entry : goal.returns-clause-entry
returns-clause-entry g c =
    last_of_take deref_pair (count_up_to c.args.key c.args.entries.now.entries) c.args.entries.now.entries c.range.result c.next_back.result c.next_back.new.self
    (count_within c.args.key c.args.entries.now.entries)
    (c.range.ensures.between tt ∙ range_up_to c.args.key c.args.entries.now.entries c.range.ensures.ordered)
    c.next_back.ensures.steps
