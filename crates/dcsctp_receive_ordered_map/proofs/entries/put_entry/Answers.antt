use Rattle.std.proofs.Common.{◌∙◌}
use Rattle.dcsctp_receive_ordered_map.proofs.EntryLemmas.{insert_new}
use Rattle.dcsctp_receive_ordered_map.proofs.entries.put_entry.Goals as goal

pub returns-clause-ok : goal.returns-clause-ok
returns-clause-ok g c =
    c.in_ok-insert.ensures.entries
    ∙ insert_new c.args.key c.args.value c.args.entries.now.entries c.insert.ensures.was_ordered c.requires.absent
