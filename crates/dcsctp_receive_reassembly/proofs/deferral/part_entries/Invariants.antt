use Rattle.std.proofs.Common.{◌≡◌, ◌++◌, drop}
use Rattle.dcsctp_api.specs.spec.queues.Reassembly.{entries_within, entries_beside}
use Rattle.dcsctp_receive_reassembly.proofs.deferral.part_entries.Given as goal

-- What was parted, with what is left to part, is all.
abbrev pub invariant-loop-entry : goal.invariant-loop-entry
invariant-loop-entry l =
    record {
      within : l.within.items ++ entries_within l.streams (drop l.entry-index l.entries) ≡ entries_within l.streams l.entries;
      beside : l.beside.items ++ entries_beside l.streams (drop l.entry-index l.entries) ≡ entries_beside l.streams l.entries;
    }
