use Rattle.std.proofs.Common.{◌≡◌, ◌≤◌, ◌+◌, length, drop}
use Rattle.std.specs.Vec.{vec_capacity}
use Rattle.dcsctp_api.specs.spec.queues.Reassembly.{with_entries}
use Rattle.dcsctp_receive_reassembly.specs.Skips.{WereReplaced}
use Rattle.dcsctp_receive_reassembly.proofs.deferral.keep_entries.Given as goal

-- What is kept, with what is left to keep, is all. What was replaced is listed.
abbrev pub invariant-loop-entry : goal.invariant-loop-entry
invariant-loop-entry l =
    record {
      kept : with_entries (drop l.entry-index l.entries) l.kept.entries ≡ with_entries l.entries l.initial.kept.entries;
      replaced : WereReplaced l.replaced.items l.initial.kept.entries l.kept.entries;
      room : length l.replaced.items + length (drop l.entry-index l.entries) ≤ vec_capacity l.replaced;
    }
