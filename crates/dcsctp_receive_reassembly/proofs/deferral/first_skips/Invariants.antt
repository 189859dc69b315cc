use Rattle.std.proofs.Common.{◌≡◌, [], drop}
use Rattle.dcsctp_api.specs.spec.queues.Reassembly.{with_entries}
use Rattle.dcsctp_receive_reassembly.proofs.deferral.first_skips.Given as goal

-- What is kept, with what is left to keep, is all.
abbrev pub invariant-loop-entry : goal.invariant-loop-entry
invariant-loop-entry l = with_entries (drop l.entry-index l.entries) l.kept.entries ≡ with_entries l.entries []
