use Rattle.std.proofs.Common.{◌≡◌, ◌++◌, map}
use Rattle.dcsctp_receive_reassembly.proofs.deferral.listed.Given as goal

-- What is listed, with what is left to list, is all.
abbrev pub invariant-loop-entry : goal.invariant-loop-entry
invariant-loop-entry l = l.list.items ++ map (λ entry. entry.1) l.entry-iterator ≡ map (λ entry. entry.1) l.entries.entries
