use Rattle.std.proofs.Common.{ℕ, List, length}
use Rattle.dcsctp_api.specs.types.declared.arrivals.SkippedTo.{SkippedTo}
use Rattle.dcsctp_receive_reassembly.specs.Skips.{WereReplaced}
use Rattle.dcsctp_receive_reassembly.proofs.deferral.put_all_back.Given as goal

-- What is listed still was replaced since the beginning.
abbrev pub invariant-loop-one : goal.invariant-loop-one
invariant-loop-one l =
    (before : List (ℕ × SkippedTo)) → WereReplaced l.initial.replaced.items before l.initial.kept.entries → WereReplaced l.replaced.items before l.kept.entries

abbrev pub decreases-loop-one : goal.decreases-loop-one
decreases-loop-one l = length l.replaced.items
