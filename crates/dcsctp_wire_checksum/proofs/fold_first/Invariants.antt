use Rattle.dcsctp_wire_checksum.specs.Folds.{IsFolded}
use Rattle.dcsctp_wire_checksum.proofs.fold_first.Given as goal

abbrev pub invariant-loop-at : goal.invariant-loop-at
invariant-loop-at l = IsFolded l.fn.register l.bytes l.folded l.at

abbrev pub invariant-loop-at-2 : goal.invariant-loop-at-2
invariant-loop-at-2 l = IsFolded l.fn.register l.bytes l.folded l.at
