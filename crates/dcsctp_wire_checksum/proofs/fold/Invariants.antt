use Rattle.std.proofs.Common.{◌≡◌, ◌-◌, ◌%◌, ◌≤◌}
use Rattle.dcsctp_wire_checksum.specs.Folds.{IsFolded}
use Rattle.dcsctp_wire_checksum.proofs.fold.Given as goal

abbrev pub invariant-loop-at : goal.invariant-loop-at
invariant-loop-at l = record {
  later : 4 ≤ l.at;
  within : l.at ≤ l.end;
  whole : (l.end - l.at) % 32 ≡ 0;
  folded : IsFolded l.fn.register l.bytes l.folded l.at;
}

abbrev pub decreases-loop-at : goal.decreases-loop-at
decreases-loop-at l = l.end - l.at
