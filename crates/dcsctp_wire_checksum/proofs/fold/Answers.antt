-- Each step folds 32 bytes more.
use Rattle.std.proofs.Common.{arith}
use Rattle.dcsctp_wire_checksum.proofs.Crc32cFolds.{folded_on}
use Rattle.dcsctp_wire_checksum.proofs.fold.Goals as goal

pub loop-at-preserved : goal.loop-at-preserved
loop-at-preserved c = record {
  later = omega arith;
  within = omega arith;
  whole = omega arith;
  folded = folded_on c.args.register c.args.bytes.now _ _ c.loop-at.at c.loop-at.invariant.later c.loop-at.invariant.folded c.fold_next.ensures;
}
