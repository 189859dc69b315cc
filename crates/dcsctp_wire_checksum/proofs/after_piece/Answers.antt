-- What is left by folding has the same register.
use Rattle.std.proofs.Common.{◌∙◌, arith, length, ◌-◌}
use Rattle.std.proofs.Math.ListN.{length-set}
use Rattle.dcsctp_wire_checksum.proofs.Crc32cFolds.{left_by_folding, one_more}
use Rattle.dcsctp_wire_checksum.proofs.after_piece.Goals as goal

pub loop-n-preserved : goal.loop-n-preserved
loop-n-preserved c = record {
  long = simp length-set (c.loop-n.invariant.long);
  left = one_more c.args.bytes.now c.fold.new.folded c.loop-n.rest (length c.args.bytes.now - 224) c.loop-n.n _ (omega arith) c.taps.ensures c.loop-n.invariant.left;
}

pub returns : goal.returns
returns c =
    c.after_blocks.ensures
    ∙ left_by_folding c.args.register c.args.bytes.now c.fold.new.folded c.loop-n.rest (length c.args.bytes.now - 224) (omega arith) (omega arith) (omega arith) (omega arith)
    c.type_inv.bytes
    c.fold.ensures
    (λ k within. c.loop-n.invariant.left k (omega arith))
