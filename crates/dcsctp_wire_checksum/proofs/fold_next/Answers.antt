-- What the bytes are folded to is put after what was folded before.
use Rattle.std.proofs.Common.{arith}
use Rattle.std.proofs.Math.ListN.{length-set}
use Rattle.dcsctp_wire_checksum.proofs.Crc32cFolds.{one_more, folded_here}
use Rattle.dcsctp_wire_checksum.proofs.fold_next.Goals as goal

pub loop-n-preserved : goal.loop-n-preserved
loop-n-preserved c = record {
  long = simp length-set (c.loop-n.invariant.long);
  folded = one_more c.args.bytes.now c.args.folded.now c.loop-n.next c.args.at c.loop-n.n _ (omega arith) c.taps.ensures c.loop-n.invariant.folded;
}

pub returns : goal.returns
returns c =
    folded_here c.args.folded.now c.loop-n.next c.copy_from_slice.new.self c.args.bytes.now c.args.at _ _ c.copy_from_slice.ensures.after (omega arith) (omega arith) (omega arith) (omega arith)
    (λ k within. c.loop-n.invariant.folded k (omega arith))
