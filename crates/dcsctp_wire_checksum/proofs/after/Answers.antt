-- Each piece keeps what is left.
use Rattle.std.proofs.Common.{◌∙◌, arith}
use Rattle.dcsctp_wire_checksum.proofs.Crc32cBlocks.{left_after_part}
use Rattle.dcsctp_wire_checksum.proofs.after.Goals as goal

pub loop-at-preserved : goal.loop-at-preserved
loop-at-preserved c = record {
  within = omega arith;
  left = left_after_part c.loop-at.register _ c.args.bytes.now c.loop-at.at c.min-end.result (omega arith) c.after_piece-register.ensures ∙ c.loop-at.invariant.left;
}
