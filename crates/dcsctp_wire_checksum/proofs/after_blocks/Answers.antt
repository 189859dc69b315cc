-- Each block keeps what is left.
use Rattle.std.proofs.Common.{◌∙◌, arith}
use Rattle.dcsctp_wire_checksum.proofs.Crc32cBlocks.{left_after_part}
use Rattle.dcsctp_wire_checksum.proofs.after_blocks.Goals as goal

pub loop-at-preserved : goal.loop-at-preserved
loop-at-preserved c = record {
  within = omega arith;
  left = left_after_part c.loop-at.register _ c.args.bytes.now c.loop-at.at _ (omega arith) c.after_block-register.ensures ∙ c.loop-at.invariant.left;
}
