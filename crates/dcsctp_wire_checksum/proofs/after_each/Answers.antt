-- Each byte keeps what is left; at the end nothing is left.
use Rattle.std.proofs.Common.{◌∙◌, arith}
use Rattle.dcsctp_wire_checksum.proofs.Crc32cBlocks.{left_after_byte, left_at_end}
use Rattle.dcsctp_wire_checksum.proofs.after_each.Goals as goal

pub loop-byte-preserved : goal.loop-byte-preserved
loop-byte-preserved c =
    left_after_byte c.loop-byte.register _ c.args.bytes.now c.loop-byte.byte-index (omega arith) c.entry.ensures
    ∙ c.loop-byte.invariant

pub returns : goal.returns
returns c = left_at_end c.loop-byte.register c.args.bytes.now c.loop-byte.byte-index (omega arith) ∙ c.loop-byte.invariant
