-- Each byte is at a place that no other byte reaches.
use Rattle.std.proofs.Common.{arith, refl}
use Rattle.dcsctp_wire_checksum.proofs.Crc32cFolds.{nothing_folded, folded_byte, read_first, read_later}
use Rattle.dcsctp_wire_checksum.proofs.fold_first.Goals as goal

pub loop-at-init : goal.loop-at-init
loop-at-init c = nothing_folded c.args.register c.args.bytes.now _ c.requires.empty

pub loop-at-preserved : goal.loop-at-preserved
loop-at-preserved c =
    folded_byte c.args.register c.args.bytes.now c.loop-at.folded c.loop-at.at _ (omega arith) (omega arith) c.loop-at.invariant
    (read_first c.args.register c.loop-at.at c.args.bytes.now _ c.to_le_bytes-first.ensures)

pub loop-at-2-preserved : goal.loop-at-2-preserved
loop-at-2-preserved c =
    folded_byte c.args.register c.args.bytes.now c.loop-at-2.folded c.loop-at-2.at _ (omega arith) (omega arith) c.loop-at-2.invariant
    (read_later c.args.register c.loop-at-2.at c.args.bytes.now _ c.loop-at-2.auto.at refl)
