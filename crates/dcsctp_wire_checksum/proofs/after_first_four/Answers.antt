-- The word's four bytes are the bytes read, each exclusive or the register's.
use Rattle.std.proofs.Common.{ap, ◌∙◌, sym, arith, ◌+◌, ◌++◌, get_or, replicate}
use Rattle.dcsctp_wire_checksum.specs.Crc32c.{register_after}
use Rattle.dcsctp_wire_checksum.proofs.Crc32cBlocks.{first_four_by_entries, next_four}
use Rattle.dcsctp_wire_checksum.proofs.after_first_four.Goals as goal

pub returns : goal.returns
returns c =
    let bs = c.args.bytes.now in
    let at = c.args.at in
    let small = c.type_inv.bytes in
    first_four_by_entries c.args.register _ (get_or bs at 0) (get_or bs (at + 1) 0) (get_or bs (at + 2) 0) (get_or bs (at + 3) 0) c.args.zeros _ _ _ _ (omega arith) (omega (arith, small at)) (omega (arith, small (at + 1))) (omega (arith, small (at + 2))) c.from_le_bytes-read.ensures c.entry.ensures c.entry-2.ensures c.entry-3.ensures c.entry-4.ensures
    ∙ ap (λ bytes. register_after c.args.register (bytes ++ replicate c.args.zeros 0)) (sym (next_four bs at c.requires.within))
