-- The four entries are the four bytes' parts of the register.
use Rattle.std.proofs.Common.{ap, ◌∙◌, sym, ◌++◌, replicate}
use Rattle.dcsctp_wire_checksum.specs.Crc32c.{register_after}
use Rattle.dcsctp_wire_checksum.proofs.Crc32cBlocks.{next_four_by_entries, next_four}
use Rattle.dcsctp_wire_checksum.proofs.after_next_four.Goals as goal

pub returns : goal.returns
returns c =
    next_four_by_entries _ _ _ _ c.args.zeros _ _ _ _ c.entry.ensures c.entry-2.ensures c.entry-3.ensures c.entry-4.ensures
    ∙ ap (λ bs. register_after 0 (bs ++ replicate c.args.zeros 0)) (sym (next_four c.args.bytes.now c.args.at c.requires.within))
