-- The four words' parts make up the block's.
use Rattle.dcsctp_wire_checksum.proofs.Crc32cBlocks.{block_by_fours}
use Rattle.dcsctp_wire_checksum.proofs.after_block.Goals as goal

pub returns : goal.returns
returns c = block_by_fours c.args.register c.args.bytes.now c.args.at _ _ _ _ c.requires c.after_first_four.ensures c.after_next_four.ensures c.after_next_four-2.ensures c.after_next_four-3.ensures
