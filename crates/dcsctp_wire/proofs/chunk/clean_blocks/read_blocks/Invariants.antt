use Rattle.std.proofs.Common.{◌≡◌, map}
use Rattle.std.specs.List.{filter, range_with_len}
use Rattle.dcsctp_wire.specs.Fields.{numbered_gap_ack_block}
use Rattle.dcsctp_wire.specs.CleanBlocks.{is_range}
use Rattle.dcsctp_wire.proofs.chunk.clean_blocks.read_blocks.Given as goal

-- those of the blocks so far
abbrev pub invariant-loop-index : goal.invariant-loop-index
invariant-loop-index l = l.blocks.items ≡ filter is_range (map (λ index. numbered_gap_ack_block index l.sack.gap_ack_blocks.now) (range_with_len 0 l.index))
