use Rattle.std.proofs.Common.{ℕ, refl, arith}
use Rattle.std.proofs.lemmas.List.FromFn.{map-range_with_len_more}
use Rattle.std.proofs.lemmas.List.Elements.{filter-append}
use Rattle.dcsctp_wire.specs.Fields.{numbered_gap_ack_block}
use Rattle.dcsctp_wire.proofs.chunk.clean_blocks.read_blocks.Goals as goal

pub loop-index-preserved : goal.loop-index-preserved
loop-index-preserved c =
    rw (c.in_ok-add_range.ensures, c.loop-index.invariant, map-range_with_len_more (λ (index : ℕ). numbered_gap_ack_block index c.args.sack.now.gap_ack_blocks.now) 0 c.loop-index.index c.loop-index.index (omega arith), filter-append, c.gap_ack_block.ensures) refl
