use Rattle.std.proofs.Common.{◌≡◌, ◌≤◌, ◌<◌, ℕ, [], ◌∷◌, ◌++◌, get_or, take, length}
use Rattle.std.specs.List.{list_any}
use Rattle.dcsctp_wire.specs.declared.chunk.sack.GapAckBlock.{GapAckBlock}
use Rattle.dcsctp_wire.specs.CleanBlocks.{names, AreApart}
use Rattle.dcsctp_wire.proofs.chunk.clean_blocks.join_blocks.Given as goal

-- The blocks so far are joined, with the current one after the others. None that follows begins before it.
abbrev pub invariant-loop-block : goal.invariant-loop-block
invariant-loop-block l = record {
  apart : AreApart (l.joined.items ++ l.current ∷ []);
  same : (offset : ℕ) → list_any (names offset) (l.joined.items ++ l.current ∷ []) ≡ list_any (names offset) (l.initial.current ∷ take l.block-index l.rest);
  begins : 1 ≤ l.current.start;
  ends : l.current.start ≤ l.current.end;
  ascending : (i : ℕ) (d : GapAckBlock) → l.block-index ≤ i → i < length l.rest → l.current.start ≤ (get_or l.rest i d).start;
}
