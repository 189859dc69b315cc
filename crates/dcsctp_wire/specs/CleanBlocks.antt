-- The gap ack blocks of a SACK in order, whatever order its sender gave them in (RFC 9260, section 3.3.4).
use Rattle.std.specs.Prelude.{◌≡◌, ◌<◌, ◌≤◌, ◌+◌, ◌/◌, ℕ, Bool, ◌&&◌, ◌||◌, List, [], ◌∷◌, map, length, nat_le}
use Rattle.std.specs.List.{list_any, filter, range_with_len}
use Rattle.dcsctp_wire.specs.declared.chunk.sack.GapAckBlock.{GapAckBlock}
use Rattle.dcsctp_wire.specs.Fields.{numbered_gap_ack_block}

-- the blocks that the bytes of a SACK name, in their order there
abbrev pub blocks_of_bytes : List ℕ → List GapAckBlock
blocks_of_bytes bytes = map (λ index. numbered_gap_ack_block index bytes) (range_with_len 0 (length bytes / 4))

-- Does it name a TSN, and only TSNs after the cumulative one?
abbrev pub is_range : GapAckBlock → Bool
is_range block = nat_le 1 block.start && nat_le block.start block.end

-- the same, of one that does
abbrev pub IsRange : GapAckBlock → Type 0
IsRange block = (1 ≤ block.start) × (block.start ≤ block.end)

-- Is the TSN so far after the cumulative one among those of the block?
abbrev pub names : ℕ → GapAckBlock → Bool
names offset block = nat_le block.start offset && nat_le offset block.end

-- Each block begins after the cumulative TSN, and at least one TSN is missing between it and the next.
abbrev pub AreApart : List GapAckBlock → Type 0
AreApart [] = Unit {0}
AreApart (block ∷ []) = IsRange block
AreApart (block ∷ next ∷ blocks) = IsRange block × ((block.end + 1 < next.start) × AreApart (next ∷ blocks))

-- both are ranges, and the first doesn't begin after the second
pub record BeginsBefore (first second : GapAckBlock) : Type 0 where
  pub first_begins : 1 ≤ first.start
  pub first_ends : first.start ≤ first.end
  pub second_ends : second.start ≤ second.end
  pub ordered : first.start ≤ second.start

-- A block is added: the blocks stay apart, and name its TSNs too.
pub record AddsGapBlock (blocks : List GapAckBlock) (block : GapAckBlock) (more : List GapAckBlock) : Type 0 where
  pub apart : AreApart blocks → AreApart more
  pub same : (offset : ℕ) → list_any (names offset) more ≡ (list_any (names offset) blocks || names offset block)

-- These blocks are apart, and name the TSNs that those blocks name.
pub record AreJoined (named blocks : List GapAckBlock) : Type 0 where
  pub apart : AreApart blocks
  pub same : (offset : ℕ) → list_any (names offset) blocks ≡ list_any (names offset) named

-- The blocks that remain of the named ones: a block that begins at 0, or ends before it begins, doesn't count.
abbrev pub AreCleaned : List GapAckBlock → List GapAckBlock → Type 0
AreCleaned named blocks = AreJoined (filter is_range named) blocks
