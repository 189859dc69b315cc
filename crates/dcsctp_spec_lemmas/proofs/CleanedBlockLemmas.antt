-- The blocks that a SACK names can be put in order.
use Rattle.std.proofs.Common.{◌≡◌, ◌⊎◌, inl, inr, ℕ, ◌+◌, ◌<◌, ◌≤◌, min, max, Bool, true, false, ◌||◌, cond, List, [], ◌∷◌, refl, ◌∙◌, ap, arith}
use Rattle.std.specs.List.{list_any, filter}
use Rattle.std.proofs.lemmas.Bool.Decides.{nat_tests}
use Rattle.dcsctp_spec.specs.wire.declared.chunk.sack.GapAckBlock.{GapAckBlock}
use Rattle.dcsctp_spec.specs.wire.CleanBlocks.{is_range, names, AreApart, AreCleaned}

-- The blocks ascend from beyond this offset, with one missing between each two.
abbrev LieBeyond : ℕ → List GapAckBlock → Type 0
LieBeyond from [] = Unit {0}
LieBeyond from (block ∷ blocks) = (from < block.start) × (block.start ≤ block.end) × LieBeyond (block.end + 1) blocks

beyond_less : (from to : ℕ) (blocks : List GapAckBlock) → from ≤ to → LieBeyond to blocks → LieBeyond from blocks
beyond_less from to [] less beyond = tt
beyond_less from to (block ∷ blocks) less beyond = (omega (arith, beyond.0), beyond.1, beyond.2)

apart_beyond : (blocks : List GapAckBlock) → LieBeyond 0 blocks → AreApart blocks
apart_beyond [] beyond = tt
apart_beyond (block ∷ []) beyond = (beyond.0, beyond.1)
apart_beyond (block ∷ next ∷ blocks) beyond = ((beyond.0, beyond.1), (beyond.2.0, apart_beyond (next ∷ blocks) (omega (arith, beyond.2.0), beyond.2.1, beyond.2.2)))

-- ---- one more block

-- blocks beyond the offset that name what these name, and what the block names
abbrev WithBlock : ℕ → GapAckBlock → List GapAckBlock → Type 0
WithBlock from block blocks = (more : List GapAckBlock) × LieBeyond from more × ((offset : ℕ) → list_any (names offset) more ≡ (names offset block || list_any (names offset) blocks))

-- A block ends before another begins, or begins after its end, with one missing between them; or they touch.
where_it_lies : (block first : GapAckBlock) → (block.end + 1 < first.start) ⊎ ((first.end + 1 < block.start) ⊎ ((block.start ≤ first.end + 1) × (first.start ≤ block.end + 1)))
where_it_lies block first = grind arith

-- from the start of the one that begins first to the end of the one that ends last
abbrev joined : GapAckBlock → GapAckBlock → GapAckBlock
joined block first = record { start = min block.start first.start; end = max block.end first.end }

names_joined : (offset : ℕ) (block first : GapAckBlock) → block.start ≤ block.end → first.start ≤ first.end → block.start ≤ first.end + 1 → first.start ≤ block.end + 1
    → names offset (joined block first) ≡ (names offset block || names offset first)
names_joined offset block first filled first_filled touches first_touches = grind (arith, nat_tests)

or_assoc : (a b c : Bool) → ((a || b) || c) ≡ (a || (b || c))
or_assoc true b c = refl
or_assoc false b c = refl

or_swap : (a b c : Bool) → (b || (a || c)) ≡ (a || (b || c))
or_swap true true c = refl
or_swap true false c = refl
or_swap false b c = refl

with_block : (from : ℕ) (block : GapAckBlock) (blocks : List GapAckBlock) → from < block.start → block.start ≤ block.end → LieBeyond from blocks → WithBlock from block blocks
with_block from block [] starts filled beyond = (block ∷ [], (starts, filled, tt), λ offset. refl)
with_block from block (first ∷ blocks) starts filled beyond = elim (where_it_lies block first) [
  | inl before ↦ (block ∷ first ∷ blocks, (starts, filled, (before, beyond.1, beyond.2)), λ offset. refl)
  | inr (inl behind) ↦
      let (more, more_beyond, same) = with_block (first.end + 1) block blocks behind filled beyond.2 in (
        first ∷ more,
        (beyond.0, beyond.1, more_beyond),
        λ offset. ap (λ named. names offset first || named) (same offset) ∙ or_swap (names offset block) (names offset first) (list_any (names offset) blocks),
      )
  | inr (inr touches) ↦
      let rest = beyond_less from (first.end + 1) blocks (omega (arith, beyond.0, beyond.1)) beyond.2 in
      let (more, more_beyond, same) = with_block from (joined block first) blocks (omega (arith, beyond.0)) (omega arith) rest in (
        more,
        more_beyond,
        λ offset.
            same offset
            ∙ ap (λ named. named || list_any (names offset) blocks) (names_joined offset block first filled beyond.1 touches.0 touches.1)
            ∙ or_assoc (names offset block) (names offset first) (list_any (names offset) blocks),
      )
]

-- ---- all of them

-- blocks in order that name what these name
abbrev InOrder : List GapAckBlock → Type 0
InOrder named = (blocks : List GapAckBlock) × LieBeyond 0 blocks × ((offset : ℕ) → list_any (names offset) blocks ≡ list_any (names offset) named)

with_named : (block : GapAckBlock) (named : List GapAckBlock) (kept : Bool) → is_range block ≡ kept → InOrder named → InOrder (cond kept (block ∷ named) named)
with_named block named true is (blocks, beyond, same) =
    let (more, more_beyond, more_same) = with_block 0 block blocks (grind (arith, nat_tests)) (grind (arith, nat_tests)) beyond in
    (more, more_beyond, λ offset. more_same offset ∙ ap (λ rest. names offset block || rest) (same offset))
with_named block named false is blocks = blocks

in_order : (named : List GapAckBlock) → InOrder (filter is_range named)
in_order [] = ([], tt, λ offset. refl)
in_order (block ∷ named) = with_named block (filter is_range named) (is_range block) refl (in_order named)

-- Whatever blocks a SACK names, there are blocks in order that name the same.
pub some_cleaned : (named : List GapAckBlock) → (blocks : List GapAckBlock) × AreCleaned named blocks
some_cleaned named =
    let (blocks, beyond, same) = in_order named in
    (blocks, record { apart = apart_beyond blocks beyond; same = same })
