-- Gap ack blocks that are joined one after another.
use Rattle.std.proofs.Common.{◌≡◌, ◌≤◌, ◌<◌, ◌+◌, ℕ, Bool, true, false, ◌||◌, ◌&&◌, List, [], ◌∷◌, ◌++◌, length, get_or, suc, subst, max, cond, nat_le, refl, arith}
use Rattle.std.specs.List.{list_any, filter, All, AllByRecursion}
use Rattle.std.proofs.lemmas.List.Elements.{All-from_recursion, All-head, All-tail}
use Rattle.std.specs.List.Sorted.{IsNonDecreasingBy}
use Rattle.std.proofs.lemmas.List.{get_or_default}
use Rattle.std.proofs.lemmas.List.Folds.{list_any-append}
use Rattle.dcsctp_wire.specs.declared.chunk.sack.GapAckBlock.{GapAckBlock}
use Rattle.dcsctp_wire.specs.CleanBlocks.{is_range, IsRange, names, AreApart, BeginsBefore, AddsGapBlock}

-- ---- a gap before the next one

apart_behind : (blocks : List GapAckBlock) (last next : GapAckBlock) → 1 ≤ next.start → next.start ≤ next.end → last.end + 1 < next.start
    → AreApart (blocks ++ last ∷ []) → AreApart ((blocks ++ last ∷ []) ++ next ∷ [])
apart_behind [] last next begins ends gap apart = (apart, (gap, (begins, ends)))
apart_behind (block ∷ []) last next begins ends gap apart = (apart.0, (apart.1.0, (apart.1.1, (gap, (begins, ends)))))
apart_behind (block ∷ second ∷ blocks) last next begins ends gap apart =
    (apart.0, (apart.1.0, apart_behind (second ∷ blocks) last next begins ends gap apart.1.1))

or_false : (b : Bool) → (b || false) ≡ b
or_false true = refl
or_false false = refl

pub or_assoc : (a b c : Bool) → (a || (b || c)) ≡ ((a || b) || c)
or_assoc true b c = refl
or_assoc false b c = refl

named_behind : (offset : ℕ) (blocks : List GapAckBlock) (next : GapAckBlock)
    → list_any (names offset) (blocks ++ next ∷ []) ≡ (list_any (names offset) blocks || names offset next)
named_behind offset blocks next = rw (list_any-append (names offset) blocks (next ∷ []), or_false (names offset next)) refl

pub behind_a_gap : (blocks : List GapAckBlock) (last next : GapAckBlock) → BeginsBefore last next → last.end + 1 < next.start
    → AddsGapBlock (blocks ++ last ∷ []) next ((blocks ++ last ∷ []) ++ next ∷ [])
behind_a_gap blocks last next before gap = record {
  apart = apart_behind blocks last next (omega (arith, before.first_begins, before.ordered)) before.second_ends gap;
  same = λ offset. named_behind offset (blocks ++ last ∷ []) next;
}

-- ---- none

apart_longer : (blocks : List GapAckBlock) (last longer : GapAckBlock) → longer.start ≡ last.start → last.end ≤ longer.end
    → AreApart (blocks ++ last ∷ []) → AreApart (blocks ++ longer ∷ [])
apart_longer [] last longer start end apart = grind arith
apart_longer (block ∷ []) last longer start end apart = grind arith
apart_longer (block ∷ second ∷ blocks) last longer start end apart = (apart.0, (apart.1.0, apart_longer (second ∷ blocks) last longer start end apart.1.1))

named_joined : (offset a b c d : ℕ) → a ≤ b → c ≤ d → a ≤ c → c ≤ b + 1
    → (nat_le a offset && nat_le offset (max b d)) ≡ ((nat_le a offset && nat_le offset b) || (nat_le c offset && nat_le offset d))
named_joined offset a b c d one two ordered touches = grind arith

pub without_gap : (blocks : List GapAckBlock) (last next : GapAckBlock) → BeginsBefore last next → next.start ≤ last.end + 1
    → AddsGapBlock (blocks ++ last ∷ []) next (blocks ++ record { start = last.start; end = max last.end next.end } ∷ [])
without_gap blocks last next before touches = record {
  apart = apart_longer blocks last (record { start = last.start; end = max last.end next.end }) refl (omega arith);
  same = λ offset.
      rw (
        named_behind offset blocks (record { start = last.start; end = max last.end next.end }),
        named_behind offset blocks last,
        named_joined offset last.start last.end next.start next.end before.first_ends before.second_ends before.ordered touches,
      )
      (or_assoc (list_any (names offset) blocks) (names offset last) (names offset next));
}

-- ---- what is read

kept_one : (block : GapAckBlock) (blocks : List GapAckBlock) (b : Bool) → is_range block ≡ b → AllByRecursion IsRange blocks → AllByRecursion IsRange (cond b (block ∷ blocks) blocks)
kept_one block blocks true is all = (grind (arith, is), all)
kept_one block blocks false is all = all

kept : (blocks : List GapAckBlock) → AllByRecursion IsRange (filter is_range blocks)
kept [] = tt
kept (block ∷ blocks) = kept_one block (filter is_range blocks) (is_range block) refl (kept blocks)

pub ranges_kept : (blocks : List GapAckBlock) → All IsRange (filter is_range blocks)
ranges_kept blocks = All-from_recursion IsRange (filter is_range blocks) (kept blocks)

-- ---- the first one and the rest

pub range_at : (ascending : List GapAckBlock) (first : GapAckBlock) (rest : List GapAckBlock) → ascending ≡ first ∷ rest → All IsRange ascending → IsRange first
range_at ascending first rest is all = All-head IsRange first rest (subst (All IsRange) is all)

pub range_later : (ascending : List GapAckBlock) (first : GapAckBlock) (rest : List GapAckBlock) → ascending ≡ first ∷ rest → All IsRange ascending → All IsRange rest
range_later ascending first rest is all = All-tail IsRange first rest (subst (All IsRange) is all)

pub first_no_later : (ascending : List GapAckBlock) (first : GapAckBlock) (rest : List GapAckBlock) → ascending ≡ first ∷ rest
    → IsNonDecreasingBy (λ block. block.start) ascending → (i : ℕ) (d : GapAckBlock) → i < length rest → first.start ≤ (get_or rest i d).start
first_no_later ascending first rest is ordered i d below =
    subst (λ blocks. IsNonDecreasingBy (λ block. block.start) blocks) is ordered 0 (suc i) d (omega arith) (omega (arith, below))

pub rest_ascends : (ascending : List GapAckBlock) (first : GapAckBlock) (rest : List GapAckBlock) → ascending ≡ first ∷ rest
    → IsNonDecreasingBy (λ block. block.start) ascending → (i j : ℕ) (d e : GapAckBlock) → i ≤ j → j < length rest → (get_or rest i d).start ≤ (get_or rest j e).start
rest_ascends ascending first rest is ordered i j d e before below =
    rw (get_or_default rest i d e (omega (arith, before, below)))
    (subst (λ blocks. IsNonDecreasingBy (λ block. block.start) blocks) is ordered (suc i) (suc j) e (omega (arith, before)) (omega (arith, below)))
