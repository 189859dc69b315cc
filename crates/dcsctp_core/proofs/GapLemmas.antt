-- Lemmas about a gap in an array, which moves to the front or to the back.
use Rattle.std.proofs.Common.{◌≡◌, ℕ, ◌+◌, ◌-◌, ◌<◌, ◌≤◌, List, [], ◌∷◌, ◌++◌, length, get_or, take, drop, set, sym, ap, ap₂, subst, ◌∙◌, arith, append_assoc, get_or-take, length-take-le, length-set, get_or-set_same}
use Rattle.std.proofs.lemmas.List.{take_more, drop_more, drop-set-lt, take-take, take-append-drop}
use Rattle.std.proofs.Math.Seq.{take-set-lt}
use Rattle.std.proofs.lemmas.List.{take-set-le}
use Rattle.dcsctp_core.specs.declared.deadlines.Entry.{Entry}
use Rattle.dcsctp_core.specs.Listing.{besides}

-- the entries from a place on
pub from_place : (xs : List Entry) (i n : ℕ) (d : Entry) → i < n → n ≤ length xs → drop i (take n xs) ≡ get_or xs i d ∷ drop (i + 1) (take n xs)
from_place xs i n d below within =
    drop_more (take n xs) i d (omega (arith, length-take-le n xs within)) ∙ ap (λ x. x ∷ drop (i + 1) (take n xs)) (get_or-take n xs i d below)

-- the entry before the gap goes one place to the back
gap_to_front_at : (xs : List Entry) (i n : ℕ) (d : Entry) → i + 1 < n → n ≤ length xs → besides i n (set xs (i + 1) (get_or xs i d)) ≡ besides (i + 1) n xs
gap_to_front_at xs i n d below within =
    let x = get_or xs i d in
    let rest = drop (i + 1 + 1) (take n xs) in
    let ys = set xs (i + 1) x in
    let long : n ≤ length ys = omega (arith, length-set xs (i + 1) x) in
    let front : take i ys ≡ take i xs = take-set-le i xs (i + 1) x (omega arith) in
    let back : drop (i + 1 + 1) (take n ys) ≡ rest = ap (drop (i + 1 + 1)) (take-set-lt n xs (i + 1) x below) ∙ drop-set-lt (i + 1 + 1) (take n xs) (i + 1) x (omega arith) in
    ap₂ ◌++◌ front (from_place ys (i + 1) n d below long ∙ ap₂ ◌∷◌ (get_or-set_same xs (i + 1) x d (omega arith)) back)
    ∙ sym (append_assoc (take i xs) (x ∷ []) rest)
    ∙ ap (λ l. l ++ rest) (sym (take_more xs i d (omega arith)))

pub gap_to_front : (xs : List Entry) (i n : ℕ) (d : Entry) → 0 < i → i < n → n ≤ length xs → besides (i - 1) n (set xs i (get_or xs (i - 1) d)) ≡ besides i n xs
gap_to_front xs i n d some below within =
    let meets : (i - 1) + 1 ≡ i = omega arith in
    subst (λ j. besides (i - 1) n (set xs j (get_or xs (i - 1) d)) ≡ besides j n xs) meets (gap_to_front_at xs (i - 1) n d (omega arith) within)

-- the gap is filled
pub gap_filled : (xs : List Entry) (i n : ℕ) (x : Entry) → i < n → n ≤ length xs → take n (set xs i x) ≡ take i xs ++ x ∷ drop (i + 1) (take n xs)
gap_filled xs i n x below within =
    let ys = set xs i x in
    let long : n ≤ length ys = omega (arith, length-set xs i x) in
    let back : drop (i + 1) (take n ys) ≡ drop (i + 1) (take n xs) = ap (drop (i + 1)) (take-set-lt n xs i x below) ∙ drop-set-lt (i + 1) (take n xs) i x (omega arith) in
    sym (parts ys i n (omega arith))
    ∙ ap₂ ◌++◌ (take-set-le i xs i x (omega arith)) (from_place ys i n x below long ∙ ap₂ ◌∷◌ (get_or-set_same xs i x x (omega arith)) back)
  where
    parts : (zs : List Entry) (j m : ℕ) → j ≤ m → take j zs ++ drop j (take m zs) ≡ take m zs
    parts zs j m h = ap (λ l. l ++ drop j (take m zs)) (sym (take-take j m zs h)) ∙ take-append-drop j (take m zs)
