-- Lemmas about the place of an entry in a list of deadlines.
use Rattle.std.proofs.Common.{◌≡◌, ℕ, suc, zero, ◌+◌, ◌-◌, ◌<◌, ◌≤◌, true, false, List, [], ◌∷◌, ◌++◌, length, get_or, take, drop, set, refl, sym, ap, subst, ◌∙◌, arith, get_or-take, get_or-set_same, length-set, length-take-le}
use Rattle.std.specs.Prelude.{if◌then◌else◌, nat_lt}
use Rattle.std.proofs.lemmas.Bool.Decides.{nat_tests}
use Rattle.std.proofs.lemmas.List.{take_more, take-set-le, take-take}
use Rattle.dcsctp_core.specs.declared.deadlines.Entry.{Entry}
use Rattle.dcsctp_core.specs.Listing.{is_before, besides, entries_with_one, rank, AllBelow, IsAbsent, IsEarliestEntry, IsListing, EndsBefore, BeginsAfter}
use Rattle.dcsctp_core.proofs.GapLemmas.{from_place, gap_filled}
use Rattle.dcsctp_core.proofs.ListingLemmas.{before-total, same-sym}

drop_all : (n : ℕ) (xs : List Entry) → length xs ≤ n → drop n xs ≡ []
drop_all zero [] h = refl
drop_all (suc n) [] h = refl
drop_all zero (x ∷ xs) h = absurd (omega arith)
drop_all (suc n) (x ∷ xs) h = drop_all n xs (omega arith)

append_nil : (xs : List Entry) → xs ++ [] ≡ xs
append_nil [] = refl
append_nil (x ∷ xs) = ap (λ rest. x ∷ rest) (append_nil xs)

-- nothing comes after the gap
pub last_gap : (xs : List Entry) (n p : ℕ) → n ≤ length xs → n ≡ p + 1 → besides p n xs ≡ take p xs
last_gap xs n p within is =
    ap (λ l. take p xs ++ l) (drop_all (p + 1) (take n xs) (omega (arith, length-take-le n xs within, is))) ∙ append_nil (take p xs)

-- ---- what is around the place of a new entry

not-before : (a b c : Entry) → is_before a b ≡ true → is_before c b ≡ false → is_before c a ≡ false
not-before a b c ab cb = grind (arith, nat_tests)

ends-append : (new : Entry) (xs : List Entry) (x : Entry) → is_before new x ≡ false → EndsBefore new (xs ++ x ∷ [])
ends-append new [] x not = not
ends-append new (y ∷ []) x not = not
ends-append new (y ∷ z ∷ xs) x not = ends-append new (z ∷ xs) x not

pub ends_at : (new : Entry) (xs : List Entry) (i p : ℕ) (d : Entry) → p ≡ i + 1 → i < length xs → is_before new (get_or xs i d) ≡ false → EndsBefore new (take p xs)
ends_at new xs i p d is within not =
    subst (EndsBefore new) (sym (ap (λ j. take j xs) is ∙ take_more xs i d within)) (ends-append new (take i xs) (get_or xs i d) not)

get_or_known : (xs : List Entry) (i : ℕ) (d e : Entry) → i < length xs → get_or xs i d ≡ get_or xs i e
get_or_known [] i d e within = absurd (omega arith)
get_or_known (x ∷ xs) zero d e within = refl
get_or_known (x ∷ xs) (suc i) d e within = get_or_known xs i d e (omega arith)

pub begins_at : (new : Entry) (xs : List Entry) (i n : ℕ) (d : Entry) → i < n → n ≤ length xs → is_before (get_or xs i d) new ≡ false → BeginsAfter new (drop i (take n xs))
begins_at new xs i n d below within not = subst (BeginsAfter new) (sym (from_place xs i n d below within)) not

pub begins_nowhere : (new : Entry) (xs : List Entry) (i n : ℕ) → n ≤ i → n ≤ length xs → BeginsAfter new (drop i (take n xs))
begins_nowhere new xs i n all within = subst (BeginsAfter new) (sym (drop_all i (take n xs) (omega (arith, all, length-take-le n xs within)))) tt

-- ---- a new entry is placed between these

pub entries_with_one-listing : (x : Entry) (xs : List Entry) → IsEarliestEntry x xs → IsListing xs → entries_with_one x xs ≡ x ∷ xs
entries_with_one-listing x [] is listing = refl
entries_with_one-listing x (y ∷ ys) is listing =
    ap (λ b. if b then x ∷ entries_with_one y ys else y ∷ entries_with_one x ys) is.0 ∙ ap (λ l. x ∷ l) (entries_with_one-listing y ys listing.0 listing.1)

entries_with_one-first : (new : Entry) (xs : List Entry) → IsListing xs → IsAbsent new.kind xs → BeginsAfter new xs → entries_with_one new xs ≡ new ∷ xs
entries_with_one-first new [] listing absent begins = refl
entries_with_one-first new (y ∷ ys) listing absent begins =
    ap (λ b. if b then new ∷ entries_with_one y ys else y ∷ entries_with_one new ys) (before-total y new (same-sym y.kind new.kind ∙ absent.0) begins)
    ∙ ap (λ l. new ∷ l) (entries_with_one-listing y ys listing.0 listing.1)

first-not : (new x : Entry) (xs ys : List Entry) → IsListing (x ∷ xs ++ ys) → EndsBefore new (x ∷ xs) → is_before new x ≡ false
first-not new x [] ys listing ends = ends
first-not new x (y ∷ xs) ys listing ends = not-before x y new listing.0.0 (first-not new y xs ys listing.1 ends)

ends-rest : (new x : Entry) (xs : List Entry) → EndsBefore new (x ∷ xs) → EndsBefore new xs
ends-rest new x [] ends = tt
ends-rest new x (y ∷ xs) ends = ends

entries_with_one-between : (new : Entry) (xs ys : List Entry) → IsListing (xs ++ ys) → IsAbsent new.kind (xs ++ ys) → EndsBefore new xs → BeginsAfter new ys
    → entries_with_one new (xs ++ ys) ≡ xs ++ new ∷ ys
entries_with_one-between new [] ys listing absent ends begins = entries_with_one-first new ys listing absent begins
entries_with_one-between new (x ∷ xs) ys listing absent ends begins =
    ap (λ b. if b then new ∷ entries_with_one x (xs ++ ys) else x ∷ entries_with_one new (xs ++ ys)) (first-not new x xs ys listing ends)
    ∙ ap (λ l. x ∷ l) (entries_with_one-between new xs ys listing.1 absent.1 (ends-rest new x xs ends) begins)

pub put_there : (new : Entry) (xs : List Entry) (p n : ℕ) → p < n → n ≤ length xs → IsListing (besides p n xs) → IsAbsent new.kind (besides p n xs)
    → EndsBefore new (take p xs) → BeginsAfter new (drop (p + 1) (take n xs)) → take n (set xs p new) ≡ entries_with_one new (besides p n xs)
put_there new xs p n below within listing absent ends begins =
    gap_filled xs p n new below within ∙ sym (entries_with_one-between new (take p xs) (drop (p + 1) (take n xs)) listing absent ends begins)

-- ---- room for an entry of a later kind

below-at : (n : ℕ) (xs : List Entry) (i : ℕ) (d : Entry) → i < length xs → AllBelow n xs → rank (get_or xs i d).kind < n
below-at n [] i d within below = absurd (omega arith)
below-at n (x ∷ xs) zero d within below = below.0
below-at n (x ∷ xs) (suc i) d within below = below-at n xs i d (omega arith) below.1

not-later : (new x : Entry) → nat_lt new.moment x.moment ≡ false → rank x.kind < rank new.kind → is_before new x ≡ false
not-later new x by below = grind (arith, nat_tests)

later : (new x : Entry) → nat_lt new.moment x.moment ≡ true → is_before x new ≡ false
later new x expires = grind (arith, nat_tests)

-- the entry in front of the room doesn't expire later
pub ends_by : (new : Entry) (xs ys : List Entry) (n i p : ℕ) (d : Entry) → p ≡ i + 1 → p ≤ n → n ≤ length xs → n ≤ length ys → take p xs ≡ take p ys → AllBelow (rank new.kind) (take n ys)
    → nat_lt new.moment (get_or xs i d).moment ≡ false → EndsBefore new (take p xs)
ends_by new xs ys n i p d is within long longer same below by =
    let x = get_or xs i d in
    let front : get_or (take n ys) i d ≡ x =
    get_or-take n ys i d (omega (arith, is, within)) ∙ sym (get_or-take p ys i d (omega (arith, is))) ∙ ap (λ l. get_or l i d) (sym same) ∙ get_or-take p xs i d (omega (arith, is)) in
    let lower : rank x.kind < rank new.kind =
    subst (λ (y : Entry). rank y.kind < rank new.kind) front (below-at (rank new.kind) (take n ys) i d (omega (arith, is, within, length-take-le n ys longer)) below) in
    ends_at new xs i p d is (omega (arith, is, within, long)) (not-later new x by lower)

-- it goes one place back
pub begins_later : (new : Entry) (xs : List Entry) (k i j n : ℕ) (d e : Entry) → k ≡ i → i < n → j < length xs → n ≤ length xs → nat_lt new.moment (get_or xs j e).moment ≡ true
    → BeginsAfter new (drop k (take n (set xs i (get_or xs j d))))
begins_later new xs k i j n d e at below there within expires =
    let x = get_or xs j d in
    let expires_x : nat_lt new.moment x.moment ≡ true = ap (λ (y : Entry). nat_lt new.moment y.moment) (get_or_known xs j d e there) ∙ expires in
    subst (λ l. BeginsAfter new (drop l (take n (set xs i x)))) (sym at)
    (begins_at new (set xs i x) i n d below (omega (arith, length-set xs i x, within))
    (ap (λ y. is_before y new) (get_or-set_same xs i x d (omega (arith, within, below))) ∙ later new x expires_x))

pub front_same : (xs ys : List Entry) (p : ℕ) (x : Entry) → 0 < p → take p xs ≡ take p ys → take (p - 1) (set xs p x) ≡ take (p - 1) ys
front_same xs ys p x some same =
    take-set-le (p - 1) xs p x (omega arith) ∙ sym (take-take (p - 1) p xs (omega arith)) ∙ ap (take (p - 1)) same ∙ take-take (p - 1) p ys (omega arith)
