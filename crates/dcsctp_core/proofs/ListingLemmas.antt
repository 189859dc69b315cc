-- Lemmas about the order of a list of deadlines, and about one more entry in its place.
use Rattle.std.proofs.Common.{◌≡◌, Bool, true, false, None, Some, List, [], ◌∷◌, refl, ap, ◌∙◌, arith}
use Rattle.std.specs.Prelude.{if◌then◌else◌}
use Rattle.std.proofs.lemmas.Bool.Decides.{nat_tests}
use Rattle.dcsctp_core.specs.declared.deadlines.DeadlineKind.{DeadlineKind}
use Rattle.dcsctp_core.specs.declared.deadlines.Entry.{Entry}
use Rattle.dcsctp_core.specs.Listing.{is_before, is_same_kind, listed_deadline, entries_with_one, IsAbsent, IsEarliestEntry, IsListing}

-- ---- the order

pub before-trans : (a b c : Entry) → is_before a b ≡ true → is_before b c ≡ true → is_before a c ≡ true
before-trans a b c ab bc = grind (arith, nat_tests)

pub before-total : (a b : Entry) → is_same_kind a.kind b.kind ≡ false → is_before a b ≡ false → is_before b a ≡ true
before-total a b other not = grind (arith, nat_tests)

pub same-sym : (j k : DeadlineKind) → is_same_kind j k ≡ is_same_kind k j
same-sym j k = grind (arith, nat_tests)

pub first-absent : (first : Entry) (xs : List Entry) → IsEarliestEntry first xs → IsAbsent first.kind xs
first-absent first [] is = tt
first-absent first (x ∷ xs) is = (is.1, first-absent first xs is.2)

first-placed : (first x : Entry) (xs : List Entry) → is_before first x ≡ true → is_same_kind first.kind x.kind ≡ false → IsEarliestEntry first xs → IsEarliestEntry first (entries_with_one x xs)
first-placed first x [] before other is = (before, other, tt)
first-placed first x (y ∷ ys) before other is = go (is_before x y) (first-placed first y ys is.0 is.1 is.2) (first-placed first x ys before other is.2)
  where
    go : (b : Bool) → IsEarliestEntry first (entries_with_one y ys) → IsEarliestEntry first (entries_with_one x ys) → IsEarliestEntry first (if b then x ∷ entries_with_one y ys else y ∷ entries_with_one x ys)
    go true carried kept = (before, other, carried)
    go false carried kept = (is.0, is.1, kept)

first-further : (x y : Entry) (xs : List Entry) → is_before x y ≡ true → IsAbsent x.kind xs → IsEarliestEntry y xs → IsEarliestEntry x xs
first-further x y [] before absent is = tt
first-further x y (z ∷ zs) before absent is = (before-trans x y z before is.0, absent.0, first-further x y zs before absent.1 is.2)

pub listing-placed : (x : Entry) (xs : List Entry) → IsAbsent x.kind xs → IsListing xs → IsListing (entries_with_one x xs)
listing-placed x [] absent is = (tt, tt)
listing-placed x (y ∷ ys) absent is = go (is_before x y) refl (listing-placed y ys (first-absent y ys is.0) is.1) (listing-placed x ys absent.1 is.1)
  where
    go : (b : Bool) → is_before x y ≡ b → IsListing (entries_with_one y ys) → IsListing (entries_with_one x ys) → IsListing (if b then x ∷ entries_with_one y ys else y ∷ entries_with_one x ys)
    go true before carried kept = (first-placed x y ys before absent.0 (first-further x y ys before absent.1 is.0), carried)
    go false behind carried kept = (first-placed y x ys (before-total x y absent.0 behind) (same-sym y.kind x.kind ∙ absent.0) is.0, kept)

pub same-absent : (j k : DeadlineKind) (xs : List Entry) → is_same_kind j k ≡ true → IsAbsent k xs → IsAbsent j xs
same-absent j k [] same absent = tt
same-absent j k (x ∷ xs) same absent =
    let head : is_same_kind k x.kind ≡ false = absent.0 in
    (grind (arith, nat_tests), same-absent j k xs same absent.1)

-- ---- a deadline is set

-- ---- what the list says after `set`

pub listed-absent : (kind : DeadlineKind) (xs : List Entry) → IsAbsent kind xs → listed_deadline kind xs ≡ None
listed-absent kind [] absent = refl
listed-absent kind (x ∷ xs) absent = ap (λ b. if b then Some x.moment else listed_deadline kind xs) absent.0 ∙ listed-absent kind xs absent.1

-- two entries of different kinds may change places
listed-swap : (kind : DeadlineKind) (x y : Entry) (xs : List Entry) → is_same_kind x.kind y.kind ≡ false → listed_deadline kind (x ∷ y ∷ xs) ≡ listed_deadline kind (y ∷ x ∷ xs)
listed-swap kind x y xs differ = go (is_same_kind kind x.kind) (is_same_kind kind y.kind) refl refl
  where
    go : (b c : Bool) → is_same_kind kind x.kind ≡ b → is_same_kind kind y.kind ≡ c
        → (if b then Some x.moment else (if c then Some y.moment else listed_deadline kind xs)) ≡ (if c then Some y.moment else (if b then Some x.moment else listed_deadline kind xs))
    go true true b c = let both : is_same_kind x.kind y.kind ≡ true = grind (arith, nat_tests) in absurd (cc)
    go true false b c = refl
    go false true b c = refl
    go false false b c = refl

pub listed-placed : (kind : DeadlineKind) (x : Entry) (xs : List Entry) → IsAbsent x.kind xs → IsListing xs → listed_deadline kind (entries_with_one x xs) ≡ listed_deadline kind (x ∷ xs)
listed-placed kind x [] absent is = refl
listed-placed kind x (y ∷ ys) absent is =
    go (is_before x y) (listed-placed kind y ys (first-absent y ys is.0) is.1) (listed-placed kind x ys absent.1 is.1)
  where
    go : (b : Bool) → listed_deadline kind (entries_with_one y ys) ≡ listed_deadline kind (y ∷ ys) → listed_deadline kind (entries_with_one x ys) ≡ listed_deadline kind (x ∷ ys)
        → listed_deadline kind (if b then x ∷ entries_with_one y ys else y ∷ entries_with_one x ys) ≡ listed_deadline kind (x ∷ y ∷ ys)
    go true carried kept = ap (λ rest. if is_same_kind kind x.kind then Some x.moment else rest) carried
    go false carried kept = ap (λ rest. if is_same_kind kind y.kind then Some y.moment else rest) kept ∙ listed-swap kind y x ys (same-sym y.kind x.kind ∙ absent.0)
