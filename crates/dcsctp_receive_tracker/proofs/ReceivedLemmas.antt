-- Lemmas on ranges of numbers.
use Rattle.std.proofs.Common.{◌≡◌, ◌==◌, ℕ, zero, suc, ◌+◌, ◌<◌, ◌≤◌, nat_le, Bool, true, false, ◌&&◌, ◌||◌, List, [], ◌∷◌, ◌++◌, length, take, drop, Some, refl, sym, ◌∙◌, ap, subst, arith, not, eqb-true}
use Rattle.std.specs.Prelude.{slice_get}
use Rattle.std.proofs.lemmas.Bool.Decides.{nat_tests}
use Rattle.std.proofs.lemmas.List.{take-append-drop}
use Rattle.dcsctp_spec_lemmas.specs.spec.queues.Runs.{entry_before}
use Rattle.dcsctp_receive_ordered_map.proofs.EntryLemmas.{entry_within}
use Rattle.dcsctp_spec_lemmas.specs.types.declared.tracking.TsnRange.{TsnRange}
use Rattle.dcsctp_receive_tracker.specs.Received.{IsSpaced, AddsToRanges}
use Rattle.dcsctp_spec_lemmas.specs.spec.queues.Ranges.{IsBeyond, is_number_covered, ReceivesNumber, MovesForwardTo}

-- the last number of the last range, or this one where there is none
abbrev pub end_of : ℕ → List TsnRange → ℕ
end_of number [] = number
end_of number (range ∷ ranges) = end_of range.last ranges

-- ---- joined lists

-- the first ranges, and the others after them
pub IsBeyond-take : (i from : ℕ) (ranges : List TsnRange) → IsBeyond from ranges → IsBeyond from (take i ranges)
IsBeyond-take zero from ranges beyond = tt
IsBeyond-take (suc i) from [] beyond = tt
IsBeyond-take (suc i) from (range ∷ ranges) beyond = (beyond.0, beyond.1, IsBeyond-take i range.last ranges beyond.2)

pub IsBeyond-drop : (i from : ℕ) (ranges : List TsnRange) → IsBeyond from ranges → IsBeyond (end_of from (take i ranges)) (drop i ranges)
IsBeyond-drop zero from ranges beyond = beyond
IsBeyond-drop (suc i) from [] beyond = tt
IsBeyond-drop (suc i) from (range ∷ ranges) beyond = IsBeyond-drop i range.last ranges beyond.2

pub IsBeyond-append : (from : ℕ) (xs ys : List TsnRange) → IsBeyond from xs → IsBeyond (end_of from xs) ys → IsBeyond from (xs ++ ys)
IsBeyond-append from [] ys front back = back
IsBeyond-append from (range ∷ xs) ys front back = (front.0, front.1, IsBeyond-append range.last xs ys front.2 back)

or_regrouped : (a b c : Bool) → (a || (b || c)) ≡ ((a || b) || c)
or_regrouped true b c = refl
or_regrouped false b c = refl

pub is_number_covered-append : (number : ℕ) (xs ys : List TsnRange) → is_number_covered number (xs ++ ys) ≡ (is_number_covered number xs || is_number_covered number ys)
is_number_covered-append number [] ys = refl
is_number_covered-append number (range ∷ xs) ys =
    ap (λ rest. (nat_le range.first number && nat_le number range.last) || rest) (is_number_covered-append number xs ys)
    ∙ or_regrouped (nat_le range.first number && nat_le number range.last) (is_number_covered number xs) (is_number_covered number ys)

-- ---- one more number

-- the tail of the ranges gets the number, and the others stay
pub Adds-at : (from number i : ℕ) (ranges tail : List TsnRange) → IsBeyond from ranges → IsBeyond (end_of from (take i ranges)) tail → ((other : ℕ) → is_number_covered other tail ≡ (is_number_covered other (drop i ranges) || (other == number))) → AddsToRanges from number ranges (take i ranges ++ tail)
Adds-at from number i ranges tail beyond back members =
    record {
      beyond = IsBeyond-append from (take i ranges) tail (IsBeyond-take i from ranges beyond) back;
      members = λ other.
          is_number_covered-append other (take i ranges) tail
          ∙ ap (λ rest. is_number_covered other (take i ranges) || rest) (members other)
          ∙ or_regrouped (is_number_covered other (take i ranges)) (is_number_covered other (drop i ranges)) (other == number)
          ∙ ap (λ all. all || (other == number)) (sym (is_number_covered-append other (take i ranges) (drop i ranges)))
          ∙ ap (λ all. is_number_covered other all || (other == number)) (take-append-drop i ranges);
    }

or_swapped : (a b c : Bool) → ((a || b) || c) ≡ ((a || c) || b)
or_swapped true b c = refl
or_swapped false true true = refl
or_swapped false true false = refl
or_swapped false false true = refl
or_swapped false false false = refl

-- one range more
single_test : (number other : ℕ) → (nat_le number other && nat_le other number) ≡ (other == number)
single_test number other = grind (arith, nat_tests)

or_flipped : (a b : Bool) → (a || b) ≡ (b || a)
or_flipped true true = refl
or_flipped true false = refl
or_flipped false true = refl
or_flipped false false = refl

pub is_number_covered-single : (number other : ℕ) (range : TsnRange) (ranges : List TsnRange) → range.first ≡ number → range.last ≡ number → is_number_covered other (range ∷ ranges) ≡ (is_number_covered other ranges || (other == number))
is_number_covered-single number other range ranges first last =
    rw (first, last) (ap (λ test. test || is_number_covered other ranges) (single_test number other) ∙ or_flipped (other == number) (is_number_covered other ranges))

-- a range that begins one earlier
earlier_test : (first last number other : ℕ) → number + 1 ≡ first → first ≤ last → (nat_le number other && nat_le other last) ≡ ((nat_le first other && nat_le other last) || (other == number))
earlier_test first last number other touching filled = grind (arith, nat_tests)

-- a range that ends one later
later_test : (first last number other : ℕ) → last + 1 ≡ number → first ≤ last → (nat_le first other && nat_le other number) ≡ ((nat_le first other && nat_le other last) || (other == number))
later_test first last number other touching filled = grind (arith, nat_tests)

-- two ranges with one number between them
joined_test : (first last first' last' number other : ℕ) → last + 1 ≡ number → number + 1 ≡ first' → first ≤ last → first' ≤ last' → (nat_le first other && nat_le other last') ≡ (((nat_le first other && nat_le other last) || (nat_le first' other && nat_le other last')) || (other == number))
joined_test first last first' last' number other before after filled filled' = grind (arith, nat_tests)

-- ---- what isn't in the ranges

pub end_of-above : (from : ℕ) (ranges : List TsnRange) → IsBeyond from ranges → from ≤ end_of from ranges
end_of-above from [] beyond = omega arith
end_of-above from (range ∷ ranges) beyond =
    let last : range.last ≤ end_of range.last ranges = end_of-above range.last ranges beyond.2 in
    let first : from + 1 < range.first = beyond.0 in
    let filled : range.first ≤ range.last = beyond.1 in
    omega arith

above_test : (first last number : ℕ) → last < number → (nat_le first number && nat_le number last) ≡ false
above_test first last number above = grind (arith, nat_tests)

below_test : (first last number : ℕ) → number < first → (nat_le first number && nat_le number last) ≡ false
below_test first last number below = grind (arith, nat_tests)

pub inside_test : (first last number : ℕ) → first ≤ number → number ≤ last → (nat_le first number && nat_le number last) ≡ true
inside_test first last number above below = grind (arith, nat_tests)

-- a number past all ranges
pub is_number_covered-past : (number from : ℕ) (ranges : List TsnRange) → IsBeyond from ranges → end_of from ranges < number → is_number_covered number ranges ≡ false
is_number_covered-past number from [] beyond past = refl
is_number_covered-past number from (range ∷ ranges) beyond past =
    let last : range.last ≤ end_of range.last ranges = end_of-above range.last ranges beyond.2 in
    rw (above_test range.first range.last number (omega arith)) (is_number_covered-past number range.last ranges beyond.2 past)

-- a number before all ranges
pub is_number_covered-before : (number from : ℕ) (ranges : List TsnRange) → IsBeyond from ranges → number ≤ from + 1 → is_number_covered number ranges ≡ false
is_number_covered-before number from [] beyond before = refl
is_number_covered-before number from (range ∷ ranges) beyond before =
    let gap : from + 1 < range.first = beyond.0 in
    let filled : range.first ≤ range.last = beyond.1 in
    rw (below_test range.first range.last number (omega arith)) (is_number_covered-before number range.last ranges beyond.2 (omega arith))

-- a number that is in no range up to a place, nor in one after it
pub is_number_covered-neither : (number from i : ℕ) (ranges : List TsnRange) → IsBeyond from ranges → end_of from (take i ranges) < number → is_number_covered number (drop i ranges) ≡ false → is_number_covered number ranges ≡ false
is_number_covered-neither number from i ranges beyond before behind =
    ap (λ all. is_number_covered number all) (sym (take-append-drop i ranges))
    ∙ is_number_covered-append number (take i ranges) (drop i ranges)
    ∙ ap (λ front. front || is_number_covered number (drop i ranges)) (is_number_covered-past number from (take i ranges) (IsBeyond-take i from ranges beyond) before)
    ∙ behind

pub or_true : (a : Bool) → (a || true) ≡ true
or_true true = refl
or_true false = refl

-- a number that is in the range at a place
pub is_number_covered-at : (number i : ℕ) (ranges : List TsnRange) (range : TsnRange) (rest : List TsnRange) → drop i ranges ≡ range ∷ rest → range.first ≤ number → number ≤ range.last → is_number_covered number ranges ≡ true
is_number_covered-at number i ranges range rest at above below =
    ap (λ all. is_number_covered number all) (sym (take-append-drop i ranges))
    ∙ is_number_covered-append number (take i ranges) (drop i ranges)
    ∙ ap (λ behind. is_number_covered number (take i ranges) || is_number_covered number behind) at
    ∙ ap (λ test. is_number_covered number (take i ranges) || (test || is_number_covered number rest)) (inside_test range.first range.last number above below)
    ∙ or_true (is_number_covered number (take i ranges))

-- ---- the ways in which a number is added

or_false : (a : Bool) → (a || false) ≡ a
or_false true = refl
or_false false = refl

or_covered : (a : Bool) (number other : ℕ) (f : ℕ → Bool) → f number ≡ true → f other ≡ (f other || (other == number))
or_covered a number other f covered = go (other == number) refl
  where
    go : (b : Bool) → (other == number) ≡ b → f other ≡ (f other || b)
    go true same = sym (or_true (f other) ∙ sym (ap f (eqb-true other number same) ∙ covered))
    go false differs = sym (or_false (f other))

-- it is there already
pub Adds-none : (from number : ℕ) (ranges : List TsnRange) → IsBeyond from ranges → is_number_covered number ranges ≡ true → AddsToRanges from number ranges ranges
Adds-none from number ranges beyond there =
    record { beyond = beyond; members = λ other. or_covered true number other (λ n. is_number_covered n ranges) there }

-- alone
pub Adds-alone : (from number i : ℕ) (ranges : List TsnRange) → IsBeyond from ranges → end_of from (take i ranges) + 1 < number → IsBeyond number (drop i ranges) → AddsToRanges from number ranges (take i ranges ++ record { first = number; last = number } ∷ drop i ranges)
Adds-alone from number i ranges beyond past apart =
    Adds-at from number i ranges (record { first = number; last = number } ∷ drop i ranges) beyond
    (past, omega arith, apart)
    (λ other. is_number_covered-single number other (record { first = number; last = number }) (drop i ranges) refl refl)

-- before the first of a range
pub Adds-earlier : (from number i : ℕ) (ranges : List TsnRange) (range : TsnRange) (rest : List TsnRange) → IsBeyond from ranges → end_of from (take i ranges) + 1 < number → drop i ranges ≡ range ∷ rest → number + 1 ≡ range.first → AddsToRanges from number ranges (take i ranges ++ record { first = number; last = range.last } ∷ rest)
Adds-earlier from number i ranges range rest beyond past at touching =
    let back : IsBeyond (end_of from (take i ranges)) (range ∷ rest) = subst (λ tail. IsBeyond (end_of from (take i ranges)) tail) at (IsBeyond-drop i from ranges beyond) in
    let filled : range.first ≤ range.last = back.1 in
    Adds-at from number i ranges (record { first = number; last = range.last } ∷ rest) beyond
    (past, omega arith, back.2)
    (λ other.
    ap (λ test. test || is_number_covered other rest) (earlier_test range.first range.last number other touching filled)
    ∙ or_swapped (nat_le range.first other && nat_le other range.last) (other == number) (is_number_covered other rest)
    ∙ ap (λ tail. is_number_covered other tail || (other == number)) (sym at))

-- right after the last number of a range, and not touching the next range
pub Adds-later : (from number i : ℕ) (ranges : List TsnRange) (range : TsnRange) (rest : List TsnRange) → IsBeyond from ranges → drop i ranges ≡ range ∷ rest → range.last + 1 ≡ number → IsBeyond number rest → AddsToRanges from number ranges (take i ranges ++ record { first = range.first; last = number } ∷ rest)
Adds-later from number i ranges range rest beyond at touching apart =
    let back : IsBeyond (end_of from (take i ranges)) (range ∷ rest) = subst (λ tail. IsBeyond (end_of from (take i ranges)) tail) at (IsBeyond-drop i from ranges beyond) in
    let filled : range.first ≤ range.last = back.1 in
    Adds-at from number i ranges (record { first = range.first; last = number } ∷ rest) beyond
    (back.0, omega arith, apart)
    (λ other.
    ap (λ test. test || is_number_covered other rest) (later_test range.first range.last number other touching filled)
    ∙ or_swapped (nat_le range.first other && nat_le other range.last) (other == number) (is_number_covered other rest)
    ∙ ap (λ tail. is_number_covered other tail || (other == number)) (sym at))

-- between two ranges that touch it both
pub Adds-between : (from number i : ℕ) (ranges : List TsnRange) (range next : TsnRange) (rest : List TsnRange) → IsBeyond from ranges → drop i ranges ≡ range ∷ (next ∷ rest) → range.last + 1 ≡ number → number + 1 ≡ next.first → AddsToRanges from number ranges (take i ranges ++ record { first = range.first; last = next.last } ∷ rest)
Adds-between from number i ranges range next rest beyond at before after =
    let back : IsBeyond (end_of from (take i ranges)) (range ∷ (next ∷ rest)) = subst (λ tail. IsBeyond (end_of from (take i ranges)) tail) at (IsBeyond-drop i from ranges beyond) in
    let filled : range.first ≤ range.last = back.1 in
    let filled' : next.first ≤ next.last = back.2.1 in
    Adds-at from number i ranges (record { first = range.first; last = next.last } ∷ rest) beyond
    (back.0, omega arith, back.2.2)
    (λ other.
    ap (λ test. test || is_number_covered other rest) (joined_test range.first range.last next.first next.last number other before after filled filled')
    ∙ or_swapped ((nat_le range.first other && nat_le other range.last) || (nat_le next.first other && nat_le other next.last)) (other == number) (is_number_covered other rest)
    ∙ ap (λ test. test || (other == number)) (sym (or_regrouped (nat_le range.first other && nat_le other range.last) (nat_le next.first other && nat_le other next.last) (is_number_covered other rest)))
    ∙ ap (λ tail. is_number_covered other tail || (other == number)) (sym at))

-- ---- places

-- the item at a place, and those after it
pub drop-at : {X : Type 0} (i : ℕ) (xs : List X) (x : X) → slice_get xs i ≡ Some x → drop i xs ≡ x ∷ drop (suc i) xs
drop-at i [] x is = absurd (cc)
drop-at zero (y ∷ xs) x is =
    let same : y ≡ x = cc in
    ap (λ first. first ∷ xs) same
drop-at (suc i) (y ∷ xs) x is = drop-at i xs x is

-- the ranges after one are beyond it
pub IsBeyond-rest : (from i : ℕ) (ranges : List TsnRange) (range : TsnRange) (rest : List TsnRange) → IsBeyond from ranges → drop i ranges ≡ range ∷ rest → (end_of from (take i ranges) + 1 < range.first) × (range.first ≤ range.last) × IsBeyond range.last rest
IsBeyond-rest from i ranges range rest beyond at = subst (λ tail. IsBeyond (end_of from (take i ranges)) tail) at (IsBeyond-drop i from ranges beyond)

-- ranges beyond a number that begin later are beyond that, too
pub IsBeyond-later : (from number : ℕ) (ranges : List TsnRange) → IsBeyond from ranges → ((range : TsnRange) → slice_get ranges 0 ≡ Some range → number + 1 < range.first) → IsBeyond number ranges
IsBeyond-later from number [] beyond later = tt
IsBeyond-later from number (range ∷ ranges) beyond later = (later range refl, beyond.1, beyond.2)

-- a number before the first of the ranges
pub is_number_covered-below : (number from : ℕ) (ranges : List TsnRange) → IsBeyond from ranges → ((range : TsnRange) → slice_get ranges 0 ≡ Some range → number < range.first) → is_number_covered number ranges ≡ false
is_number_covered-below number from [] beyond below = refl
is_number_covered-below number from (range ∷ ranges) beyond below =
    let first : number < range.first = below range refl in
    let filled : range.first ≤ range.last = beyond.1 in
    rw (below_test range.first range.last number first) (is_number_covered-before number range.last ranges beyond.2 (omega arith))

-- where the ranges up to a place end
end_of-at : (from i : ℕ) (ranges : List TsnRange) (range : TsnRange) → slice_get ranges i ≡ Some range → end_of from (take (suc i) ranges) ≡ range.last
end_of-at from i [] range is = absurd (cc)
end_of-at from zero (first ∷ ranges) range is =
    let same : first ≡ range = cc in
    ap (λ (r : TsnRange). r.last) same
end_of-at from (suc i) (first ∷ ranges) range is = end_of-at first.last i ranges range is

pub end_of-before : (from at gap bound : ℕ) (ranges : List TsnRange) → at ≤ length ranges → from + gap < bound → ((range : TsnRange) → entry_before at ranges ≡ Some range → range.last + gap < bound) → end_of from (take at ranges) + gap < bound
end_of-before from zero gap bound ranges within start ends = start
end_of-before from (suc i) gap bound ranges within start ends =
    let last = entry_within ranges i (omega arith) in
    rw (end_of-at from i ranges last.0 last.1) (ends last.0 last.1)

-- the ranges that are left where one begins too late to be reached
pub beyond_first : (reached : ℕ) (ranges : List TsnRange) (range : TsnRange) → slice_get ranges 0 ≡ Some range → reached + 1 < range.first → IsSpaced ranges → IsBeyond reached ranges
beyond_first reached [] range is later spaced = tt
beyond_first reached (first ∷ ranges) range is later spaced =
    let same : range ≡ first = cc in
    (subst (λ (r : TsnRange). reached + 1 < r.first) same later, spaced.0, spaced.1)

-- ---- the number after the cumulative one

next_test : (cumulative number other : ℕ) → number ≡ cumulative + 1 → nat_le other number ≡ (nat_le other cumulative || (other == number))
next_test cumulative number other next = grind (arith, nat_tests)

next_is_new : (cumulative number : ℕ) → number ≡ cumulative + 1 → nat_le number cumulative ≡ false
next_is_new cumulative number next = grind (arith, nat_tests)

pub Receives-next : (number cumulative : ℕ) (old : List TsnRange) (reached : ℕ) (new : List TsnRange) → number ≡ cumulative + 1 → IsBeyond cumulative old → MovesForwardTo number old reached new → ReceivesNumber number cumulative old true reached new
Receives-next number cumulative old reached new next beyond advances =
    let forward : number ≤ reached = advances.forward in
    record {
      answer = ap not (sym (ap (λ test. test || is_number_covered number old) (next_is_new cumulative number next) ∙ is_number_covered-before number cumulative old beyond (omega arith)));
      forward = omega arith;
      beyond = advances.beyond;
      members = λ other.
          advances.members other
          ∙ ap (λ test. test || is_number_covered other old) (next_test cumulative number other next)
          ∙ or_swapped (nat_le other cumulative) (other == number) (is_number_covered other old);
      known = λ never. absurd (cc);
    }
