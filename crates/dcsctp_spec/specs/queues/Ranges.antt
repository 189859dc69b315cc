-- Sets of TSNs as a socket keeps them: all up to a cumulative number, and ranges beyond it. The numbers don't wrap.
use Rattle.std.specs.Prelude.{◌≡◌, ◌==◌, ℕ, ◌+◌, ◌<◌, ◌≤◌, nat_le, nat_lt, Bool, false, not, cond, ◌&&◌, ◌||◌, List, [], ◌∷◌}
use Rattle.dcsctp_types.specs.declared.tracking.TsnRange.{TsnRange}

-- ---- a set of numbers

-- Do the ranges ascend, with a number missing between each two, and one between this number and the first of them?
abbrev pub IsBeyond : ℕ → List TsnRange → Type 0
IsBeyond number [] = Unit {0}
IsBeyond number (range ∷ ranges) = (number + 1 < range.first) × (range.first ≤ range.last) × IsBeyond range.last ranges

-- Is the number in one of the ranges?
abbrev pub is_number_covered : ℕ → List TsnRange → Bool
is_number_covered number [] = false
is_number_covered number (range ∷ ranges) = (nat_le range.first number && nat_le number range.last) || is_number_covered number ranges

-- Is the number in the set: up to the cumulative number, or in one of the ranges?
abbrev pub is_received : ℕ → ℕ → List TsnRange → Bool
is_received cumulative number ranges = nat_le number cumulative || is_number_covered number ranges

-- ---- the rule: how the set changes (RFC 9260, section 6.2; RFC 3758, section 3.6)

-- A number is received. The set then has it, and what it had before. Its canonical form is a cumulative number and the ranges
-- beyond it, with a number missing before each. If the number isn't new, nothing changes.
pub record ReceivesNumber (number cumulative : ℕ) (old : List TsnRange) (is_new : Bool) (reached : ℕ) (new : List TsnRange) : Type 0 where
  pub answer : is_new ≡ not (is_received cumulative number old)
  pub forward : cumulative ≤ reached
  pub beyond : IsBeyond reached new
  pub members : (other : ℕ) → is_received reached other new ≡ (is_received cumulative other old || (other == number))
  pub known : is_new ≡ false → (reached ≡ cumulative) × (new ≡ old)

-- All up to the number count as received, and what is in the ranges. `reached` is the last number before the first missing one.
pub record MovesForwardTo (number : ℕ) (old : List TsnRange) (reached : ℕ) (new : List TsnRange) : Type 0 where
  pub forward : number ≤ reached
  pub beyond : IsBeyond reached new
  pub members : (other : ℕ) → is_received reached other new ≡ is_received number other old

-- ---- the set that the rule determines, computed
-- A law in dcsctp_spec_laws says that it is the one that the rule allows (`sets_follow_rule`).

-- What is received: all up to the cumulative number, and the ranges beyond it.
pub record ReceivedTsns : Type 0 where
  pub cumulative : ℕ
  pub ranges : List TsnRange

abbrev pub all_to : ℕ → List TsnRange → ReceivedTsns
all_to cumulative ranges = record { cumulative = cumulative; ranges = ranges }

abbrev pub tsn_range_of : ℕ → ℕ → TsnRange
tsn_range_of first last = record { first = first; last = last }

-- A range is put before ranges that begin after it.
abbrev pub put_before : TsnRange → List TsnRange → List TsnRange
-- No other range is there.
put_before range [] = range ∷ []
-- If the next range begins right after it, the two become one.
put_before range (next ∷ ranges) = cond (next.first == range.last + 1) (tsn_range_of range.first next.last ∷ ranges) (range ∷ (next ∷ ranges))

-- A number that is in none of the ranges is put among them.
abbrev pub put_among : ℕ → List TsnRange → List TsnRange
-- After all of them, it is a range by itself.
put_among number [] = tsn_range_of number number ∷ []
-- If it is before the first range, it is put there. If it is right after that range, it extends it. Else its place is
-- further on.
put_among number (range ∷ ranges) =
    cond (nat_lt number range.first) (put_before (tsn_range_of number number) (range ∷ ranges))
    (cond (number == range.last + 1) (put_before (tsn_range_of range.first number) ranges)
    (range ∷ put_among number ranges))

-- All up to the number are received, and what is in the ranges.
abbrev pub reaching : ℕ → List TsnRange → ReceivedTsns
-- There are no ranges: nothing is received beyond it.
reaching number [] = all_to number []
-- If a number is missing before the first range, that range stays. If the first range has the number or begins right after
-- it, all up to its end are received. Else the first range ends before the number, and is dropped.
reaching number (range ∷ ranges) =
    cond (nat_lt (number + 1) range.first) (all_to number (range ∷ ranges))
    (cond (nat_le number range.last) (all_to range.last ranges)
    (reaching number ranges))

-- The number is received too. If it was received before, nothing changes. If it is the next one, the cumulative number
-- moves to it, or to the end of the range that begins right after it. Else it is put among the ranges.
abbrev pub ranges_with_number : ℕ → ℕ → List TsnRange → ReceivedTsns
ranges_with_number number cumulative ranges =
    cond (is_received cumulative number ranges) (all_to cumulative ranges)
    (cond (number == cumulative + 1) (reaching number ranges)
    (all_to cumulative (put_among number ranges)))

-- All up to the number count as received. If they were received before, nothing changes. Else the cumulative number
-- moves to it, or to the end of the range that has it or begins right after it.
abbrev pub forwarded_ranges : ℕ → ℕ → List TsnRange → ReceivedTsns
forwarded_ranges number cumulative ranges = cond (nat_le number cumulative) (all_to cumulative ranges) (reaching number ranges)
