-- Which TSNs were received (RFC 9260, section 6.2). TSNs are numbered without wrap: the number of a TSN modulo 2^32 is the TSN.
use Rattle.std.specs.Prelude.{◌≡◌, ◌==◌, ℕ, ◌≤◌, ◌||◌, List, [], ◌∷◌, ◌++◌, map, take, drop, suc, slice_get, Option, None, Some}
use Rattle.std.specs.BTreeMap.{BTreeMap}
use Rattle.dcsctp_spec_lemmas.specs.types.declared.tracking.TsnRange.{TsnRange}
use Rattle.dcsctp_spec_lemmas.specs.spec.queues.Ranges.{IsBeyond, is_number_covered}

-- A map holds the ranges. The key of an entry is the first number of a range, and the value is its last.
abbrev pub range_of : ℕ × ℕ → TsnRange
range_of entry = record { first = entry.0; last = entry.1 }

-- the ranges of a map, in order
abbrev pub ranges_of : BTreeMap ℕ ℕ → List TsnRange
ranges_of ranges = map range_of ranges.entries

-- Do the ranges ascend, with a number missing between each two?
abbrev pub IsSpaced : List TsnRange → Type 0
IsSpaced [] = Unit {0}
IsSpaced (range ∷ ranges) = (range.first ≤ range.last) × IsBeyond range.last ranges

-- The entry with this key is taken out.
abbrev pub Removes : ℕ → List (ℕ × ℕ) → List (ℕ × ℕ) → Type 0
Removes key old new = (i last : ℕ) → slice_get old i ≡ Some (key, last) → new ≡ take i old ++ drop (suc i) old

-- A range that ends at the number is written. If another one begins right after the number, the two become one.
abbrev pub Joins : (ℕ → List (ℕ × ℕ)) → ℕ → Option TsnRange → List (ℕ × ℕ) → Type 0
Joins written number None new = new ≡ written number
Joins written number (Some next) new = Removes next.first (written next.last) new

-- The number is added to the ranges beyond a cumulative one, and nothing else.
pub record AddsToRanges (cumulative number : ℕ) (old new : List TsnRange) : Type 0 where
  pub beyond : IsBeyond cumulative new
  pub members : (other : ℕ) → is_number_covered other new ≡ (is_number_covered other old || (other == number))
