-- The entries of a map whose keys are numbers, by their positions in the order of keys.
use Rattle.std.specs.Prelude.{◌≡◌, ℕ, suc, ◌<◌, ◌≤◌, nat_le, if◌then◌else◌, Some, List, [], ◌∷◌, length, slice_get}
use Rattle.std.specs.List.Sorted.{IsStrictlySortedBy}
use Rattle.std.specs.Map.{keys_of}
use Rattle.std.specs.Ordering.{nat_cmp}
use Rattle.dcsctp_spec.specs.queues.Runs.{entry_before}

-- The keys ascend.
abbrev pub Ascends : {X : Type 0} → List (ℕ × X) → Type 0
Ascends es = IsStrictlySortedBy nat_cmp (keys_of es)

-- how many keys are no greater than k, if the keys ascend
abbrev pub count_up_to : {X : Type 0} → ℕ → List (ℕ × X) → ℕ
count_up_to k [] = 0
count_up_to k (e ∷ es) = if nat_le e.0 k then suc (count_up_to k es) else 0

-- The keys before a position are smaller than k, and those from there on are greater.
pub record Splits {X : Type 0} (at k : ℕ) (es : List (ℕ × X)) : Type 0 where
  pub within : at ≤ length es
  pub before : (j : ℕ) (e : ℕ × X) → j < at → slice_get es j ≡ Some e → e.0 < k
  pub behind : (j : ℕ) (e : ℕ × X) → at ≤ j → slice_get es j ≡ Some e → k < e.0

-- The entries up to a position have keys no greater than k, and those from there on have greater ones.
pub record Places {X : Type 0} (at k : ℕ) (es : List (ℕ × X)) : Type 0 where
  pub within : at ≤ length es
  pub before : (e : ℕ × X) → entry_before at es ≡ Some e → e.0 ≤ k
  pub behind : (e : ℕ × X) → slice_get es at ≡ Some e → k < e.0

-- The key k is that of an entry.
pub record HasKey {X : Type 0} (k : ℕ) (es : List (ℕ × X)) : Type 0 where
  pub index : ℕ
  pub value : X
  pub is : slice_get es index ≡ Some (k, value)
  pub count : count_up_to k es ≡ suc index
