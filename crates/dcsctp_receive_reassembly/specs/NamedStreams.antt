-- Streams that are named: their numbers in ascending order, for a binary search.
use Rattle.std.specs.Prelude.{ℕ, List}
use Rattle.std.specs.Ordering.{nat_cmp}
use Rattle.std.specs.List.Sorted.{IsSorted, IsPermutation}

-- The same numbers, ascending.
pub record IsSortedFrom (given sorted : List ℕ) : Type 0 where
  pub same : IsPermutation given sorted
  pub ascending : IsSorted nat_cmp sorted
