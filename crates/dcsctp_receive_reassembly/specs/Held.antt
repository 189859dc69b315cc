-- Counts of bytes in memory, and of what the receive window is used for.
use Rattle.std.specs.Prelude.{ℕ, ◌-◌, ◌^◌, min}

-- no more than a usize counts
abbrev pub capped_usize : ℕ → ℕ
capped_usize size = min size (2 ^ 64 - 1)

-- no more than a u128 counts
abbrev pub capped_u128 : ℕ → ℕ
capped_u128 size = min size (2 ^ 128 - 1)
