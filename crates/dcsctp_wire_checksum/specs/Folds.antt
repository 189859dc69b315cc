-- How bytes are folded on to later ones, before the register reads the last of them. Let y be the step from a byte to the next.
-- Then 1 + y^65 + y^155 + y^170 + y^195 + y^209 is a multiple of the polynomial: a byte and its five copies at these distances
-- add nothing to the register.
use Rattle.std.specs.Prelude.{ℕ, ◌≡◌, ◌+◌, ◌<◌, ◌≤◌, List, get_or, bit_xor}
use Rattle.std.specs.Int.{w32, to_le_bytes}

-- what earlier bytes, folded, add to the byte at a place; 209 zeros come before the folded bytes
unfoldable pub taps_of_place : List ℕ → ℕ → ℕ
taps_of_place folded at =
    bit_xor (bit_xor (bit_xor (bit_xor (get_or folded (at + 144) 0) (get_or folded (at + 54) 0)) (get_or folded (at + 39) 0)) (get_or folded (at + 14) 0)) (get_or folded at 0)

-- the byte at a place, into which the register goes if it is one of the first four
unfoldable pub byte_with : ℕ → List ℕ → ℕ → ℕ
byte_with register bytes at = bit_xor (get_or bytes at 0) (get_or (to_le_bytes w32 register) at 0)

-- the bytes before a place are folded: each, with what is added to it, is the byte that was read
pub record IsFolded (register : ℕ) (bytes folded : List ℕ) (end : ℕ) : Type 0 where
  pub front : (at : ℕ) → at < 209 → get_or folded at 0 ≡ 0
  pub read : (at : ℕ) → at < end → bit_xor (get_or folded (at + 209) 0) (taps_of_place folded at) ≡ byte_with register bytes at
  pub behind : (at : ℕ) → end + 209 ≤ at → get_or folded at 0 ≡ 0

-- 32 bytes more are folded, from a place on
pub record IsFoldedOn (old new bytes : List ℕ) (from : ℕ) : Type 0 where
  pub before : (at : ℕ) → at < from + 209 → get_or new at 0 ≡ get_or old at 0
  pub here : (n : ℕ) → n < 32 → get_or new (from + 209 + n) 0 ≡ bit_xor (get_or bytes (from + n) 0) (taps_of_place old (from + n))
  pub behind : (at : ℕ) → from + 241 ≤ at → get_or new at 0 ≡ get_or old at 0
