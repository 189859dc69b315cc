-- The reasons against a handover: those of two numbers together, and how they are written.
use Rattle.std.proofs.Common.{◌≡◌, ◌==◌, ◌||◌, ◌≤◌, ℕ, zero, suc, not, min, max, List, [], ◌∷◌, codes, bit_and, bit_or, refl, ap, ◌∙◌, arith}
use Rattle.std.proofs.lemmas.Nat.{le_or_l}
use Rattle.std.proofs.lemmas.Nat.Bits.{bit_at_and, bit_at_or, same_from_bits}
use Rattle.std.proofs.lemmas.Bool.Decides.{nat_tests}
use Rattle.std.specs.Int.{bit_at}
use Rattle.dcsctp_types.specs.Readiness.{has_reason}

min_of_max : (x y z : ℕ) → min (max x y) z ≡ max (min x z) (min y z)
min_of_max x y z = omega arith

-- `(a | b) & c` is `a & c | b & c`.
and_of_or : (a b c : ℕ) → bit_and (bit_or a b) c ≡ bit_or (bit_and a c) (bit_and b c)
and_of_or a b c = same_from_bits _ _ (λ i. simp (bit_at_and, bit_at_or) (min_of_max (bit_at a i) (bit_at b i) (bit_at c i)))

-- `x | y` is 0 where both are.
or_is_zero : (x y : ℕ) → not (bit_or x y == 0) ≡ (not (x == 0) || not (y == 0))
or_is_zero zero y = refl
or_is_zero (suc x) y = let h : suc x ≤ bit_or (suc x) y = le_or_l (suc x) y in grind (arith, nat_tests)

pub readiness_contains : (a b reasons : ℕ) → has_reason (bit_or a b) reasons ≡ (has_reason a reasons || has_reason b reasons)
readiness_contains a b reasons = ap (λ n. not (n == 0)) (and_of_or a b reasons) ∙ or_is_zero (bit_and a reasons) (bit_and b reasons)

-- what comes between names and the next one
abbrev pub separator_after : List (ℕ × List ℕ) → List ℕ
separator_after [] = []
separator_after (_ ∷ _) = codes ","
