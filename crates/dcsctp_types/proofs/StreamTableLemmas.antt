-- Lemmas on tables of streams.
use Rattle.std.proofs.Common.{◌≡◌, ◌==◌, ◌||◌, ℕ, zero, suc, replicate, ◌*◌, ◌/◌, ◌%◌, ◌^◌, ◌<◌, Bool, true, false, List, length, get_or, arith, refl, sym, ◌∙◌, ap, w64, bit_or, slice_set}
use Rattle.std.specs.Int.{bit_at}
use Rattle.std.proofs.lemmas.Bool.{eqb-true}
use Rattle.std.proofs.lemmas.Bool.Decides.{nat_tests}
use Rattle.std.proofs.lemmas.Grind.{get_or-set_at}
use Rattle.std.proofs.lemmas.List.{get_or-set_other}
use Rattle.std.proofs.lemmas.Nat.Bits.{bit_at-zero, bit_at_set_same, bit_at_set_other}

zeros : (n i : ℕ) → get_or {A = ℕ} (replicate n 0) i 0 ≡ 0
zeros zero i = refl
zeros (suc n) zero = refl
zeros (suc n) (suc i) = zeros n i

-- Nothing is marked where each word is 0.
pub blank : (n number : ℕ) → (bit_at (get_or (replicate n 0) (number / 64) 0) (number % 64) == 1) ≡ false
blank n number = ap (λ word. bit_at word (number % 64) == 1) (zeros n (number / 64)) ∙ ap (λ bit. bit == 1) (bit_at-zero (number % 64))

-- the word with the bit of a stream set
abbrev with_bit : ℕ → ℕ → ℕ
with_bit word id = bit_or word (1 * 2 ^ (id % 64) % 2 ^ 64)

apart : (a b : ℕ) → (a == b) ≡ false → a ≡ b → ⊥
apart a b differs same = grind (arith, nat_tests, differs, same)

-- One more bit is set.
pub marked : (words : List ℕ) (index id number : ℕ) → index ≡ id / 64 → index < length words → (bit_at (get_or (slice_set words index (with_bit (get_or words index 0) id)) (number / 64) 0) (number % 64) == 1) ≡ ((id == number) || (bit_at (get_or words (number / 64) 0) (number % 64) == 1))
marked words index id number is within = go (id == number) refl (number / 64 == index) refl
  where
    go : (same : Bool) → (id == number) ≡ same → (at : Bool) → (number / 64 == index) ≡ at → (bit_at (get_or (slice_set words index (with_bit (get_or words index 0) id)) (number / 64) 0) (number % 64) == 1) ≡ ((id == number) || (bit_at (get_or words (number / 64) 0) (number % 64) == 1))
    go true same at _ =
        let equal : id ≡ number = eqb-true id number same in
        let here : number / 64 ≡ index = ap (λ n. n / 64) (sym equal) ∙ sym is in
        let bit : bit_at (get_or (slice_set words index (with_bit (get_or words index 0) id)) (number / 64) 0) (number % 64) ≡ 1 =
        ap (λ word. bit_at word (number % 64)) (get_or-set_at words index (number / 64) (with_bit (get_or words index 0) id) 0 here within) ∙ ap (λ n. bit_at (with_bit (get_or words index 0) id) (n % 64)) (sym equal) ∙ bit_at_set_same w64 (get_or words index 0) (id % 64) (omega arith) in
        rw (bit, same) refl
    go false differs true at =
        let here : number / 64 ≡ index = eqb-true (number / 64) index at in
        let other : number % 64 ≡ id % 64 → ⊥ = λ met. apart id number differs (omega (arith, met, here, is)) in
        let bit : bit_at (get_or (slice_set words index (with_bit (get_or words index 0) id)) (number / 64) 0) (number % 64) ≡ bit_at (get_or words (number / 64) 0) (number % 64) =
        ap (λ word. bit_at word (number % 64)) (get_or-set_at words index (number / 64) (with_bit (get_or words index 0) id) 0 here within) ∙ bit_at_set_other w64 (get_or words index 0) (id % 64) (omega arith) (number % 64) other ∙ ap (λ i. bit_at (get_or words i 0) (number % 64)) (sym here) in
        rw (bit, differs) refl
    go false differs false elsewhere =
        let bit : bit_at (get_or (slice_set words index (with_bit (get_or words index 0) id)) (number / 64) 0) (number % 64) ≡ bit_at (get_or words (number / 64) 0) (number % 64) =
        ap (λ word. bit_at word (number % 64)) (get_or-set_other words index (number / 64) (with_bit (get_or words index 0) id) 0 (apart (number / 64) index elsewhere)) in
        rw (bit, differs) refl
