-- A pass that marks each number finds whether one occurs twice.
use Rattle.std.proofs.Common.{◌≡◌, ◌==◌, ◌||◌, ℕ, Bool, false, List, [], ◌∷◌, refl, arith}
use Rattle.std.proofs.lemmas.Bool.Decides.{nat_tests}
use Rattle.std.specs.List.{list_any}
use Rattle.dcsctp_types.specs.Snapshot.{names_twice}

-- With one more number marked, that number is found too.
any_marked : (before after : ℕ → Bool) (id : ℕ) → ((number : ℕ) → after number ≡ ((id == number) || before number)) → (ids : List ℕ) →
    list_any after ids ≡ (list_any (λ other. other == id) ids || list_any before ids)
any_marked before after id marked [] = refl
any_marked before after id marked (first ∷ ids) = grind (arith, nat_tests, marked first, any_marked before after id marked ids)

-- Where nothing is marked, none is found.
pub none_marked : (seen : ℕ → Bool) → ((number : ℕ) → seen number ≡ false) → (ids : List ℕ) → list_any seen ids ≡ false
none_marked seen blank [] = refl
none_marked seen blank (first ∷ ids) = grind (arith, nat_tests, blank first, none_marked seen blank ids)

-- A number that wasn't marked is marked, and what is left says the same.
pub repeats_kept : (before after : ℕ → Bool) (id : ℕ) → ((number : ℕ) → after number ≡ ((id == number) || before number)) → before id ≡ false → (ids : List ℕ) →
    (list_any after ids || names_twice ids) ≡ (list_any before (id ∷ ids) || names_twice (id ∷ ids))
repeats_kept before after id marked fresh ids = grind (arith, nat_tests, any_marked before after id marked ids)
