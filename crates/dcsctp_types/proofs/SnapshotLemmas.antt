-- Ascending lists name nothing twice.
use Rattle.std.proofs.Common.{◌≡◌, ◌==◌, ◌&&◌, ◌+◌, ◌<◌, ℕ, Bool, true, false, nat_le, List, [], ◌∷◌, refl, arith}
use Rattle.std.proofs.lemmas.Bool.Decides.{nat_tests}
use Rattle.std.specs.List.{list_any}
use Rattle.dcsctp_types.specs.Snapshot.{names_twice}

-- Is each number at least the first argument, and greater than the one before?
abbrev pub ascends_from : ℕ → List ℕ → Bool
ascends_from least [] = true
ascends_from least (id ∷ ids) = nat_le least id && ascends_from (id + 1) ids

names_none_below : (least : ℕ) (ids : List ℕ) → ascends_from least ids ≡ true → (id : ℕ) → id < least → list_any (λ other. other == id) ids ≡ false
names_none_below least [] ascends id below = refl
names_none_below least (first ∷ ids) ascends id below = grind (arith, nat_tests, names_none_below (first + 1) ids)

names_none_twice_from : (least : ℕ) (ids : List ℕ) → ascends_from least ids ≡ true → names_twice ids ≡ false
names_none_twice_from least [] ascends = refl
names_none_twice_from least (first ∷ ids) ascends = grind (arith, nat_tests, names_none_below (first + 1) ids, names_none_twice_from (first + 1) ids)

pub ascending_names_none_twice : (ids : List ℕ) → ascends_from 0 ids ≡ true → names_twice ids ≡ false
ascending_names_none_twice ids ascends = names_none_twice_from 0 ids ascends
