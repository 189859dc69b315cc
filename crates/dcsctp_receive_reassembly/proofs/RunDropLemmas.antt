-- Lemmas on runs that are dropped.
use Rattle.std.proofs.Common.{◌≡◌, ℕ, Bool, true, false, Some, List, [], ◌∷◌, map, arith, refl, ap}
use Rattle.std.specs.Prelude.{nat_le, slice_get}
use Rattle.std.specs.List.{filter}
use Rattle.dcsctp_receive_reassembly.specs.declared.runs.Run.{Run}
use Rattle.dcsctp_receive_reassembly.specs.Runs.{run_model, begins_up_to}

-- the first entry of a map is the first run
pub begins_up_to-first : (place first : ℕ) (run : Run) (entries : List (ℕ × Run)) → slice_get entries 0 ≡ Some (first, run) → nat_le first place ≡ begins_up_to place (map run_model entries)
begins_up_to-first place first run [] is = grind arith
begins_up_to-first place first run (e ∷ entries) is = grind arith

-- what a test keeps of the values that a function gives
pub map-filter : {X Y : Type 0} (f : X → Y) (keeps : Y → Bool) (xs : List X) → map f (filter (λ x. keeps (f x)) xs) ≡ filter keeps (map f xs)
map-filter f keeps [] = refl
map-filter f keeps (x ∷ xs) = go (keeps (f x)) refl (map-filter f keeps xs)
  where
    go : (passes : Bool) → keeps (f x) ≡ passes → map f (filter (λ x. keeps (f x)) xs) ≡ filter keeps (map f xs) → map f (filter (λ x. keeps (f x)) (x ∷ xs)) ≡ filter keeps (map f (x ∷ xs))
    go true is rest = rw is (ap (λ kept. f x ∷ kept) rest)
    go false is rest = rw is rest
