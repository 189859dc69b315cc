-- Lists with the newest first, and tables of numbers.
use Rattle.std.specs.Prelude.{◌≡◌, ◌==◌, ℕ, Option, None, Some, List, [], ◌∷◌, ◌⊎◌, length, if◌then◌else◌}

-- The entry is in the list.
abbrev pub HasEntry : {A : Type 0} → A → List A → Type 0
HasEntry entry [] = ⊥
HasEntry entry (newest ∷ earlier) = (entry ≡ newest) ⊎ HasEntry entry earlier

-- the entry at this place: so many came before it
abbrev pub at_place : {A : Type 0} → ℕ → List A → Option A
at_place place [] = None
at_place place (newest ∷ earlier) = if place == length earlier then Some newest else at_place place earlier

-- the table, with this entry at the number
abbrev pub table_with : {A : Type 0} → ℕ → A → (ℕ → A) → (ℕ → A)
table_with number entry table = λ other. if other == number then entry else table other
