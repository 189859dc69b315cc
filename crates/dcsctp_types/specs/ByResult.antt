-- What a call leaves, by its result.
use Rattle.std.specs.Prelude.{Result, Ok, Err}

-- `Done` holds of the value if the result is Ok; `Stays` holds if it is Err.
abbrev pub ByResult : {A E : Type 0} → (A → Type 0) → Type 0 → Result A E → Type 0
ByResult Done Stays (Ok value) = Done value
ByResult Done Stays (Err error) = Stays
