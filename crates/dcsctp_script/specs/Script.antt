-- The lines of a script.
use Rattle.std.specs.Prelude.{ℕ, ◌≤◌, ◌<◌, List, length, All}

-- every byte is one that a line may have
abbrev pub IsPrintable : List ℕ → Type 0
IsPrintable text = All (λ byte. (32 ≤ byte) × (byte ≤ 126)) text

-- A line that is looked at: it isn't empty.
abbrev pub IsLine : List ℕ → Type 0
IsLine text = (0 < length text) × IsPrintable text
