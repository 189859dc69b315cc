-- What a function that reads returns.
use Rattle.std.specs.Prelude.{◌≡◌, ℕ, List, Option, Some, None, Result, Ok, Err}
use Rattle.dcsctp_snapshot_bytes.specs.declared.reader.ReadError.{ReadError}
use Rattle.dcsctp_snapshot_bytes.specs.declared.reader.ReadError.TheVariants.{Malformed, OutOfMemory}

-- Reading fails, unless memory ran out before.
abbrev pub FailsReading : {A : Type 0} → ReadError → Option A → Type 0
FailsReading Malformed read = read ≡ None
FailsReading OutOfMemory read = Unit {0}

-- From the bytes before it read what it returns, seen by view, and left the bytes after.
abbrev pub ReadsValue : {X A : Type 0} → (X → A) → (List ℕ → Option (A × List ℕ)) → List ℕ → Result X ReadError → List ℕ → Type 0
ReadsValue view parse before (Ok value) after = parse before ≡ Some (view value, after)
ReadsValue view parse before (Err error) after = FailsReading error (parse before)

-- It read all of the bytes.
abbrev pub ReadsAll : {X A : Type 0} → (X → A) → Option A → Result X ReadError → Type 0
ReadsAll view read (Ok value) = read ≡ Some (view value)
ReadsAll view read (Err error) = FailsReading error read
