-- What a function that reads returns.
use Rattle.std.specs.Prelude.{◌≡◌, ℕ, List, Option, Some, None, Result, Ok, Err}
use Rattle.dcsctp_channel_bytes.specs.declared.reader.ReadError.{ReadError}
use Rattle.dcsctp_channel_bytes.specs.declared.reader.ReadError.TheVariants.{Malformed, OutOfMemory}

-- Reading fails, unless memory ran out before.
abbrev pub FailsToRead : {A : Type 0} → ReadError → Option A → Type 0
FailsToRead Malformed read = read ≡ None
FailsToRead OutOfMemory read = Unit {0}

-- From the bytes before it read what it returns, seen by view, and left the bytes after.
abbrev pub ReadsFront : {X A : Type 0} → (X → A) → (List ℕ → Option (A × List ℕ)) → List ℕ → Result X ReadError → List ℕ → Type 0
ReadsFront view parse before (Ok value) after = parse before ≡ Some (view value, after)
ReadsFront view parse before (Err error) after = FailsToRead error (parse before)

-- It read all of the bytes.
abbrev pub ReadsWhole : {X A : Type 0} → (X → A) → Option A → Result X ReadError → Type 0
ReadsWhole view read (Ok value) = read ≡ Some (view value)
ReadsWhole view read (Err error) = FailsToRead error read
