-- Copying to a buffer of the caller's, and from one.
use Rattle.std.specs.Prelude.{◌≡◌, ◌<◌, ◌≤◌, ◌⊎◌, ◌++◌, ℕ, length, drop, List, Option, Some, None}
use denote.RawPtr.{Ptr}
use Rattle.std.specs.Global.{Vec}
use Rattle.dcsctp_session.specs.declared.status.Status.{Status}
use Rattle.dcsctp_session.specs.declared.status.Status.TheVariants as statuses

-- Numbers are copied to the front of a buffer; or it is too small and stays as it is. `told` is how many there are.
abbrev pub Copies : List ℕ → List ℕ → Status → List ℕ → ℕ → Type 0
Copies numbers old status new told =
    (told ≡ length numbers)
    × ((status ≡ statuses.Done) × (length numbers ≤ length old) × (new ≡ numbers ++ drop (length numbers) old)
    ⊎ (status ≡ statuses.BufferTooSmall) × (length old < length numbers) × (new ≡ old))

-- The same of what was taken, if it has anything to copy.
abbrev pub CopiesIfTaken : Option (List ℕ) → List ℕ → Status → List ℕ → ℕ → Type 0
CopiesIfTaken None old status new told = (status ≡ statuses.NothingToCopy) × (told ≡ 0) × (new ≡ old)
CopiesIfTaken (Some numbers) old status new told = Copies numbers old status new told

-- A pointer to the bytes is written, and `told` is how many there are: a `Vec` owns its items where its pointer is. Without bytes
-- the pointer stays, and `told` is 0.
abbrev pub ShowsPlace : Option (Vec ℕ) → Ptr → Status → Ptr → ℕ → Type 0
ShowsPlace None old status new told = (status ≡ statuses.NothingToCopy) × (told ≡ 0) × (new ≡ old)
ShowsPlace (Some bytes) old status new told = (status ≡ statuses.Done) × (told ≡ length bytes.items) × (new ≡ bytes.ptr)

-- It is the whole of a message; or both are longer than a message may be, and then their length alone counts.
abbrev pub IsFront : ℕ → List ℕ → List ℕ → Type 0
IsFront limit whole front = (front ≡ whole) ⊎ ((limit < length front) × (limit < length whole))
