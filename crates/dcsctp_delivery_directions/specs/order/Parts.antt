-- Which parts of the ordered messages of a stream its receiver holds, with interleaving (RFC 8260, section 2.1): all
-- that it handled of those that aren't before the next one, whatever is skipped.
use Rattle.std.specs.Prelude.{◌≡◌, ◌⊎◌, ◌≤◌, ◌+◌, ◌%◌, ◌^◌, ℕ, Bool, true, false, List}
use Rattle.dcsctp_spec_lemmas.specs.spec.queues.Numbers.{fragment_place}
use Rattle.dcsctp_spec_lemmas.specs.spec.queues.IncomingStreams.{StreamModel, is_number_waiting}
use Rattle.dcsctp_delivery_directions.specs.sending.Places.{HasEntry}
use Rattle.dcsctp_delivery_directions.specs.sending.Log.{Piece, History}
use Rattle.dcsctp_delivery_directions.specs.order.Runs.{LieApart, IsHeldForMessage}
use Rattle.dcsctp_delivery_directions.specs.order.Reading.{IsSince}

-- The part with this fragment number is held, or its whole message waits.
abbrev pub IsPartHeld : StreamModel → ℕ → ℕ → Type 0
IsPartHeld stream fsn number = IsHeldForMessage stream.ordered (fragment_place number (fsn % 2 ^ 32)) number ⊎ (is_number_waiting number stream.waiting ≡ true)

-- So it is of each that was handled, if its message isn't before the next one. `got` has the offsets of the TSNs that were handled.
abbrev pub ArePartsHeld : History → List ℕ → ℕ → StreamModel → Type 0
ArePartsHeld history got id stream =
    (n : ℕ) (f : Piece) → IsSince history id n f → HasEntry n got → (number : ℕ) → f.mid + 2 ^ 32 ≡ history.floors id false + number → stream.next ≤ number → IsPartHeld stream f.fsn number

-- The runs of the stream lie apart, and so all its parts are held.
pub record HoldsParts (history : History) (got : List ℕ) (id : ℕ) (stream : StreamModel) : Type 0 where
  pub apart : LieApart 0 stream.ordered
  pub held : ArePartsHeld history got id stream

-- Each ordered message without limits that was sent on the stream since its last reset is among these.
abbrev pub ReadsAllSent : History → ℕ → List ℕ → Type 0
ReadsAllSent history id all = (n : ℕ) (f : Piece) → IsSince history id n f → f.message.is_limited ≡ false → HasEntry f.place all

-- So it is of a stream that isn't quiet.
abbrev pub HoldsPartsOf : History → Bool → List ℕ → ℕ → StreamModel → Type 0
HoldsPartsOf history quiet got id stream = quiet ≡ false → HoldsParts history got id stream
