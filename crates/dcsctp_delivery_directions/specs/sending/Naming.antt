-- Which messages an I-FORWARD-TSN names: each of which it passes a TSN that isn't acknowledged, or a later one of the same stream
-- (RFC 8260, section 2.3.1).
use Rattle.std.specs.Prelude.{◌≡◌, ◌⊎◌, ◌<◌, ◌+◌, ℕ, Bool, None, Some, List}
use Rattle.dcsctp_delivery_directions.specs.sending.Log.{Piece, Slot}
use Rattle.dcsctp_delivery_directions.specs.sending.Places.{HasEntry, at_place}

-- The TSN carries this piece, or the end of its message right after it, which was abandoned and is never sent.
pub data IsOfPiece (log : List Slot) (piece : Piece) : ℕ → Type 0 where
  carries : (number : ℕ) → at_place number log ≡ Some (Some piece) → IsOfPiece log piece number
  closes : (number : ℕ) → at_place number log ≡ Some (Some piece) → at_place (number + 1) log ≡ Some None
      → IsOfPiece log piece (number + 1)

-- One of the entries is for the ordered messages of the stream, or for its unordered ones.
pub record HasEntryFor (stream : ℕ) (is_unordered : Bool) (entries : List ((ℕ × Bool) × ℕ)) : Type 0 where
  pub entry : (ℕ × Bool) × ℕ
  pub has : HasEntry entry entries
  pub stream_is : entry.0.0 ≡ stream
  pub unordered_is : entry.0.1 ≡ is_unordered

-- Of each message of which one of these TSNs is passed there is an entry for its stream, ordered or unordered as it is, unless the
-- TSN is acknowledged (RFC 8260, section 2.3.1).
abbrev pub NamesPassed : List Slot → ℕ → ℕ → List ((ℕ × Bool) × ℕ) → Type 0
NamesPassed log acknowledged passed entries =
    (n : ℕ) (f : Piece) → IsOfPiece log f n → n < passed → (n < acknowledged) ⊎ HasEntryFor f.message.stream f.message.is_unordered entries
