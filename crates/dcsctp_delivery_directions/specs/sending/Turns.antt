-- How many ordered messages of a stream were begun. Without interleaving their SSNs count them,
-- modulo 2^16 (RFC 9260, section 6.6).
use Rattle.std.specs.Prelude.{◌≡◌, ◌==◌, ◌&&◌, ◌<◌, ◌+◌, ◌%◌, ◌^◌, not, ℕ, suc, Bool, false, None, Some, List, [], ◌∷◌, length, if◌then◌else◌}
use Rattle.dcsctp_delivery_directions.specs.sending.Log.{Slot}

-- Does the slot begin an ordered message of the stream?
abbrev pub begins_on : ℕ → Slot → Bool
begins_on id None = false
begins_on id (Some piece) = (piece.start == 0) && (piece.message.stream == id) && not piece.message.is_unordered

-- how many such messages were begun
abbrev pub begun_on : ℕ → List Slot → ℕ
begun_on id [] = 0
begun_on id (slot ∷ earlier) = if begins_on id slot then suc (begun_on id earlier) else begun_on id earlier

-- and how many up to this TSN
abbrev pub turn_of_tsn : ℕ → ℕ → List Slot → ℕ
turn_of_tsn id n [] = 0
turn_of_tsn id n (slot ∷ earlier) = if n == length earlier then begun_on id (slot ∷ earlier) else turn_of_tsn id n earlier

-- The message that was begun as the last of so many has this SSN.
pub record IsSsnOfTurn (ssn turn : ℕ) : Type 0 where
  pub some : 0 < turn
  pub is : (ssn + 1) % 2 ^ 16 ≡ turn % 2 ^ 16
