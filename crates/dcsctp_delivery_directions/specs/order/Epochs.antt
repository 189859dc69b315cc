-- What is read of a stream from one reset that its user asks for to the next has no gap (RFC 9260, section 6.6;
-- RFC 6525, section 5.1.2). A FORWARD-TSN may skip messages, but only up to one with limits (RFC 3758).
use Rattle.std.specs.Prelude.{◌≡◌, ◌⊎◌, ◌<◌, ◌≤◌, ◌+◌, ◌^◌, ℕ, Bool, true, false, Some, List}
use Rattle.dcsctp_delivery_directions.specs.sending.Places.{HasEntry, at_place}
use Rattle.dcsctp_delivery_directions.specs.sending.Log.{Message, Piece, History}
use Rattle.dcsctp_delivery_directions.specs.order.Queue.{IsOrderedOn, AreOfOneEpoch}
use Rattle.dcsctp_delivery_directions.specs.order.Order.{IsSentAs, HasNumber}

-- No ordered message of the stream has limits that was sent, from this place on.
abbrev pub AreSentUnlimited : History → ℕ → ℕ → Type 0
AreSentUnlimited history id from =
    (n : ℕ) (f : Piece) → at_place n history.log ≡ Some (Some f) → f.message.stream ≡ id → f.message.is_unordered ≡ false → from ≤ f.place → f.message.is_limited ≡ false

-- Of the messages of its epoch none is left out of these before this one, if it has no limits: and if it is known which TSNs were
-- received, or none that was sent since has limits.
abbrev pub LeavesNoGapTo : Bool → (ℕ → Bool) → List Message → History → ℕ → List ℕ → ℕ → Type 0
LeavesNoGapTo knows asks queued history id all later =
    (earlier : ℕ) (on : IsOrderedOn queued id earlier) → on.message.is_limited ≡ false → earlier < later → AreOfOneEpoch asks earlier later → (knows ≡ false → AreSentUnlimited history id earlier) → HasEntry earlier all

-- So it is of each of them.
abbrev pub LeaveNoGapSent : Bool → (ℕ → Bool) → List Message → History → ℕ → List ℕ → Type 0
LeaveNoGapSent knows asks queued history id all = (later : ℕ) → HasEntry later all → IsOrderedOn queued id later → LeavesNoGapTo knows asks queued history id all later

-- It was sent since the last reset of the stream, under a number below this one.
pub record IsReadSince (history : History) (id place number : ℕ) : Type 0 where
  pub mid : ℕ
  pub sent : IsSentAs history id place mid
  pub from : history.floors id false ≤ mid
  pub below : mid + 2 ^ 32 < history.floors id false + number

-- A message with limits was sent under this number since the last reset of the stream: or under a higher one, where it isn't known
-- which TSNs were received.
pub record IsLimitedFrom (knows : Bool) (history : History) (id number : ℕ) : Type 0 where
  pub offset : ℕ
  pub piece : Piece
  pub at : at_place offset history.log ≡ Some (Some piece)
  pub stream : piece.message.stream ≡ id
  pub ordered : piece.message.is_unordered ≡ false
  pub limited : piece.message.is_limited ≡ true
  pub from : history.floors id false + number ≤ piece.mid + 2 ^ 32
  pub only : knows ≡ true → piece.mid + 2 ^ 32 ≡ history.floors id false + number

-- All numbers before the next one are among these, or are of one with limits. And each of these was sent since the last reset,
-- or none is left out before it.
pub record AreReadByEpoch (knows : Bool) (asks : ℕ → Bool) (queued : List Message) (history : History) (id : ℕ) (all : List ℕ) (next : ℕ) : Type 0 where
  pub filled : (number : ℕ) → 2 ^ 32 ≤ number → number < next → HasNumber history id all number ⊎ IsLimitedFrom knows history id number
  pub since : (later : ℕ) → HasEntry later all → IsOrderedOn queued id later → IsReadSince history id later next ⊎ LeavesNoGapTo knows asks queued history id all later

-- A message without limits that was queued before another of its epoch, which was sent since the last reset of the stream, was sent
-- since as well.
abbrev pub SendsEpochsInTurn : (ℕ → Bool) → List Message → History → ℕ → Type 0
SendsEpochsInTurn asks queued history id =
    (earlier later mid : ℕ) (on : IsOrderedOn queued id earlier) → on.message.is_limited ≡ false → IsSentAs history id later mid → history.floors id false ≤ mid → earlier < later → AreOfOneEpoch asks earlier later
    → (m : ℕ) × IsSentAs history id earlier m × (history.floors id false ≤ m)
