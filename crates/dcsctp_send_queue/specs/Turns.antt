-- The order in which streams are asked for a message: by priority, the greatest first, then by their last turn, the oldest first,
-- and then by number, the least first.
use Rattle.std.specs.Prelude.{◌≡◌, ℕ, ◌<◌, ◌≤◌, slice_index_or, true, false, Option, List, [], ◌∷◌, length}
use Rattle.dcsctp_api.specs.types.declared.sending.Turn.{Turn}
use Rattle.dcsctp_api.specs.types.queues.SendStreams.{comes_after, with_optional_turn}

-- none of these is asked after this one
abbrev pub NoneAfter : Turn → List Turn → Type 0
NoneAfter turn [] = Unit {0}
NoneAfter turn (other ∷ turns) = (comes_after other turn ≡ false) × NoneAfter turn turns

-- The turns are in order, the last to be asked first.
abbrev pub IsOrdered : List Turn → Type 0
IsOrdered [] = Unit {0}
IsOrdered (turn ∷ turns) = NoneAfter turn turns × IsOrdered turns

-- Below this place the turns are asked after this one, and from it on they are not.
pub record IsTurnPlace (turns : List Turn) (turn : Turn) (place : ℕ) : Type 0 where
  pub bound : place ≤ length turns
  pub below : (k : ℕ) → k < place → comes_after (slice_index_or turns k turn) turn ≡ true
  pub above : (k : ℕ) → place ≤ k → k < length turns → comes_after (slice_index_or turns k turn) turn ≡ false

-- These are some turns in order with this one, and there is room for another beside them.
pub record HoldsTurns (turns : List Turn) (turn : Option Turn) (room : ℕ) : Type 0 where
  pub others : List Turn
  pub are : turns ≡ with_optional_turn turn others
  pub ordered : IsOrdered others
  pub has_room : length others < room
