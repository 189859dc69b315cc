-- The order in which ordered messages of a stream were queued, and the numbers of what was sent of
-- them (RFC 9260, section 6.6; RFC 8260, section 2.1).
use Rattle.std.specs.Prelude.{◌≡◌, ◌<◌, ◌≤◌, ℕ, zero, suc, Bool, true, false, Some, List, [], ◌∷◌, length, take}
use Rattle.dcsctp_spec_lemmas.specs.spec.endpoint.Event.{Event}
use Rattle.dcsctp_spec_lemmas.specs.spec.queues.SendQueue.{SendQueueState}
use Rattle.dcsctp_spec_lemmas.specs.spec.queues.Sending.{Fragment, TakesFragment}
use Rattle.dcsctp_delivery_directions.specs.sending.Places.{HasEntry, at_place}
use Rattle.dcsctp_delivery_directions.specs.sending.Log.{Message, Piece, Slot, History, with_slot}
use Rattle.dcsctp_delivery_directions.specs.sending.Pieces.{HandsOutPiece}

-- ---- what is promised of the places of messages that were read, in the order of reading

-- The message of this place is an ordered one of the stream.
pub record IsOrderedOn (queued : List Message) (id place : ℕ) : Type 0 where
  pub message : Message
  pub at : at_place place queued ≡ Some message
  pub stream : message.stream ≡ id
  pub ordered : message.is_unordered ≡ false

-- The message of this place is one of the stream.
pub record IsMessageOn (queued : List Message) (id place : ℕ) : Type 0 where
  pub message : Message
  pub at : at_place place queued ≡ Some message
  pub stream : message.stream ≡ id

-- Ordered messages of the stream come in the order in which they were queued.
abbrev pub ComeInOrder : List Message → ℕ → List ℕ → Type 0
ComeInOrder queued id [] = Unit {0}
ComeInOrder queued id (place ∷ places) =
    ((later : ℕ) → HasEntry later places → IsOrderedOn queued id place → IsOrderedOn queued id later → place < later) × ComeInOrder queued id places

-- None of them is left out before another.
abbrev pub LeaveNoGap : List Message → ℕ → List ℕ → Type 0
LeaveNoGap queued id places =
    (earlier later : ℕ) → HasEntry later places → IsOrderedOn queued id later → IsOrderedOn queued id earlier → earlier < later → HasEntry earlier places

-- ---- resets of the stream that were asked for

-- No reset was asked for once the earlier message was queued, and before the later one was. `asks` says when so many messages were
-- queued.
abbrev pub AreOfOneEpoch : (ℕ → Bool) → ℕ → ℕ → Type 0
AreOfOneEpoch asks earlier later = (count : ℕ) → earlier < count → count ≤ later → asks count ≡ false

-- No ordered message of the stream has limits from the one place on, before the other.
abbrev pub AreUnlimitedFrom : List Message → ℕ → ℕ → ℕ → Type 0
AreUnlimitedFrom queued id from to = (place : ℕ) → from ≤ place → place < to → (on : IsOrderedOn queued id place) → on.message.is_limited ≡ false

-- Of those that were queued before this place none without limits is left out before another of its epoch: if it is known which TSNs
-- were received, or none from that one on has limits.
abbrev pub LeaveNoGapBefore : Bool → (ℕ → Bool) → List Message → ℕ → ℕ → List ℕ → Type 0
LeaveNoGapBefore knows asks queued id end places =
    (earlier later : ℕ) → HasEntry later places → IsOrderedOn queued id later → (on : IsOrderedOn queued id earlier) → on.message.is_limited ≡ false → earlier < later → later < end
    → AreOfOneEpoch asks earlier later → (knows ≡ false → AreUnlimitedFrom queued id earlier end) → HasEntry earlier places

-- A reset of a stream that its receiver has performed: how many messages were read or ready then, of all streams, and how many
-- were queued when it was asked for. Is it known that nothing of the stream waited then?
pub record Cut : Type 0 where
  pub index : ℕ
  pub place : ℕ
  pub is_whole : Bool

-- Of the messages of the stream the first ones, up to this index, were queued before this place, and none of the others.
abbrev pub Separates : List Message → ℕ → ℕ → ℕ → List ℕ → Type 0
Separates queued id index bound [] = Unit {0}
Separates queued id zero bound (place ∷ places) = (IsMessageOn queued id place → bound ≤ place) × Separates queued id zero bound places
Separates queued id (suc index) bound (place ∷ places) = (IsMessageOn queued id place → place < bound) × Separates queued id index bound places

-- Each ordered message of the stream without limits that was queued before the reset was asked for, and since one was before, is
-- among the first ones, up to its index.
abbrev pub HaveAllBefore : (ℕ → Bool) → List Message → ℕ → Cut → List ℕ → Type 0
HaveAllBefore asks queued id cut places =
    (place : ℕ) (on : IsOrderedOn queued id place) → on.message.is_limited ≡ false → place < cut.place → ((count : ℕ) → place < count → count < cut.place → asks count ≡ false) → HasEntry place (take cut.index places)

-- The reset separates them, and leaves no gap before it. They are all, if nothing waited.
pub record IsSeparated (knows : Bool) (asks : ℕ → Bool) (queued : List Message) (id : ℕ) (cut : Cut) (places : List ℕ) : Type 0 where
  pub within : cut.index ≤ length places
  pub separates : Separates queued id cut.index cut.place places
  pub no_gap : LeaveNoGapBefore knows asks queued id cut.place places
  pub before : cut.place ≤ length queued
  pub all : cut.is_whole ≡ true → HaveAllBefore asks queued id cut places

-- Each of these resets does.
abbrev pub AreSeparated : Bool → (ℕ → Bool) → List Message → ℕ → List Cut → List ℕ → Type 0
AreSeparated knows asks queued id cuts places = (cut : Cut) → HasEntry cut cuts → IsSeparated knows asks queued id cut places

-- ---- what the log of a sender has

-- Of two messages of a stream, both ordered or both unordered, the one with the higher number was queued later. Numbers don't
-- wrap, and a reset of the stream raises them.
abbrev pub FollowsQueue : List Slot → Type 0
FollowsQueue log =
    (m n : ℕ) (f g : Piece) → at_place m log ≡ Some (Some f) → at_place n log ≡ Some (Some g) → f.message.stream ≡ g.message.stream → f.message.is_unordered ≡ g.message.is_unordered → f.mid < g.mid
    → f.place < g.place

-- So it is of those of this stream.
abbrev pub FollowsOn : ℕ → List Slot → Type 0
FollowsOn id log =
    (m n : ℕ) (f g : Piece) → at_place m log ≡ Some (Some f) → at_place n log ≡ Some (Some g) → f.message.stream ≡ id → g.message.stream ≡ id → f.message.is_unordered ≡ g.message.is_unordered → f.mid < g.mid
    → f.place < g.place

-- With interleaving the next piece that is handed out leaves it so.
abbrev pub HandingFollows : Type 0
HandingFollows =
    (queued : List Message) (history : History) (now max : ℕ) (old new : SendQueueState) (told_before told_after : List (Event (List ℕ))) (part : Fragment)
    → old.is_interleaved ≡ true → TakesFragment now max old told_before part new told_after → (hands : HandsOutPiece queued history part new)
    → FollowsQueue history.log → FollowsQueue (with_slot (Some hands.piece) history).log
