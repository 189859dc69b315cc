-- Which items a SACK reports (RFC 9260, sections 3.3.4 and 6.2.1). The cumulative TSN passes the first `count` items, and the
-- offsets of the blocks count from it.
use Rattle.std.specs.Prelude.{◌≡◌, ◌⊎◌, ◌↔◌, ℕ, ◌+◌, ◌<◌, ◌≤◌, Bool, true, false, Option, None, Some, List, [], ◌∷◌, slice_get}
use Rattle.dcsctp_types.specs.wire.declared.chunk.sack.GapAckBlock.{GapAckBlock}
use Rattle.dcsctp_spec.specs.queues.Items.{Item}
use Rattle.dcsctp_types.specs.queues.Progress.{is_unacknowledged}

-- the place is from `start` on and before `end`
abbrev pub IsPlaceWithin : ℕ → ℕ → ℕ → Type 0
IsPlaceWithin start end place = (start ≤ place) × (place < end)

-- A block names the item at this place: the one after the cumulative TSN has the offset 1.
abbrev pub NamesItem : ℕ → List GapAckBlock → ℕ → Type 0
NamesItem count [] place = ⊥
NamesItem count (block ∷ blocks) place = ((count + block.start ≤ place + 1) × (place + 1 ≤ count + block.end)) ⊎ NamesItem count blocks place

-- The SACK acknowledges the item at this place, and none before did.
abbrev pub IsNewlyAcknowledged : ℕ → List GapAckBlock → ℕ → Item → Type 0
IsNewlyAcknowledged count blocks place item = ((place < count) ⊎ NamesItem count blocks place) × (is_unacknowledged item.progress.state ≡ true)

-- The item at this place is the last of which that holds.
pub record IsLastItem (Holds : ℕ → Item → Type 0) (items : List Item) (place : ℕ) : Type 0 where
  pub item : Item
  pub at : slice_get items place ≡ Some item
  pub holds : Holds place item
  pub last : (k : ℕ) (other : Item) → place < k → slice_get items k ≡ Some other → Holds k other → ⊥

-- the place of the last item of which that holds; none if it holds of none
abbrev pub IsLastPlace : (ℕ → Item → Type 0) → List Item → Option ℕ → Type 0
IsLastPlace Holds items None = (k : ℕ) (item : Item) → slice_get items k ≡ Some item → Holds k item → ⊥
IsLastPlace Holds items (Some place) = IsLastItem Holds items place

-- ---- which items are missing (RFC 9260, section 7.2.4)

-- The item at this place shows that those before it are missing, if they are still in flight. A newly acknowledged item does. In
-- fast recovery, once the cumulative TSN moves, any item does that a block names.
abbrev pub ShowsMissing : Bool → ℕ → List GapAckBlock → ℕ → Item → Type 0
ShowsMissing false count blocks place item = IsNewlyAcknowledged count blocks place item
ShowsMissing true count blocks place item = NamesItem count blocks place

-- An item after this place shows that the one here is missing.
pub record IsMissing (recovering : Bool) (count : ℕ) (blocks : List GapAckBlock) (items : List Item) (place : ℕ) : Type 0 where
  pub shown_by : ℕ
  pub item : Item
  pub behind : place < shown_by
  pub at : slice_get items shown_by ≡ Some item
  pub shows : ShowsMissing recovering count blocks shown_by item

-- The places before this one are those that the SACK reports missing.
abbrev pub MissesUntil : Bool → ℕ → List GapAckBlock → List Item → ℕ → Type 0
MissesUntil recovering count blocks items limit = (place : ℕ) → (place < limit) ↔ IsMissing recovering count blocks items place
