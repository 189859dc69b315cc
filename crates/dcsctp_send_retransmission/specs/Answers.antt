-- Whether a SACK is an answer, which ends the count of errors (RFC 9260, section 8.1).
use Rattle.std.specs.Prelude.{◌≡◌, ◌⊎◌, ℕ, ◌<◌, Bool, true, false, Some, List, slice_get}
use Rattle.dcsctp_api.specs.wire.declared.chunk.sack.GapAckBlock.{GapAckBlock}
use Rattle.dcsctp_api.specs.spec.queues.Items.{Item}
use Rattle.dcsctp_api.specs.spec.queues.Reports.{NamesItem}

-- The SACK acknowledges the item at this place: the cumulative TSN passes it, which passes that many first items, or a block
-- names it. No SACK has acknowledged it before. It may have been abandoned.
abbrev pub IsAcknowledgedFirst : ℕ → List GapAckBlock → ℕ → Item → Type 0
IsAcknowledgedFirst count blocks place item = ((place < count) ⊎ NamesItem count blocks place) × (item.progress.was_acknowledged ≡ false)

-- There is such an item.
pub record AcknowledgesItem (count : ℕ) (blocks : List GapAckBlock) (items : List Item) : Type 0 where
  pub place : ℕ
  pub item : Item
  pub at : slice_get items place ≡ Some item
  pub is : IsAcknowledgedFirst count blocks place item

-- This says whether there is one.
abbrev pub SaysAnswer : Bool → ℕ → List GapAckBlock → List Item → Type 0
SaysAnswer true count blocks items = AcknowledgesItem count blocks items
SaysAnswer false count blocks items = AcknowledgesItem count blocks items → ⊥
