-- Places that the blocks of the last SACK named (RFC 9260, section 3.3.4), and what is known of their items.
use Rattle.std.specs.Prelude.{◌≡◌, ℕ, ◌+◌, ◌<◌, ◌≤◌, ◌^◌, true, Some, List, slice_get}
use Rattle.dcsctp_api.specs.wire.declared.chunk.sack.GapAckBlock.{GapAckBlock}
use Rattle.dcsctp_api.specs.spec.queues.Items.{Item}
use Rattle.dcsctp_send_retransmission.specs.declared.named_places.Row.{Row}
use Rattle.dcsctp_api.specs.types.declared.progress.Change.{Change}
use Rattle.dcsctp_send_retransmission.specs.declared.named_places.NamedPlaces.{NamedPlaces}
use Rattle.dcsctp_api.specs.types.queues.Progress.{progress_changed}
use Rattle.dcsctp_send_retransmission.specs.Settled.{is_settled}
use Rattle.dcsctp_api.specs.spec.queues.Reports.{NamesItem}

-- One of the rows names the place.
pub record IsNamedPlace (named : NamedPlaces) (place : ℕ) : Type 0 where
  pub index : ℕ
  pub row : Row
  pub at : slice_get named.rows.items index ≡ Some row
  pub from : row.start ≤ named.removed + place
  pub to : named.removed + place < row.end
  pub fits : row.end < 2 ^ 64

-- the item at this place is settled
pub record IsSettledItem (items : List Item) (place : ℕ) : Type 0 where
  pub item : Item
  pub at : slice_get items place ≡ Some item
  pub is : is_settled item.progress ≡ true

-- There is an item at each place that is named, and it is settled.
abbrev pub AreSettled : NamedPlaces → List Item → Type 0
AreSettled named items = (place : ℕ) → IsNamedPlace named place → IsSettledItem items place

-- the items from place `start` to before place `end` are settled
abbrev pub AreSettledBetween : ℕ → ℕ → List Item → Type 0
AreSettledBetween start end items = (k : ℕ) (item : Item) → start ≤ k → k < end → slice_get items k ≡ Some item → is_settled item.progress ≡ true

-- those that the blocks name are
abbrev pub BlocksAreSettled : ℕ → List GapAckBlock → List Item → Type 0
BlocksAreSettled count blocks items = (k : ℕ) (item : Item) → NamesItem count blocks k → slice_get items k ≡ Some item → is_settled item.progress ≡ true

-- The change leaves the items from place `start` to before place `end` as they are.
abbrev pub IsLeftBetween : Change → ℕ → ℕ → List Item → Type 0
IsLeftBetween change start end items = (k : ℕ) (item : Item) → start ≤ k → k < end → slice_get items k ≡ Some item → progress_changed change item.progress ≡ item.progress
