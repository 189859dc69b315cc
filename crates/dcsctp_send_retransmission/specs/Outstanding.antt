-- What is kept beside the items of consecutive TSNs, and how items come (RFC 9260, section 6.1).
use Rattle.std.specs.Prelude.{◌≡◌, ◌⊎◌, Result, Ok, Err, ℕ, ◌^◌, ◌<◌, ◌≤◌, min, max, Bool, false, Option, None, Some, List, [], ◌∷◌, ◌++◌, length, slice_get, if◌then◌else◌}
use Rattle.std.specs.List.{AllByRecursion}
use Rattle.std.specs.declared.alloc.AllocError.{AllocError}
use Rattle.dcsctp_api.specs.spec.queues.Items.{Item, bytes_in_flight, unacknowledged_bytes, unacknowledged_items, never_acknowledged_items, marked_items}
use Rattle.dcsctp_send_retransmission.specs.declared.named_places.NamedPlaces.{NamedPlaces}
use Rattle.dcsctp_api.specs.types.declared.progress.Change.{Change}
use Rattle.dcsctp_api.specs.types.declared.progress.Change.TheVariants.{SendAgain, Miss, Mark, Acknowledge, Abandon}
use Rattle.dcsctp_api.specs.types.declared.progress.ItemState.TheVariants.{Abandoned}
use Rattle.dcsctp_send_retransmission.specs.declared.totals.Totals.{Totals}
use Rattle.dcsctp_send_retransmission.specs.NamedPlaces.{AreSettled}
use Rattle.dcsctp_api.specs.spec.queues.Outstanding.{OutstandingState, header_of, tsn_at, next_tsn, distance_to, acknowledged_count}
use Rattle.dcsctp_api.specs.types.queues.Progress.{just_sent, is_marked}
use Rattle.dcsctp_api.specs.spec.queues.NextItem.{NoneMarkedBefore, IsMarkedItem}
use Rattle.dcsctp_api.specs.spec.Soundness.{HasBytes}

-- The TSN of each item leads to its place.
abbrev pub FindsPlaces : OutstandingState → Type 0
FindsPlaces outstanding = (place : ℕ) → place < length outstanding.items → distance_to outstanding (tsn_at outstanding place) ≡ place

-- The cumulative TSN is that of an item, or the one before the first.
abbrev pub was_sent : OutstandingState → ℕ → Type 0
was_sent outstanding cumulative = acknowledged_count outstanding cumulative ≤ length outstanding.items

-- the sums are those of the items
pub record IsSummed (header : ℕ) (items : List Item) (totals : Totals) : Type 0 where
  pub in_flight : totals.in_flight_bytes ≡ bytes_in_flight header items
  pub bytes : totals.unacknowledged_bytes ≡ unacknowledged_bytes header items
  pub count : totals.unacknowledged_items ≡ unacknowledged_items items
  pub never : totals.never_acknowledged_items ≡ never_acknowledged_items items
  pub marked : totals.marked_items ≡ marked_items items

-- no item from this place on and before that one waits to be sent again
abbrev pub NoneMarkedBetween : ℕ → ℕ → List Item → Type 0
NoneMarkedBetween start end items = (k : ℕ) (item : Item) → start ≤ k → k < end → slice_get items k ≡ Some item → is_marked item.progress.state ≡ false

pub record AreItemsKept (is_interleaved : Bool) (cursor : ℕ) (items : List Item) (totals : Totals) (named : NamedPlaces) : Type 0 where
  -- TSNs can be compared (RFC 9260, section 1.6)
  pub few : length items < 2 ^ 31
  pub sums : IsSummed (header_of is_interleaved) items totals
  pub scanned : NoneMarkedBefore cursor items
  pub settled : AreSettled named items
  pub bytes : AllByRecursion HasBytes items

-- The change leaves what is abandoned so: it isn't that an item is sent again.
abbrev pub KeepsAbandoned : Change → Type 0
KeepsAbandoned (SendAgain next) = ⊥
KeepsAbandoned (Miss newest) = Unit {0}
KeepsAbandoned Mark = Unit {0}
KeepsAbandoned Acknowledge = Unit {0}
KeepsAbandoned Abandon = Unit {0}

-- Only an item that waits for it is sent again.
abbrev pub MayChange : Change → ℕ → List Item → Type 0
MayChange (SendAgain next) place items = IsMarkedItem place items
MayChange (Miss newest) place items = Unit {0}
MayChange Mark place items = Unit {0}
MayChange Acknowledge place items = Unit {0}
MayChange Abandon place items = Unit {0}

-- the place before which no item is marked, once the state of one was changed
abbrev pub cursor_after : Bool → ℕ → ℕ → ℕ
cursor_after is_marked place cursor = if is_marked then min cursor place else cursor

-- the later of two places
abbrev pub later_of : Option ℕ → Option ℕ → Option ℕ
later_of None other = other
later_of (Some place) None = Some place
later_of (Some place) (Some other) = Some (max place other)

-- An item that is sent for the first time: its payload isn't empty, and not above `max` bytes.
pub record IsSentFirst (now max : ℕ) (item : Item) : Type 0 where
  pub progress : item.progress ≡ just_sent
  pub sent_at : item.sent_at ≡ now
  pub some : 0 < length item.fragment.payload
  pub at_most : length item.fragment.payload ≤ max

-- the next TSN goes to such an item
pub record SendsNext (now max : ℕ) (old new : OutstandingState) (tsn : ℕ) : Type 0 where
  pub item : Item
  pub is_first : IsSentFirst now max item
  pub grows : new ≡ record old { items = old.items ++ item ∷ [] }
  pub tsn_is : tsn ≡ next_tsn old

-- what a try to send a new item may do
abbrev pub TriesNext : ℕ → ℕ → OutstandingState → OutstandingState → Result (Option ℕ) AllocError → Type 0
TriesNext now max old new (Ok None) = new ≡ old
TriesNext now max old new (Ok (Some tsn)) = SendsNext now max old new tsn
TriesNext now max old new (Err error) = new ≡ old

-- Nothing changes, or an abandoned item is added as the end of a message.
pub record AddsEnd (old new : OutstandingState) : Type 0 where
  pub item : Item
  pub is_abandoned : item.progress.state ≡ Abandoned
  pub grows : new ≡ record old { items = old.items ++ item ∷ [] }

abbrev pub MayAddEnd : OutstandingState → OutstandingState → Type 0
MayAddEnd old new = (new ≡ old) ⊎ AddsEnd old new
