-- The items of one message, and what it is to drop the rest of it (RFC 3758, section 3.5).
use Rattle.std.specs.Prelude.{◌≡◌, ◌+◌, ◌%◌, ◌^◌, ◌<◌, ◌≤◌, ℕ, Bool, true, false, None, Some, List, [], ◌∷◌, ◌++◌, length, slice_get}
use Rattle.dcsctp_types.specs.declared.progress.ItemState.TheVariants.{Abandoned}
use Rattle.dcsctp_spec.specs.endpoint.Event.{Event}
use Rattle.dcsctp_spec.specs.queues.Items.{Item}
use Rattle.dcsctp_spec.specs.queues.Outstanding.{OutstandingState}
use Rattle.dcsctp_types.specs.queues.Progress.{just_sent}
use Rattle.dcsctp_spec.specs.queues.SendQueue.{SendQueueState}
use Rattle.dcsctp_spec.specs.queues.Sending.{DiscardsNamed}

-- it holds of the item at this place
abbrev pub AtPlace : List Item → ℕ → (Item → Type 0) → Type 0
AtPlace items place P = (item : Item) → slice_get items place ≡ Some item → P item

-- the row of items with the same message as the one at this place begins there
pub record StartsMessage (place start : ℕ) (items : List Item) : Type 0 where
  pub from : start ≤ place
  pub same : (k : ℕ) (item own : Item) → start ≤ k → k ≤ place → slice_get items k ≡ Some item → slice_get items place ≡ Some own
      → item.fragment.message_id ≡ own.fragment.message_id
  pub other : (k : ℕ) (item own : Item) → k + 1 ≡ start → slice_get items k ≡ Some item → slice_get items place ≡ Some own
      → (item.fragment.message_id ≡ own.fragment.message_id → ⊥)

-- it ends before this place
pub record EndsMessage (place end : ℕ) (items : List Item) : Type 0 where
  pub to : place < end
  pub within : end ≤ length items
  pub same : (k : ℕ) (item own : Item) → place ≤ k → k < end → slice_get items k ≡ Some item → slice_get items place ≡ Some own
      → item.fragment.message_id ≡ own.fragment.message_id
  pub other : (item own : Item) → slice_get items end ≡ Some item → slice_get items place ≡ Some own
      → (item.fragment.message_id ≡ own.fragment.message_id → ⊥)

-- The items round this place that carry the same message: from `start` to before `end`.
abbrev pub AreMessageItems : ℕ → ℕ → ℕ → List Item → Type 0
AreMessageItems place start end items = StartsMessage place start items × EndsMessage place end items

-- the end of a message, whose last item is this one so far: it is abandoned, was never sent, and has no payload
pub record IsEndOf (now : ℕ) (begins : Bool) (last item : Item) : Type 0 where
  pub progress : item.progress ≡ record just_sent { state = Abandoned }
  pub sent_at : item.sent_at ≡ now
  pub begins_after_reset : item.begins_after_reset ≡ begins
  pub is : item.fragment ≡ record last.fragment {
    fsn = (last.fragment.fsn + 1) % 2 ^ 32;
    is_beginning = false;
    is_end = true;
    payload = [];
    lifecycle = None;
  }

-- one more item, which is the end of the message
pub record AddsEndOf (now : ℕ) (begins : Bool) (last : Item) (old new : OutstandingState) : Type 0 where
  pub item : Item
  pub is_end : IsEndOf now begins last item
  pub grows : new ≡ record old { items = old.items ++ item ∷ [] }

-- the end is added where something of the message was dropped
abbrev pub EndsDropped : ℕ → Bool → Item → OutstandingState → OutstandingState → Bool → Type 0
EndsDropped now begins last old new true = AddsEndOf now begins last old new
EndsDropped now begins last old new false = new ≡ old

-- what changes while one item is added: what is outstanding, what waits in the send queue, and the events so far
pub record ItemStage : Type 0 where
  pub outstanding : OutstandingState
  pub waiting : SendQueueState
  pub events : List (Event (List ℕ))

abbrev pub item_stage : OutstandingState → SendQueueState → List (Event (List ℕ)) → ItemStage
item_stage outstanding waiting events = record { outstanding = outstanding; waiting = waiting; events = events }

-- What waits of the message in the send queue is dropped. If the flag is set, streams were reset since the last item was added:
-- the end of the message lies after the reset.
pub record DropsRest (now : ℕ) (begins : Bool) (last : Item) (old new : ItemStage) : Type 0 where
  pub is_dropped : Bool
  pub drops : DiscardsNamed old.waiting last.fragment.stream last.fragment.message_id old.events is_dropped new.waiting new.events
  pub ends : EndsDropped now begins last old.outstanding new.outstanding is_dropped
