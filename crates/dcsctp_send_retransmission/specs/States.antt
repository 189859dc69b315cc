-- How a packet is filled: which items are sent again, which are abandoned, which are new, and the events (RFC 9260, section 6.1;
-- RFC 3758, section 3.5).
use Rattle.std.specs.Prelude.{Result, Vec, ◌≡◌, ◌⊎◌, ◌+◌, ◌-◌, ◌^◌, ◌<◌, ◌≤◌, ℕ, Bool, true, false, Some, List, [], ◌∷◌, ◌++◌, length, slice_get}
use Rattle.std.specs.declared.alloc.AllocError.{AllocError}
use Rattle.std.specs.declared.alloc.Global.{Global}
use Rattle.dcsctp_api.specs.types.ByResult.{ByResult}
use Rattle.dcsctp_api.specs.declared.events.SocketEvent.{SocketEvent}
use Rattle.dcsctp_api.specs.spec.endpoint.Event.{Event}
use Rattle.dcsctp_api.specs.spec.queues.SendQueue.{SendQueueState}
use Rattle.dcsctp_send_queue.specs.Calls.{StopsTaking, StopsDiscarding}
use Rattle.dcsctp_send_queue.specs.Telling.{contents, AddsFront}
use Rattle.dcsctp_api.specs.spec.queues.Items.{Item, item_size, changed_between}
use Rattle.dcsctp_send_retransmission.specs.declared.packet.Packet.{Packet}
use Rattle.dcsctp_api.specs.types.declared.progress.Change.TheVariants.{SendAgain}
use Rattle.dcsctp_api.specs.spec.queues.Outstanding.{header, tsn_at, next_tsn}
use Rattle.dcsctp_api.specs.spec.queues.Filling.{Stage, maybe_expired, payload_room, SendsMarked, StepAgain, MayAdd, StepNew, StageSteps, resent_packet_counted, FillsStage}
use Rattle.dcsctp_api.specs.spec.queues.NextItem.{is_abandonment_due, IsNextMarked}
use Rattle.dcsctp_api.specs.spec.queues.ItemMessages.{EndsMessage}
use Rattle.dcsctp_api.specs.spec.queues.Retransmission.{RetransmissionState, with_items, timer_with}
use Rattle.dcsctp_api.specs.spec.queues.AtOnce.{SendsAtOnce}

-- what a packet begins with, as it lies in memory
abbrev pub stage : RetransmissionState → SendQueueState → List SocketEvent → List ℕ → ℕ → Stage
stage queue waiting events tsns room = record { queue = queue; waiting = waiting; told = contents events; tsns = tsns; room = room }

-- The events if an allocation fails for abandoning a message whose last item is this one: the first part of all. What waits of it
-- is dropped only if TSNs are left.
abbrev pub RefusesClosing : List Item → Item → SendQueueState → List (Event (List ℕ)) → List (Event (List ℕ)) → Bool → Type 0
RefusesClosing items last waiting told telling true = AddsFront told (maybe_expired last.fragment.lifecycle) telling
RefusesClosing items last waiting told telling false =
    (telling ≡ told) ⊎ ((length items + 1 < 2 ^ 31) × StopsDiscarding waiting last.fragment.stream last.fragment.message_id told telling)

-- An allocation fails for abandoning the message of the item at this place.
pub record RefusesAbandoningItem (place : ℕ) (items : List Item) (waiting : SendQueueState) (told telling : List (Event (List ℕ))) : Type 0 where
  pub last_place : ℕ
  pub message : EndsMessage place (last_place + 1) items
  pub last : Item
  pub at : slice_get items last_place ≡ Some last
  pub tells : RefusesClosing items last waiting told telling last.fragment.is_end

-- The first item that waits to be sent again is due to be abandoned, and an allocation fails for that.
pub record RefusesUp (now : ℕ) (at : Stage) (left : SendQueueState) (telling : List (Event (List ℕ))) : Type 0 where
  pub place : ℕ
  pub next : IsNextMarked place at.queue.outstanding.items
  pub due : is_abandonment_due now at.queue.partial_reliability next.marked.item ≡ true
  pub refused : RefusesAbandoningItem place at.queue.outstanding.items at.waiting at.told telling
  pub stays : left ≡ at.waiting

-- The send queue and the events after a further step for which an allocation failed. Nothing happened; or messages that are too
-- old to be started were dropped, and the first part of the next events was added.
abbrev pub RefusesStep : ℕ → Stage → SendQueueState → List (Event (List ℕ)) → Type 0
RefusesStep now at left telling =
    ((left ≡ at.waiting) × (telling ≡ at.told))
    ⊎ (RefusesUp now at left telling
    ⊎ (MayAdd at × StopsTaking now (payload_room (header at.queue.outstanding) at.room) at.waiting at.told left telling))

-- After some steps an allocation fails: nothing of a further step has happened to the items.
pub record StopsBetweenSteps (now : ℕ) (Step : Stage → Stage → Type 0) (old new : Stage) : Type 0 where
  pub at : Stage
  pub steps : StageSteps Step old at
  pub queue : new.queue ≡ at.queue
  pub refused : RefusesStep now at new.waiting new.told

-- some steps, by whether an allocation failed
abbrev pub Goes : {A : Type 0} → ℕ → (Stage → Stage → Type 0) → Stage → Stage → Result A AllocError → Type 0
Goes now Step old new result = ByResult (λ done. StageSteps Step old new) (StopsBetweenSteps now Step old new) result

-- ---- the whole

-- A packet is filled up to where an allocation fails.
pub record StopsFillingNew (now : ℕ) (old new : Stage) : Type 0 where
  pub resent : Stage
  pub again : StageSteps (StepAgain now) old resent
  pub stops : StopsBetweenSteps now (StepNew now) (resent_packet_counted old.room resent) new

abbrev pub StopsFilling : ℕ → Stage → Stage → Type 0
StopsFilling now old new = StopsBetweenSteps now (StepAgain now) old new ⊎ StopsFillingNew now old new

abbrev pub GoesFilling : {A : Type 0} → ℕ → Stage → Stage → Result A AllocError → Type 0
GoesFilling now old new result = ByResult (λ done. FillsStage now old new) (StopsFilling now old new) result

-- what is in flight, what waits in the send queue, and the events so far
pub record QueueStage : Type 0 where
  pub queue : RetransmissionState
  pub waiting : SendQueueState
  pub events : List SocketEvent

abbrev pub queue_stage : RetransmissionState → SendQueueState → List SocketEvent → QueueStage
queue_stage queue waiting events = record { queue = queue; waiting = waiting; events = events }

-- A packet is filled that had that many bytes of room.
pub record FillsFromQueue (now bytes : ℕ) (old new : QueueStage) (tsns : List ℕ) : Type 0 where
  pub room : ℕ
  pub fills : FillsStage now (stage old.queue old.waiting old.events [] bytes) (stage new.queue new.waiting new.events tsns room)

-- a packet is filled by whether an allocation failed
abbrev pub TriesPacket : ℕ → ℕ → QueueStage → QueueStage → Result (Vec ℕ Global) AllocError → Type 0
TriesPacket now bytes old new result =
    ByResult (λ (tsns : Vec ℕ Global). FillsFromQueue now bytes old new tsns.items)
    (StopsFilling now (stage old.queue old.waiting old.events [] bytes) (stage new.queue new.waiting new.events [] bytes)) result

-- The same, and then the timer runs while something is outstanding.
pub record SendsPacket (now bytes : ℕ) (old new : QueueStage) (result : Result (Vec ℕ Global) AllocError) : Type 0 where
  pub sent : RetransmissionState
  pub fills : TriesPacket now bytes old (queue_stage sent new.waiting new.events) result
  pub is : new.queue ≡ record sent { timer = timer_with now sent.outstanding.items sent.timer }

-- ---- one chunk

-- What a try to send the item at this place again does, by whether it fits.
abbrev pub SendsItemAgain : ℕ → Item → RetransmissionState → Packet → RetransmissionState → Packet → Bool → Type 0
SendsItemAgain place item old before new after true =
    (item_size (header old.outstanding) item ≤ before.room)
    × (new ≡ with_items (changed_between (SendAgain (next_tsn old.outstanding)) place (place + 1) old.outstanding.items) old)
    × (after.tsns.items ≡ before.tsns.items ++ tsn_at old.outstanding place ∷ [])
    × (after.room ≡ before.room - item_size (header old.outstanding) item)
SendsItemAgain place item old before new after false = (new ≡ old) × (after.tsns.items ≡ before.tsns.items) × (after.room ≡ before.room)

-- ---- a fast retransmission (RFC 9260, section 7.2.4)

-- a fast retransmission by whether an allocation failed
abbrev pub TriesAtOnce : ℕ → ℕ → RetransmissionState → RetransmissionState → Result (Vec ℕ Global) AllocError → Type 0
TriesAtOnce now bytes old new result =
    ByResult (λ (tsns : Vec ℕ Global). (waiting : SendQueueState) → SendsAtOnce now bytes waiting old new tsns.items)
    ((waiting : SendQueueState) (events : List SocketEvent)
    → StopsBetweenSteps now (SendsMarked now) (stage (record old { fast_retransmit_due = false }) waiting events [] bytes) (stage new waiting events [] bytes))
    result
