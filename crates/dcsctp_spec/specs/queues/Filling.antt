-- How a packet is filled: which items are sent again, which are abandoned, which are new, and which
-- events this causes (RFC 9260, section 6.1; RFC 3758, section 3.5).
use Rattle.std.specs.Prelude.{◌≡◌, ◌⊎◌, ◌+◌, ◌-◌, ◌*◌, ◌/◌, ◌^◌, ◌<◌, ◌≤◌, min, ℕ, Bool, true, false, Option, None, Some, List, [], ◌∷◌, ◌++◌, length, slice_get}
use Rattle.dcsctp_types.specs.declared.progress.Change.TheVariants.{SendAgain, Abandon}
use Rattle.dcsctp_spec.specs.endpoint.Event.{Event, lifecycle_message_maybe_expired, lifecycle_end}
use Rattle.dcsctp_spec.specs.queues.ItemMessages.{AreMessageItems, DropsRest, item_stage}
use Rattle.dcsctp_spec.specs.queues.Items.{Item, item_size, marked_items, changed_between}
use Rattle.dcsctp_spec.specs.queues.NextItem.{IsNextMarked, Halts, is_abandonment_due}
use Rattle.dcsctp_spec.specs.queues.Outstanding.{OutstandingState, header, tsn_at, next_tsn}
use Rattle.dcsctp_types.specs.queues.Progress.{just_sent}
use Rattle.dcsctp_types.specs.Sizes.{greatest_padded_length, word_size}
use Rattle.dcsctp_spec.specs.queues.Retransmission.{RetransmissionState, can_send, with_items, timer_with, counted_again}
use Rattle.dcsctp_spec.specs.queues.SendQueue.{SendQueueState}
use Rattle.dcsctp_spec.specs.queues.Sending.{TakesFragment, TakesNone}

-- what changes while a packet is filled
pub record Stage : Type 0 where
  pub queue : RetransmissionState
  -- what waits in the send queue
  pub waiting : SendQueueState
  -- the events so far
  pub told : List (Event (List ℕ))
  -- the TSNs in the packet, and the bytes that are left there
  pub tsns : List ℕ
  pub room : ℕ

-- ---- what is abandoned

-- the events about a message that was fully sent, and is abandoned: the peer may have it
abbrev pub maybe_expired : Option ℕ → List (Event (List ℕ))
maybe_expired None = []
maybe_expired (Some id) = lifecycle_message_maybe_expired id ∷ lifecycle_end id ∷ []

-- What waits of the message of that last item is dropped.
pub record DropsRestOfMessage (now : ℕ) (last : Item) (old new : Stage) : Type 0 where
  pub outstanding : OutstandingState
  pub drops : DropsRest now old.queue.reset_begun last (item_stage old.queue.outstanding old.waiting old.told) (item_stage outstanding new.waiting new.told)
  pub is : new ≡ record old { queue = record old.queue { outstanding = outstanding }; waiting = new.waiting; told = new.told }

-- A message that was fully sent is reported as abandoned. Of another, what waits is dropped, if TSNs are left.
abbrev pub ClosesMessage : ℕ → Item → Stage → Stage → Bool → Type 0
ClosesMessage now last old new true = new ≡ record old { told = old.told ++ maybe_expired last.fragment.lifecycle }
ClosesMessage now last old new false =
    ((length old.queue.outstanding.items + 1 < 2 ^ 31) × DropsRestOfMessage now last old new)
    ⊎ ((2 ^ 31 ≤ length old.queue.outstanding.items + 1) × (new ≡ old))

-- The message of the item at this place is abandoned.
pub record GivesUpItem (now place : ℕ) (old new : Stage) : Type 0 where
  pub start : ℕ
  pub last_place : ℕ
  pub message : AreMessageItems place start (last_place + 1) old.queue.outstanding.items
  pub last : Item
  pub at : slice_get old.queue.outstanding.items last_place ≡ Some last
  pub closed : Stage
  pub closes : ClosesMessage now last old closed last.fragment.is_end
  pub is : new ≡ record closed { queue = with_items (changed_between Abandon start (last_place + 1) closed.queue.outstanding.items) closed.queue }

-- ---- the steps

-- The first item that waits to be sent again isn't due to be abandoned, and is sent.
pub record SendsMarked (now : ℕ) (old new : Stage) : Type 0 where
  pub place : ℕ
  pub next : IsNextMarked place old.queue.outstanding.items
  pub stays : is_abandonment_due now old.queue.partial_reliability next.marked.item ≡ false
  pub fits : item_size (header old.queue.outstanding) next.marked.item ≤ old.room
  pub is : new ≡ record old {
    queue = with_items (changed_between (SendAgain (next_tsn old.queue.outstanding)) place (place + 1) old.queue.outstanding.items) old.queue;
    tsns = old.tsns ++ tsn_at old.queue.outstanding place ∷ [];
    room = old.room - item_size (header old.queue.outstanding) next.marked.item;
  }

-- The first item that waits to be sent again is due to be abandoned, and is.
pub record GivesUpMarked (now : ℕ) (old new : Stage) : Type 0 where
  pub place : ℕ
  pub next : IsNextMarked place old.queue.outstanding.items
  pub due : is_abandonment_due now old.queue.partial_reliability next.marked.item ≡ true
  pub gives_up : GivesUpItem now place old new

-- the greatest payload of a chunk with this header that fits into that much room (RFC 9260, section 3.2)
abbrev pub payload_room : ℕ → ℕ → ℕ
payload_room header room = (min room greatest_padded_length - header) / 4 * 4

-- It is sent for the first time at this moment.
pub record IsSentFirstNow (now : ℕ) (item : Item) : Type 0 where
  pub progress : item.progress ≡ just_sent
  pub sent_at : item.sent_at ≡ now

-- A new item is sent, with what the send queue gives.
pub record SendsNew (now : ℕ) (old new : Stage) : Type 0 where
  pub item : Item
  pub is_fresh : IsSentFirstNow now item
  pub begins : item.begins_after_reset ≡ old.queue.reset_begun
  pub takes : TakesFragment now (payload_room (header old.queue.outstanding) old.room) old.waiting old.told item.fragment new.waiting new.told
  pub is : new ≡ record old {
    queue = record old.queue { outstanding = record old.queue.outstanding { items = old.queue.outstanding.items ++ item ∷ [] }; reset_begun = false };
    waiting = new.waiting;
    told = new.told;
    tsns = old.tsns ++ next_tsn old.queue.outstanding ∷ [];
    room = old.room - item_size (header old.queue.outstanding) item;
  }

-- The send queue gives nothing.
pub record FindsNone (now : ℕ) (old new : Stage) : Type 0 where
  pub takes : TakesNone now old.waiting old.told new.waiting new.told
  pub is : new ≡ record old { waiting = new.waiting; told = new.told }

-- What waits to be sent again is sent if the windows allow, or is abandoned.
abbrev pub StepAgain : ℕ → Stage → Stage → Type 0
StepAgain now old new = ((can_send old.queue ≡ true) × SendsMarked now old new) ⊎ GivesUpMarked now old new

-- A new chunk may go: the windows allow it, none waits to be sent again, a word of payload fits, and a TSN that can be compared
-- with those outstanding is left.
pub record MayAdd (stage : Stage) : Type 0 where
  pub allowed : can_send stage.queue ≡ true
  pub none_marked : marked_items stage.queue.outstanding.items ≡ 0
  pub fits : header stage.queue.outstanding + word_size ≤ stage.room
  pub comparable : length stage.queue.outstanding.items + 1 < 2 ^ 31

abbrev pub StepNew : ℕ → Stage → Stage → Type 0
StepNew now old new = MayAdd old × (SendsNew now old new ⊎ FindsNone now old new)

-- some such steps, one after the other
pub data StageSteps (Step : Stage → Stage → Type 0) (old : Stage) : Stage → Type 0 where
  none : StageSteps Step old old
  more : (between new : Stage) → StageSteps Step old between → Step between new → StageSteps Step old new

-- ---- the whole

-- The packet that had that much room is counted, if it has chunks that were sent again.
abbrev pub resent_packet_counted : ℕ → Stage → Stage
resent_packet_counted room old = record old { queue = counted_again (room - old.room) old.queue }

-- First goes what waits to be sent again, and then what is new.
pub record FillsStage (now : ℕ) (old new : Stage) : Type 0 where
  pub resent : Stage
  pub again : StageSteps (StepAgain now) old resent
  pub anew : StageSteps (StepNew now) (resent_packet_counted old.room resent) new

-- The same, as far as possible: then the timer runs while something is outstanding (RFC 9260, section 6.3.2).
pub record FillsPacket (now : ℕ) (old new : Stage) : Type 0 where
  pub sent : Stage
  pub fills : FillsStage now old sent
  pub halts : Halts now sent.room sent.queue sent.waiting
  pub is : new ≡ record sent { queue = record sent.queue { timer = timer_with now sent.queue.outstanding.items sent.queue.timer } }
