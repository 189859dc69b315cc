-- Which item is sent again next, and when no new one can be sent.
use Rattle.std.specs.Prelude.{◌≡◌, ◌⊎◌, ◌+◌, ◌^◌, ◌<◌, ◌≤◌, ◌&&◌, ◌||◌, nat_lt, nat_le, ℕ, Bool, true, false, Option, None, Some, List, [], length, slice_get}
use Rattle.dcsctp_types.specs.declared.ids.StreamId.{StreamId}
use Rattle.dcsctp_spec.specs.queues.Items.{Item, item_size, marked_items}
use Rattle.dcsctp_spec.specs.queues.Outstanding.{OutstandingState, header}
use Rattle.dcsctp_types.specs.queues.Progress.{is_marked}
use Rattle.dcsctp_types.specs.Sizes.{word_size}
use Rattle.dcsctp_spec.specs.queues.Retransmission.{RetransmissionState, can_send}
use Rattle.dcsctp_spec.specs.queues.SendQueue.{SendQueueState}
use Rattle.dcsctp_types.specs.queues.SendStreams.{Waiting, Stream, front_of, stream_at, turns_of}

-- no item before this place waits to be sent again
abbrev pub NoneMarkedBefore : ℕ → List Item → Type 0
NoneMarkedBefore place items = (k : ℕ) (item : Item) → k < place → slice_get items k ≡ Some item → is_marked item.progress.state ≡ false

-- the item at this place waits to be sent again
pub record IsMarkedItem (place : ℕ) (items : List Item) : Type 0 where
  pub within : place < length items
  pub item : Item
  pub at : slice_get items place ≡ Some item
  pub is : is_marked item.progress.state ≡ true

-- The item at this place is the first that waits to be sent again.
pub record IsNextMarked (place : ℕ) (items : List Item) : Type 0 where
  pub marked : IsMarkedItem place items
  pub first : NoneMarkedBefore place items

-- ---- a message that is to be abandoned

-- was it sent again as often as it may be?
abbrev pub is_used_up : Option ℕ → ℕ → Bool
is_used_up None times = false
is_used_up (Some limit) times = nat_le limit times

-- is its lifetime over?
abbrev pub is_over : Option ℕ → ℕ → Bool
is_over None now = false
is_over (Some moment) now = nat_lt moment now

-- Is the message of the item to be abandoned, if partial reliability was negotiated? The item was lost, and its message may not
-- be sent again.
abbrev pub is_abandonment_due : ℕ → Bool → Item → Bool
is_abandonment_due now negotiated item =
    negotiated && is_marked item.progress.state
    && (is_used_up item.fragment.max_retransmissions item.progress.times_sent_again || is_over item.fragment.expires_at now)

-- The first item that waits to be sent again isn't due to be abandoned.
pub record FirstStays (now : ℕ) (queue : RetransmissionState) : Type 0 where
  pub place : ℕ
  pub next : IsNextMarked place queue.outstanding.items
  pub stays : is_abandonment_due now queue.partial_reliability next.marked.item ≡ false

-- ---- a send queue that gives nothing

-- No stream is held, and none has a turn.
pub record HasNone (waiting : SendQueueState) : Type 0 where
  pub idle : waiting.held ≡ None
  pub none_left : turns_of waiting.streams ≡ []

-- The stream that is held has a message.
pub record HasHeldMessage (streams : List Stream) (held : StreamId) : Type 0 where
  pub place : ℕ
  pub within : place < length streams
  pub is : (stream_at streams place).id ≡ held.0
  pub message : Waiting
  pub front : front_of (stream_at streams place).messages ≡ Some message

-- The stream that is held has no message. No call leads there.
abbrev pub IsStuck : Option StreamId → List Stream → Type 0
IsStuck None streams = ⊥
IsStuck (Some held) streams = HasHeldMessage streams held → ⊥

-- None can be taken from it.
abbrev pub GivesNone : SendQueueState → Type 0
GivesNone waiting = HasNone waiting ⊎ IsStuck waiting.held waiting.streams

-- ---- why nothing more goes into a packet

-- The first item that waits to be sent again is longer than the room.
pub record WaitsForRoom (room : ℕ) (outstanding : OutstandingState) : Type 0 where
  pub place : ℕ
  pub next : IsNextMarked place outstanding.items
  pub item : Item
  pub at : slice_get outstanding.items place ≡ Some item
  pub longer : room < item_size (header outstanding) item

-- Why none of the chunks that wait is sent again: the first isn't due to be abandoned, and the windows don't allow it or it doesn't
-- fit.
abbrev pub HoldsBack : ℕ → ℕ → RetransmissionState → Type 0
HoldsBack now room queue = FirstStays now queue × ((can_send queue ≡ false) ⊎ WaitsForRoom room queue.outstanding)

-- Why no chunk is sent again: none waits for it, or they are held back.
abbrev pub HaltsAgain : ℕ → ℕ → RetransmissionState → Type 0
HaltsAgain now room queue = (marked_items queue.outstanding.items ≡ 0) ⊎ HoldsBack now room queue

-- Why no new chunk is sent. The windows don't allow it, no word of payload fits, all comparable TSNs are in use, or the send
-- queue gives none.
abbrev pub HaltsNew : ℕ → RetransmissionState → SendQueueState → Type 0
HaltsNew room queue waiting =
    (can_send queue ≡ false) ⊎ ((room < header queue.outstanding + word_size) ⊎ ((2 ^ 31 ≤ length queue.outstanding.items + 1) ⊎ GivesNone waiting))

-- Why nothing more goes into a packet with that much room. New chunks go after all that are sent again.
abbrev pub Halts : ℕ → ℕ → RetransmissionState → SendQueueState → Type 0
Halts now room queue waiting = HoldsBack now room queue ⊎ ((marked_items queue.outstanding.items ≡ 0) × HaltsNew room queue waiting)
