-- Messages that are marked as spent: they were read in an earlier association, and no piece of them
-- is sent again.
use Rattle.std.specs.Prelude.{◌≡◌, ◌≢◌, ◌==◌, ℕ, true, if◌then◌else◌, Some, List, [], ◌∷◌, length, ◌<◌, zero, suc, Bool, false}
use Rattle.dcsctp_spec.specs.types.queues.SendStreams.{Waiting, Stream, stream_at}
use Rattle.dcsctp_delivery_directions.specs.sending.Places.{at_place}
use Rattle.dcsctp_spec.specs.queues.SendQueue.{SendQueueState}
use Rattle.std.specs.List.{AllByRecursion}
use Rattle.dcsctp_delivery_directions.specs.sending.Log.{Fits, Message}
use Rattle.dcsctp_delivery_directions.specs.sending.Queueing.{QueueWaits}

-- None of these is the message of this place.
abbrev pub NoneNamed : ℕ → List Waiting → Type 0
NoneNamed place [] = Unit {0}
NoneNamed place (waiting ∷ others) = (waiting.message_id ≢ place) × NoneNamed place others

-- So it is on each stream.
abbrev pub WaitsNoLonger : ℕ → List Stream → Type 0
WaitsNoLonger place streams = (q : ℕ) → NoneNamed place (stream_at streams q).messages

-- the messages that were queued, with that of this place marked
abbrev pub message_marked_spent : ℕ → List Message → List Message
message_marked_spent place [] = []
message_marked_spent place (message ∷ earlier) = if place == length earlier then record message { is_spent = true } ∷ earlier else message ∷ message_marked_spent place earlier

-- The message of a place that waits no longer may be marked where an association begins.
abbrev pub MarkingKeeps : Type 0
MarkingKeeps = (queued : List Message) (place : ℕ) (queue : SendQueueState) → WaitsNoLonger place queue.streams → QueueWaits queued queue → QueueWaits (message_marked_spent place queued) queue

-- It is spent then,
abbrev pub MarkedIsSpent : Type 0
MarkedIsSpent = (place : ℕ) (queued : List Message) (message : Message) → at_place place (message_marked_spent place queued) ≡ Some message → message.is_spent ≡ true

-- and all messages still fit.
abbrev pub MarkingFits : Type 0
MarkingFits = (place : ℕ) (queued : List Message) → AllByRecursion Fits queued → AllByRecursion Fits (message_marked_spent place queued)

-- ---- all that no longer waits is marked

-- Does the message of this place wait here?
abbrev pub is_place_waiting : ℕ → List Waiting → Bool
is_place_waiting place [] = false
is_place_waiting place (waiting ∷ others) = if waiting.message_id == place then true else is_place_waiting place others

-- or on any stream?
abbrev pub is_waiting_on_streams : ℕ → List Stream → Bool
is_waiting_on_streams place [] = false
is_waiting_on_streams place (stream ∷ streams) = if is_place_waiting place stream.messages then true else is_waiting_on_streams place streams

-- the messages that were queued, with each of the first ones marked that no longer waits
abbrev pub all_marked : ℕ → List Stream → List Message → List Message
all_marked zero streams queued = queued
all_marked (suc count) streams queued = if is_waiting_on_streams count streams then all_marked count streams queued else message_marked_spent count (all_marked count streams queued)

-- The same message, which may be marked.
pub record IsMarkOf (mark message : Message) : Type 0 where
  pub stream : mark.stream ≡ message.stream
  pub ppid : mark.ppid ≡ message.ppid
  pub unordered : mark.is_unordered ≡ message.is_unordered
  pub payload : mark.payload ≡ message.payload
  pub limited : mark.is_limited ≡ message.is_limited
  pub kept : message.is_spent ≡ true → mark.is_spent ≡ true

-- The message at a place of the one list is such a one.
pub record FindsMarked (mark : Message) (queued : List Message) (place : ℕ) : Type 0 where
  pub message : Message
  pub at : at_place place queued ≡ Some message
  pub is : IsMarkOf mark message

-- These are the same messages, of which more may be marked.
pub record AreMarked (marks queued : List Message) : Type 0 where
  pub size : length marks ≡ length queued
  pub finds : (place : ℕ) (mark : Message) → at_place place marks ≡ Some mark → FindsMarked mark queued place

-- The message of this place is marked, if one was queued.
abbrev pub IsMarked : ℕ → List Message → Type 0
IsMarked place queued = (message : Message) → at_place place queued ≡ Some message → message.is_spent ≡ true

abbrev pub AllMarkedKeep : Type 0
AllMarkedKeep = (count : ℕ) (queued : List Message) (queue : SendQueueState) → QueueWaits queued queue → QueueWaits (all_marked count queue.streams queued) queue

abbrev pub AllMarkedFit : Type 0
AllMarkedFit = (count : ℕ) (streams : List Stream) (queued : List Message) → AllByRecursion Fits queued → AllByRecursion Fits (all_marked count streams queued)

abbrev pub AllAreMarked : Type 0
AllAreMarked = (count : ℕ) (streams : List Stream) (queued : List Message) → AreMarked (all_marked count streams queued) queued

abbrev pub GoneAreMarked : Type 0
GoneAreMarked = (count place : ℕ) (streams : List Stream) (queued : List Message) → place < count → WaitsNoLonger place streams → IsMarked place (all_marked count streams queued)
