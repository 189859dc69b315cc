-- What a user queues waits after the rest, under the next identifier; it outlasts settings, resets
-- and associations.
use Rattle.std.specs.Prelude.{◌≡◌, ◌<◌, ◌+◌, ◌*◌, ◌^◌, ◌||◌, is_some, ℕ, Bool, false, List, if◌then◌else◌, ◌∷◌, length}
use Rattle.std.specs.List.{AllByRecursion}
use Rattle.dcsctp_spec.specs.types.declared.message.SendOptions.{SendOptions}
use Rattle.dcsctp_spec.specs.types.queues.SendStreams.{Stream}
use Rattle.dcsctp_spec.specs.queues.SendQueue.{SendQueueState, queue_restarted}
use Rattle.dcsctp_spec.specs.queues.OwnResets.{prepared_all, queue_committed, queue_rolled_back}
use Rattle.dcsctp_spec.specs.types.Setting.{Setting, stream_priority, stream_low_threshold, longest_message}
use Rattle.dcsctp_spec.specs.endpoint.SettingOutcomes.{set_in_queue}
use Rattle.dcsctp_spec.specs.endpoint.MessageOutcomes.{Sending, sending_queued}
use Rattle.dcsctp_delivery_directions.specs.sending.Log.{Message, IsLogOfPieces, History, new_history}
use Rattle.dcsctp_delivery_directions.specs.sending.Numbers.{stream_named, is_handed_out, NumbersMessages}
use Rattle.dcsctp_delivery_directions.specs.sending.Pieces.{HoldsQueued}

-- May a message with these options be abandoned (RFC 3758)?
abbrev pub has_limits : SendOptions → Bool
has_limits options = is_some options.lifetime || is_some options.max_retransmissions

-- the message of a call
abbrev pub message_of : Sending → Message
message_of sending =
    record { stream = sending.message.stream; ppid = sending.message.ppid; is_unordered = sending.options.unordered; payload = sending.message.payload; is_spent = false; is_limited = has_limits sending.options }

-- The queue holds messages that were queued, and its next identifier counts them.
pub record QueueHolds (queued : List Message) (history : History) (queue : SendQueueState) : Type 0 where
  pub queue_holds : HoldsQueued queued history.log queue.streams
  pub next : queue.next_message_id ≡ length queued
  pub numbers : NumbersMessages history queue

-- So it is where an association begins, with some floors.
pub record QueueWaits (queued : List Message) (queue : SendQueueState) : Type 0 where
  pub floors : ℕ → Bool → ℕ
  pub holds : QueueHolds queued (new_history floors) queue

-- A message that is queued is one more.
abbrev pub QueueingKeeps : Type 0
QueueingKeeps =
    (queued : List Message) (history : History) (now : ℕ) (sending : Sending) (queue : SendQueueState) → sending.message.stream < 2 ^ 16 → length queued + 1 < 2 ^ 64 → 0 < length sending.message.payload
    → IsLogOfPieces queued history.log → QueueHolds queued history queue → QueueHolds (message_of sending ∷ queued) history (sending_queued now sending queue)

-- In another association no TSN was assigned yet. What was under way is the rest of a message,
abbrev pub KeptQueuesHold : Type 0
KeptQueuesHold = (queued : List Message) (history : History) (queue : SendQueueState) → QueueHolds queued history queue → QueueWaits queued queue

-- or is put back.
abbrev pub RestartedQueuesHold : Type 0
RestartedQueuesHold = (queued : List Message) (history : History) (queue : SendQueueState) → QueueHolds queued history queue → QueueWaits queued (queue_restarted queue)

-- A setting of a stream names it by 16 bits.
abbrev pub SettingFits : Setting → Type 0
SettingFits (stream_priority id priority) = id < 2 ^ 16
SettingFits (stream_low_threshold id bytes) = id < 2 ^ 16
SettingFits (longest_message bytes) = Unit {0}

-- What a user sets leaves it so,
abbrev pub SettingKeeps : Type 0
SettingKeeps = (queued : List Message) (history : History) (setting : Setting) (queue : SendQueueState) → SettingFits setting → QueueHolds queued history queue → QueueHolds queued history (set_in_queue setting queue)

-- so do streams that are prepared to be reset,
abbrev pub PreparingKeeps : Type 0
PreparingKeeps = (queued : List Message) (history : History) (ids : List ℕ) (queue : SendQueueState) → AllByRecursion (λ id. id < 2 ^ 16) ids → QueueHolds queued history queue → QueueHolds queued history (prepared_all ids queue)

-- the floors once the streams that are handed out were reset: each a multiple of 2^32 that is above all numbers so far
abbrev pub floors_raised : List Stream → History → History
floors_raised streams history =
    record history {
      floors = λ id is_unordered.
          if is_handed_out (stream_named id streams).pause then 2 ^ 32 * (history.floors id is_unordered + length history.log + 1) else history.floors id is_unordered;
    }

-- a reset that was performed,
abbrev pub CommittingKeeps : Type 0
CommittingKeeps =
    (queued : List Message) (history : History) (queue : SendQueueState) → QueueHolds queued history queue
    → QueueHolds queued (floors_raised queue.streams history) (queue_committed queue)

-- and one that was not.
abbrev pub RollingBackKeeps : Type 0
RollingBackKeeps = (queued : List Message) (history : History) (queue : SendQueueState) → QueueHolds queued history queue → QueueHolds queued history (queue_rolled_back queue)
