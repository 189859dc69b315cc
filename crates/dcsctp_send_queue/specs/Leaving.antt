-- What leaves a send queue, step by step.
use Rattle.std.specs.Prelude.{◌≡◌, ◌<◌, ◌≤◌, ℕ, ◌-◌, ◌^◌, min, false, Option, None, Some, List, [], ◌++◌, length, drop, slice_set}
use Rattle.dcsctp_api.specs.spec.endpoint.Event.{Event}
use Rattle.dcsctp_api.specs.types.queues.SendStreams.{Waiting, Stream, front_of, paused_stream, payload_size, stream_at, turns_of, IsNext}
use Rattle.dcsctp_api.specs.spec.queues.SendEvents.{expiries}
use Rattle.dcsctp_api.specs.spec.queues.SendQueue.{SendQueueState}
use Rattle.dcsctp_api.specs.spec.queues.Sending.{reduced_queue, part_events, is_too_old, Drops}
use Rattle.dcsctp_api.specs.spec.queues.OwnResets.{count_under_way}

-- the messages of the stream at the place that haven't been started
abbrev pub not_begun : ℕ → SendQueueState → List Waiting
not_begun place queue = drop (count_under_way (stream_at queue.streams place)) (stream_at queue.streams place).messages

-- what leaves with them: the amounts stop at the greatest `usize`
abbrev pub size_not_begun : ℕ → SendQueueState → ℕ
size_not_begun place queue = min (payload_size (not_begun place queue)) (2 ^ 64 - 1)

-- the stream at the place is paused, without the messages that haven't been started
abbrev pub queue_paused : ℕ → ℕ → SendQueueState → SendQueueState
queue_paused place kept queue = record queue { streams = slice_set queue.streams place (paused_stream kept (stream_at queue.streams place)) }

abbrev pub after_pause : ℕ → SendQueueState → SendQueueState
after_pause place queue =
    queue_paused place (count_under_way (stream_at queue.streams place)) (reduced_queue place (size_not_begun place queue) queue)

abbrev pub pause_events : ℕ → SendQueueState → List (Event (List ℕ))
pause_events place queue = part_events place (size_not_begun place queue) queue ++ expiries (not_begun place queue)

-- The oldest message of the stream at the place has more than that many bytes.
pub record HasMore (streams : List Stream) (place sent : ℕ) : Type 0 where
  pub within : place < length streams
  pub message : Waiting
  pub front : front_of (stream_at streams place).messages ≡ Some message
  pub more : sent < length message.payload

-- The oldest message of the stream at the place has that many bytes at least.
pub record HasUnsentBytes (streams : List Stream) (place sent : ℕ) : Type 0 where
  pub within : place < length streams
  pub message : Waiting
  pub front : front_of (stream_at streams place).messages ≡ Some message
  pub rest : sent ≤ length message.payload

-- Some such messages are dropped.
pub record DropsSome (now : ℕ) (old new : SendQueueState) : Type 0 where
  pub events : List (Event (List ℕ))
  pub drops : Drops now old events new

-- It is this stream's turn, and its oldest message is under way or not too old to be started.
pub record MayBegin (now : ℕ) (streams : List Stream) (place : ℕ) : Type 0 where
  pub next : IsNext streams place
  pub message : Waiting
  pub front : front_of (stream_at streams place).messages ≡ Some message
  pub fresh : is_too_old now message (stream_at streams place) ≡ false

-- the stream that may begin a message, or none if no stream has its turn
abbrev pub NextUnexpired : ℕ → List Stream → Option ℕ → Type 0
NextUnexpired now streams None = turns_of streams ≡ []
NextUnexpired now streams (Some place) = MayBegin now streams place
