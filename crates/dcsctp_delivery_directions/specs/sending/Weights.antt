-- How many TSNs what waits may take: at most one for each byte, and one for the end of each message
-- that is abandoned (RFC 9260, section 6.9, and RFC 3758, section 3.5).
use Rattle.std.specs.Prelude.{◌≤◌, ◌+◌, ℕ, suc, List, [], ◌∷◌, length}
use Rattle.dcsctp_spec.specs.queues.SendQueue.{under_way_size}
use Rattle.dcsctp_spec.specs.types.queues.SendStreams.{Waiting, Stream}
use Rattle.dcsctp_delivery_directions.specs.sending.Log.{Message, Slot}

-- the bytes and messages that wait on a stream, together
abbrev pub weigh : List Waiting → ℕ
weigh [] = 0
weigh (waiting ∷ others) = suc (length waiting.payload) + weigh others

-- and on all streams
abbrev pub weight : List Stream → ℕ
weight [] = 0
weight (stream ∷ streams) = weigh stream.messages + weight streams

-- the bytes and messages that were queued, together
abbrev pub total : List Message → ℕ
total [] = 0
total (message ∷ messages) = suc (length message.payload) + total messages

-- The bytes and messages that were queued are as many as the TSNs that were assigned and those that what waits may take.
pub record HasRoomForLog (queued : List Message) (log : List Slot) (streams : List Stream) : Type 0 where
  pub whole : weight streams ≤ total queued
  pub count : length log + weight streams ≤ total queued + under_way_size streams
