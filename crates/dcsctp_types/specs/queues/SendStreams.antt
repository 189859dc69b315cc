-- Streams that messages are sent by: what waits on them, and whose turn it is. Moments are nanoseconds.
use Rattle.std.specs.Prelude.{◌≡◌, ◌<◌, nat_le, is_some, ℕ, ◌+◌, ◌-◌, ◌^◌, ◌%◌, ◌==◌, ◌&&◌, ◌||◌, min, nat_lt, Bool, true, false, Option, None, Some, List, [], ◌∷◌, ◌++◌, length, take, drop, slice_index_or, if◌then◌else◌}
use Rattle.dcsctp_types.specs.declared.sending.Pause.{Pause}
use Rattle.dcsctp_types.specs.declared.sending.Pause.TheVariants.{Open, Pausing, HandedOut}
use Rattle.dcsctp_types.specs.declared.sending.Turn.{Turn}
use Rattle.dcsctp_types.specs.declared.sending.UnderWay.{UnderWay}

-- A message that waits whole, or of which some fragments were sent.
pub record Waiting : Type 0 where
  pub message_id : ℕ
  pub ppid : ℕ
  pub is_unordered : Bool
  pub payload : List ℕ
  pub max_retransmissions : Option ℕ
  -- the last moment at which it may be started
  pub expires_at : Option ℕ
  -- the number under which events name it
  pub lifecycle : Option ℕ

pub record Stream : Type 0 where
  pub id : ℕ
  pub priority : ℕ
  pub threshold : ℕ
  -- the payload bytes that were neither produced nor dropped
  pub amount : ℕ
  pub next_ssn : ℕ
  pub next_mid : ℕ
  pub next_unordered_mid : ℕ
  -- Which turn it had last, counted from 1? 0 if it had none, or if streams of equal priority don't take turns.
  pub last_turn : ℕ
  -- the payload bytes that it sent of its present turn, where messages are interleaved
  pub turn_bytes : ℕ
  pub pause : Pause
  -- How far the oldest message has come, if it was started. It isn't fully sent.
  pub under_way : Option UnderWay
  -- the oldest first
  pub messages : List Waiting

-- is the stream to be reset, and its reset not requested yet?
abbrev pub is_pausing : Pause → Bool
is_pausing Open = false
is_pausing Pausing = true
is_pausing HandedOut = false

-- is a message too old to be started at this moment?
abbrev pub is_expired : ℕ → Waiting → Bool
is_expired now message = expired_by now message.expires_at
  where
    expired_by : ℕ → Option ℕ → Bool
    expired_by now None = false
    expired_by now (Some moment) = nat_lt moment now

-- a stream that was never used
abbrev pub unused_stream : ℕ → ℕ → ℕ → Stream
unused_stream id priority threshold =
    record { id = id; priority = priority; threshold = threshold; amount = 0; next_ssn = 0; next_mid = 0; next_unordered_mid = 0; last_turn = 0; turn_bytes = 0; pause = Open; under_way = None; messages = [] }

-- the oldest message
abbrev pub front_of : List Waiting → Option Waiting
front_of [] = None
front_of (message ∷ messages) = Some message

-- with one more message after the others; the amount stops at the greatest `usize`
abbrev pub with_message : Waiting → Stream → Stream
with_message message stream =
    record stream {
      amount = min (stream.amount + length message.payload) (2 ^ 64 - 1);
      messages = stream.messages ++ message ∷ [];
    }

-- without its oldest message
abbrev pub without_front : Stream → Stream
without_front stream = record stream { under_way = None; messages = drop 1 stream.messages }

-- with its oldest message come so far
abbrev pub stream_with_progress : UnderWay → Stream → Stream
stream_with_progress under_way stream = record stream { under_way = Some under_way }

-- how many bytes of a message were sent
abbrev pub progress_size : Option UnderWay → ℕ
progress_size None = 0
progress_size (Some under_way) = under_way.sent

-- paused, with only that many of its messages
abbrev pub paused_stream : ℕ → Stream → Stream
paused_stream kept stream = record stream { pause = Pausing; messages = take kept stream.messages }

abbrev pub handed_out : Stream → Stream
handed_out stream = record stream { pause = HandedOut }

abbrev pub resumed_stream : Stream → Stream
resumed_stream stream = record stream { pause = Open }

-- with that much more; the amount stops at the greatest `usize`
abbrev pub amount_raised : ℕ → Stream → Stream
amount_raised size stream = record stream { amount = min (stream.amount + size) (2 ^ 64 - 1) }

-- the SSN and the MID of the message that is started next, by whether it is unordered
abbrev pub next_numbers : Bool → Stream → ℕ × ℕ
next_numbers true stream = (0, stream.next_unordered_mid)
next_numbers false stream = (stream.next_ssn, stream.next_mid)

-- its messages are numbered from 0 again
abbrev pub renumbered_stream : Stream → Stream
renumbered_stream stream = record stream { next_ssn = 0; next_mid = 0; next_unordered_mid = 0; pause = Open }

-- The numbers after a message was started, by whether messages are interleaved and whether it is unordered. Without interleaving
-- SSNs count, which unordered messages don't have (RFC 9260, section 3.3.1). With it MIDs count, of ordered and of unordered
-- messages apart (RFC 8260, section 2.1). Running numbers wrap.
abbrev pub stream_counted : Bool → Bool → Stream → Stream
stream_counted false false stream = record stream { next_ssn = (stream.next_ssn + 1) % 2 ^ 16 }
stream_counted false true stream = stream
stream_counted true false stream = record stream { next_mid = (stream.next_mid + 1) % 2 ^ 32 }
stream_counted true true stream = record stream { next_unordered_mid = (stream.next_unordered_mid + 1) % 2 ^ 32 }

-- its message under way is put back, to begin again
abbrev pub stream_put_back : Stream → Stream
stream_put_back stream = record (amount_raised (progress_size stream.under_way) stream) { under_way = None }

-- it had this turn
abbrev pub served_stream : ℕ → Stream → Stream
served_stream turn stream = record stream { last_turn = turn }

-- ---- a turn by bytes (RFC 8260, section 3.5)

-- the bytes of its turn with that many more; they stop at the greatest `usize`
abbrev pub turn_bytes_with : ℕ → Stream → ℕ
turn_bytes_with size stream = min (stream.turn_bytes + size) (2 ^ 64 - 1)

-- Is its turn, which has so many bytes, over with that many more?
abbrev pub fills_turn : ℕ → ℕ → Stream → Bool
fills_turn turn_size size stream = nat_le turn_size (turn_bytes_with size stream)

-- It sends that many bytes of its turn. What it sends beyond its turn counts for the next.
abbrev pub stream_with_turn_bytes : ℕ → ℕ → Stream → Stream
stream_with_turn_bytes turn_size size stream =
    record stream { turn_bytes = if fills_turn turn_size size stream then turn_bytes_with size stream - turn_size else turn_bytes_with size stream }

-- it was reset, if it was handed out
abbrev pub committed_stream : Stream → Stream
committed_stream stream = committed_if stream.pause stream
  where
    committed_if : Pause → Stream → Stream
    committed_if Open stream = stream
    committed_if Pausing stream = stream
    committed_if HandedOut stream = renumbered_stream stream

-- it was not reset, if it was handed out
abbrev pub rolled_back : Stream → Stream
rolled_back stream = rolled_back_if stream.pause stream
  where
    rolled_back_if : Pause → Stream → Stream
    rolled_back_if Open stream = stream
    rolled_back_if Pausing stream = stream
    rolled_back_if HandedOut stream = resumed_stream stream

-- the payload bytes of messages together
abbrev pub payload_size : List Waiting → ℕ
payload_size [] = 0
payload_size (message ∷ messages) = length message.payload + payload_size messages

-- ---- streams in order

-- this number is less than those of all the streams
abbrev pub IsBelow : ℕ → List Stream → Type 0
IsBelow id [] = Unit {0}
IsBelow id (stream ∷ streams) = (id < stream.id) × IsBelow id streams

-- The streams ascend by their numbers, so each occurs once.
abbrev pub IsAscending : List Stream → Type 0
IsAscending [] = Unit {0}
IsAscending (stream ∷ streams) = IsBelow stream.id streams × IsAscending streams

-- ---- whose turn it is: streams are asked by priority, the greatest first, then by their last turn, the oldest first, and then by
-- number, the least first

-- Of two streams of equal priority, is the first asked after the other?
abbrev pub is_asked_later : Turn → Turn → Bool
is_asked_later first other =
    nat_lt other.last_turn first.last_turn || (first.last_turn == other.last_turn && nat_lt other.stream_id.0 first.stream_id.0)

-- Is the first asked after the other?
abbrev pub comes_after : Turn → Turn → Bool
comes_after first other = nat_lt first.priority other.priority || (first.priority == other.priority && is_asked_later first other)

-- the turns with one more; the last is the first to be asked
abbrev pub with_turn : Turn → List Turn → List Turn
with_turn turn [] = turn ∷ []
with_turn turn (first ∷ turns) = if comes_after first turn then first ∷ with_turn turn turns else turn ∷ first ∷ turns

abbrev pub with_optional_turn : Option Turn → List Turn → List Turn
with_optional_turn None turns = turns
with_optional_turn (Some turn) turns = with_turn turn turns

-- the stream at the place
abbrev pub stream_at : List Stream → ℕ → Stream
stream_at streams place = slice_index_or streams place (unused_stream 0 0 0)

-- May a stream with these messages send? A pause doesn't hold up a message that is under way.
abbrev pub may_send_on : Option UnderWay → Pause → List Waiting → Bool
may_send_on under_way pause [] = false
may_send_on under_way Open (message ∷ messages) = true
may_send_on under_way Pausing (message ∷ messages) = is_some under_way
may_send_on under_way HandedOut (message ∷ messages) = is_some under_way

-- a stream's turn, if it may send
abbrev pub turn_of : Stream → Option Turn
turn_of stream =
    if may_send_on stream.under_way stream.pause stream.messages
    then Some (record { priority = stream.priority; last_turn = stream.last_turn; stream_id = record { 0 = stream.id } }) else None

-- the turns of all streams
abbrev pub turns_of : List Stream → List Turn
turns_of [] = []
turns_of (stream ∷ streams) = with_optional_turn (turn_of stream) (turns_of streams)

-- It is this stream's turn: it may send, and none that may is asked before it.
pub record IsNext (streams : List Stream) (place : ℕ) : Type 0 where
  pub turn : Turn
  pub within : place < length streams
  pub is : turn_of (stream_at streams place) ≡ Some turn
  pub first : (k : ℕ) (other : Turn) → k < length streams → turn_of (stream_at streams k) ≡ Some other → comes_after turn other ≡ false
