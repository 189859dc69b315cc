-- The send queue: every message that waits to be sent (RFC 9260, section 6.9; RFC 8260, section 2.1). It outlasts an association.
use Rattle.std.specs.Prelude.{◌≡◌, ℕ, ◌+◌, ◌-◌, ◌*◌, ◌/◌, ◌^◌, ◌%◌, ◌==◌, ◌<◌, min, nat_lt, not, ◌&&◌, ◌||◌, Bool, true, false, Option, None, Some, is_some, List, [], ◌∷◌, length, map, sum_by, if◌then◌else◌}
use Rattle.std.specs.Option.{option_map}
use Rattle.std.specs.List.{list_any, AllByRecursion}
use Rattle.std.specs.Duration.{as_nanos, max_nanos}
use Rattle.dcsctp_types.specs.declared.options.Options.{Options}
use Rattle.dcsctp_types.specs.declared.message.SendOptions.{SendOptions}
use Rattle.dcsctp_types.specs.Ids.{lifecycle_number}
use Rattle.dcsctp_types.specs.Sizes.{common_header_size, i_data_header_size}
use Rattle.dcsctp_types.specs.queues.Messages.{MessageContent}
use Rattle.dcsctp_types.specs.declared.ids.StreamId.{StreamId}
use Rattle.dcsctp_types.specs.declared.sending.UnderWay.{UnderWay}
use Rattle.dcsctp_types.specs.queues.SendStreams.{Waiting, Stream, IsAscending, front_of, is_expired, stream_at, unused_stream, with_message, next_numbers, stream_counted, renumbered_stream, progress_size, stream_put_back, turn_of}

-- What waits to be sent, of all streams.
pub record SendQueueState : Type 0 where
  -- the streams that were used, ascending
  pub streams : List Stream
  -- The stream whose message under way goes on before any other is asked. None: no message is under way, or all that are can be
  -- interleaved.
  pub held : Option StreamId
  -- the payload bytes of all streams
  pub total_amount : ℕ
  -- Once the total falls to this, the user gets an event.
  pub total_threshold : ℕ
  -- what a stream begins with
  pub default_priority : ℕ
  pub default_threshold : ℕ
  -- Are messages numbered as for interleaving (RFC 8260, section 2.1)?
  pub is_interleaved : Bool
  -- counts the messages in the order in which they were added
  pub next_message_id : ℕ
  -- Do streams of equal priority take turns? By the RFC they do (RFC 8260, sections 3.2 and 3.5).
  pub takes_turns : Bool
  -- how many turns were taken
  pub turns_taken : ℕ
  -- how many payload bytes a turn has where messages are interleaved
  pub turn_size : ℕ
  -- the peer's receive window as the association began, in bytes
  pub window : ℕ
  -- what messages under way take of it until they end
  pub reserved : ℕ

-- the payload of an I-DATA chunk that fills a packet of that size (RFC 8260, section 2.1)
abbrev pub full_payload : ℕ → ℕ
full_payload mtu = (mtu - common_header_size - i_data_header_size) / 4 * 4

-- as it is before any message
abbrev pub empty_queue : Options → SendQueueState
empty_queue options =
    record {
      streams = [];
      held = None;
      total_amount = 0;
      total_threshold = options.total_buffered_amount_low_threshold;
      default_priority = options.default_stream_priority;
      default_threshold = options.default_stream_buffered_amount_low_threshold;
      is_interleaved = false;
      next_message_id = 0;
      takes_turns = options.follow_rfc;
      turns_taken = 0;
      turn_size = full_payload options.mtu;
      window = 0;
      reserved = 0;
    }

-- ---- what is true of it at all times

-- The message under way is the oldest of these of the stream of this number, and a part of it was sent.
pub record IsUnderWay (id : ℕ) (messages : List Waiting) (under_way : UnderWay) : Type 0 where
  pub is : id ≡ under_way.stream_id.0
  pub message : Waiting
  pub front : front_of messages ≡ Some message
  pub begun : 0 < under_way.sent
  pub unfinished : under_way.sent < length message.payload

-- If a message is under way, it can continue.
abbrev pub CanContinue : ℕ → List Waiting → Option UnderWay → Type 0
CanContinue id messages None = Unit {0}
CanContinue id messages (Some under_way) = IsUnderWay id messages under_way

abbrev pub CanGoOn : Stream → Type 0
CanGoOn stream = CanContinue stream.id stream.messages stream.under_way

-- The stream at the place is this one, and has a message under way.
pub record IsGoingOn (streams : List Stream) (held : StreamId) (place : ℕ) : Type 0 where
  pub within : place < length streams
  pub is : (stream_at streams place).id ≡ held.0
  pub goes_on : is_some (stream_at streams place).under_way ≡ true

-- The stream that is held has a message under way.
abbrev pub IsHeld : Option StreamId → List Stream → Type 0
IsHeld None streams = Unit {0}
IsHeld (Some held) streams = (place : ℕ) × IsGoingOn streams held place

-- A message without bytes never waits.
abbrev pub HaveBytes : Stream → Type 0
HaveBytes stream = AllByRecursion (λ (message : Waiting). 0 < length message.payload) stream.messages

-- Each stream occurs once, each message has bytes, each message under way can continue, and a stream that is held has one.
pub record IsWellFormed (queue : SendQueueState) : Type 0 where
  pub ascending : IsAscending queue.streams
  pub bytes : AllByRecursion HaveBytes queue.streams
  pub can : AllByRecursion CanGoOn queue.streams
  pub held : IsHeld queue.held queue.streams

-- ---- a stream of it

-- the streams, if that of the number is changed
abbrev pub stream_changed : ℕ → (Stream → Stream) → List Stream → List Stream
stream_changed id f streams = map (λ stream. if stream.id == id then f stream else stream) streams

-- the streams with one more, by its number
abbrev pub with_stream : Stream → List Stream → List Stream
with_stream stream [] = stream ∷ []
with_stream stream (first ∷ streams) = if nat_lt first.id stream.id then first ∷ with_stream stream streams else stream ∷ first ∷ streams

-- was the stream ever used?
abbrev pub is_used : ℕ → List Stream → Bool
is_used id streams = list_any (λ stream. stream.id == id) streams

-- the streams, with that of the number in any case
abbrev pub used_streams : SendQueueState → ℕ → List Stream
used_streams queue id =
    if is_used id queue.streams then queue.streams else with_stream (unused_stream id queue.default_priority queue.default_threshold) queue.streams

-- the stream of the number; one that was never used has the defaults
abbrev pub stream_found : Stream → ℕ → List Stream → Stream
stream_found default id [] = default
stream_found default id (stream ∷ streams) = if stream.id == id then stream else stream_found default id streams

abbrev pub queue_stream : SendQueueState → ℕ → Stream
queue_stream queue id = stream_found (unused_stream id queue.default_priority queue.default_threshold) id queue.streams

abbrev pub with_threshold : ℕ → Stream → Stream
with_threshold bytes stream = record stream { threshold = bytes }

abbrev pub with_priority : ℕ → Stream → Stream
with_priority number stream = record stream { priority = number }

-- ---- messages of it

-- a message as it waits, from the moment at which it is added
abbrev pub queued_message : ℕ → MessageContent → SendOptions → SendQueueState → Waiting
queued_message now message options queue =
    record {
      message_id = queue.next_message_id;
      ppid = message.ppid;
      is_unordered = options.unordered;
      payload = message.payload;
      max_retransmissions = options.max_retransmissions;
      expires_at = option_map (λ lifetime. min (now + as_nanos lifetime) max_nanos) options.lifetime;
      lifecycle = option_map lifecycle_number options.lifecycle_id;
    }

-- with one more message on a stream
abbrev pub with_added : ℕ → Waiting → SendQueueState → SendQueueState
with_added id message queue =
    record queue {
      streams = stream_changed id (with_message message) (used_streams queue id);
      total_amount = min (queue.total_amount + length message.payload) (2 ^ 64 - 1);
      next_message_id = (queue.next_message_id + 1) % 2 ^ 64;
    }

-- Is there data to send: a message under way, or one that may be started? Its age isn't looked at.
abbrev pub has_queued_data : SendQueueState → Bool
has_queued_data queue = list_any (λ stream. is_some (turn_of stream)) queue.streams

-- Is there a message at this moment whose lifetime isn't over?
abbrev pub has_live : ℕ → List Waiting → Bool
has_live now messages = list_any (λ message. not (is_expired now message)) messages

-- Does a message wait at this moment that can be sent? The rest of one under way is sent even if its lifetime is over.
abbrev pub has_waiting_message : ℕ → SendQueueState → Bool
has_waiting_message now queue =
    list_any (λ stream. is_some (turn_of stream) && (is_some stream.under_way || has_live now stream.messages)) queue.streams

-- ---- which numbers count

-- is the oldest message unordered?
abbrev pub is_front_unordered : List Waiting → Bool
is_front_unordered [] = false
is_front_unordered (message ∷ messages) = message.is_unordered

-- the stream, once its oldest message has the next number
abbrev pub front_counted : Bool → Stream → Stream
front_counted is_interleaved stream = stream_counted is_interleaved (is_front_unordered stream.messages) stream

-- the message under way, as its stream would number it if it were begun now
abbrev pub message_renumbered : UnderWay → Stream → UnderWay
message_renumbered under_way stream =
    record under_way {
      ssn = (next_numbers (is_front_unordered stream.messages) stream).0;
      mid = (next_numbers (is_front_unordered stream.messages) stream).1;
    }

-- The message under way of a stream, if there is one, takes the next number, so that no other message has the same.
abbrev pub renumbered_under_way : Bool → Stream → Stream
renumbered_under_way is_interleaved stream = renumbered stream.under_way
  where
    renumbered : Option UnderWay → Stream
    renumbered None = stream
    renumbered (Some under_way) = record (front_counted is_interleaved stream) { under_way = Some (message_renumbered under_way stream) }

-- is the first another one than the second?
abbrev pub is_other : Bool → Bool → Bool
is_other true second = not second
is_other false second = second

-- Messages are interleaved from now on, or not, and go to a peer with this receive window. If the one is new, other numbers count
-- than before.
abbrev pub numbered_for : Bool → ℕ → SendQueueState → SendQueueState
numbered_for enabled window queue =
    record queue {
      is_interleaved = enabled;
      window = window;
      streams = if is_other queue.is_interleaved enabled then map (renumbered_under_way enabled) queue.streams else queue.streams;
    }

-- May a message begin while others are under way? By the RFC it may, if messages are interleaved (RFC 8260, section 2.1).
abbrev pub queue_interleaves : SendQueueState → Bool
queue_interleaves queue = queue.is_interleaved && queue.takes_turns

-- ---- another association

-- how many bytes were sent of messages under way
abbrev pub under_way_size : List Stream → ℕ
under_way_size streams = sum_by (λ stream. progress_size stream.under_way) streams

-- Each message under way is put back.
abbrev pub put_back : SendQueueState → SendQueueState
put_back queue =
    record queue {
      streams = map stream_put_back queue.streams;
      total_amount = min (queue.total_amount + under_way_size queue.streams) (2 ^ 64 - 1);
      held = None;
      reserved = 0;
    }

-- ready for another association
abbrev pub queue_restarted : SendQueueState → SendQueueState
queue_restarted queue = record (put_back queue) { streams = map renumbered_stream (put_back queue).streams }
