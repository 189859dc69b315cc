-- What leaves the send queue: fragments of messages, and messages that are dropped (RFC 9260, section 6.9; RFC 3758, section 3.5).
use Rattle.std.specs.Prelude.{◌≡◌, ◌⊎◌, ◌<◌, ℕ, ◌+◌, ◌-◌, ◌*◌, ◌/◌, ◌^◌, ◌%◌, ◌==◌, ◌&&◌, ◌||◌, not, is_some, min, nat_le, nat_lt, Bool, true, false, Option, None, Some, List, [], ◌++◌, length, take, drop, slice_set, if◌then◌else◌}
use Rattle.std.specs.List.{list_any}
use Rattle.dcsctp_spec.specs.endpoint.Event.{Event}
use Rattle.dcsctp_types.specs.declared.ids.StreamId.{StreamId}
use Rattle.dcsctp_types.specs.declared.sending.UnderWay.{UnderWay}
use Rattle.dcsctp_types.specs.queues.SendStreams.{Waiting, Stream, front_of, is_expired, without_front, stream_with_progress, next_numbers, stream_counted, served_stream, fills_turn, stream_with_turn_bytes, stream_at, turns_of, IsNext}
use Rattle.dcsctp_spec.specs.queues.SendEvents.{low_events, expiry_events, sent_events}
use Rattle.dcsctp_spec.specs.queues.SendQueue.{SendQueueState, queue_interleaves}

-- ---- a fragment

-- a fragment, apart from where in memory its bytes lie
pub record Fragment : Type 0 where
  pub message_id : ℕ
  pub stream : ℕ
  pub ssn : ℕ
  pub mid : ℕ
  pub fsn : ℕ
  pub ppid : ℕ
  pub is_unordered : Bool
  pub is_beginning : Bool
  pub is_end : Bool
  pub payload : List ℕ
  pub max_retransmissions : Option ℕ
  pub expires_at : Option ℕ
  pub lifecycle : Option ℕ

-- a message of the stream as it is begun
abbrev pub begun_under_way : Waiting → Stream → UnderWay
begun_under_way message stream =
    record {
      stream_id = record { 0 = stream.id };
      ssn = (next_numbers message.is_unordered stream).0;
      mid = (next_numbers message.is_unordered stream).1;
      next_fsn = 0;
      sent = 0;
    }

-- the next fragment of a message that has come so far, with that many of its bytes
abbrev pub fragment : UnderWay → Waiting → ℕ → Fragment
fragment under_way message size =
    record {
      message_id = message.message_id;
      stream = under_way.stream_id.0;
      ssn = under_way.ssn;
      mid = under_way.mid;
      fsn = under_way.next_fsn;
      ppid = message.ppid;
      is_unordered = message.is_unordered;
      is_beginning = under_way.sent == 0;
      is_end = under_way.sent + size == length message.payload;
      payload = take size (drop under_way.sent message.payload);
      max_retransmissions = message.max_retransmissions;
      expires_at = message.expires_at;
      lifecycle = message.lifecycle;
    }

-- how much of the message leaves if at most `max` bytes are asked for
abbrev pub size_produced : ℕ → Waiting → UnderWay → ℕ
size_produced max message under_way = min max (length message.payload - under_way.sent)

abbrev pub is_last : ℕ → Waiting → UnderWay → Bool
is_last max message under_way = nat_le (length message.payload - under_way.sent) max

-- ---- what leaves with it

-- that much leaves the stream at the place
abbrev pub reduced_queue : ℕ → ℕ → SendQueueState → SendQueueState
reduced_queue place size queue =
    record queue {
      streams = slice_set queue.streams place (record (stream_at queue.streams place) { amount = (stream_at queue.streams place).amount - size });
      total_amount = queue.total_amount - size;
    }

-- the oldest message of the stream at the place is gone
abbrev pub without_oldest : ℕ → SendQueueState → SendQueueState
without_oldest place queue = record queue { streams = slice_set queue.streams place (without_front (stream_at queue.streams place)) }

-- the number of the turn that is taken now: none counts if streams don't take turns
abbrev pub next_turn : SendQueueState → ℕ
next_turn queue = if queue.takes_turns then (queue.turns_taken + 1) % 2 ^ 64 else queue.turns_taken

-- the queue with another stream at the place
abbrev pub queue_with_stream : ℕ → Stream → SendQueueState → SendQueueState
queue_with_stream place stream queue = record queue { streams = slice_set queue.streams place stream }

-- The numbers of a message of the stream at the place are used up, if it is begun.
abbrev pub queue_numbered : ℕ → Bool → Bool → SendQueueState → SendQueueState
queue_numbered place begins is_unordered queue =
    if begins then queue_with_stream place (stream_counted queue.is_interleaved is_unordered (stream_at queue.streams place)) queue else queue

-- The stream at the place has had its turn, if that is over.
abbrev pub queue_served : ℕ → Bool → SendQueueState → SendQueueState
queue_served place is_over queue =
    if is_over then record (queue_with_stream place (served_stream (next_turn queue) (stream_at queue.streams place)) queue) { turns_taken = next_turn queue } else queue

-- The stream at the place sends that many bytes of its turn.
abbrev pub queue_with_turn_bytes : ℕ → ℕ → SendQueueState → SendQueueState
queue_with_turn_bytes place size queue = queue_with_stream place (stream_with_turn_bytes queue.turn_size size (stream_at queue.streams place)) queue

-- The turn of the stream at the place with a fragment of that many bytes. Where messages are interleaved a turn has a number of
-- bytes (RFC 8260, section 3.5). Else it is a message, and over as that is begun (section 3.2).
abbrev pub turn_counted : ℕ → Bool → ℕ → SendQueueState → SendQueueState
turn_counted place begins size queue =
    if queue_interleaves queue
    then queue_served place (fills_turn queue.turn_size size (stream_at queue.streams place)) (queue_with_turn_bytes place size queue)
    else queue_served place begins queue

-- A fragment of that many bytes of the stream at the place is counted: its message, if it is begun, and the stream's turn.
abbrev pub fragment_counted : ℕ → ℕ → Waiting → UnderWay → SendQueueState → SendQueueState
fragment_counted place size message under_way queue =
    turn_counted place (under_way.sent == 0) size (queue_numbered place (under_way.sent == 0) message.is_unordered queue)

-- how far a message has come after one more fragment, of that many bytes
abbrev pub progress_after : ℕ → UnderWay → UnderWay
progress_after size under_way = record under_way { next_fsn = (under_way.next_fsn + 1) % 2 ^ 32; sent = under_way.sent + size }

-- The oldest message of the stream at the place has come so far.
abbrev pub queue_with_progress : ℕ → UnderWay → SendQueueState → SendQueueState
queue_with_progress place under_way queue = queue_with_stream place (stream_with_progress under_way (stream_at queue.streams place)) queue

-- ---- what messages under way take of the peer's receive window

-- what a receiver may count for a part of a message beside its bytes
abbrev pub part_cost : ℕ
part_cost = 256

-- What a message of that many bytes, which has come so far, takes until it ends: its parts that were sent, each with what it costs,
-- and twice the rest, since further parts have that many bytes at least, but for the last and one that shares its packet.
abbrev pub message_reserve : ℕ → UnderWay → ℕ
message_reserve size under_way = 2 * size + 2 * part_cost + part_cost * under_way.next_fsn - under_way.sent

-- the same, but nothing if none of it was sent
abbrev pub reserve_begun : ℕ → UnderWay → ℕ
reserve_begun size under_way = if under_way.sent == 0 then 0 else message_reserve size under_way

-- Less is taken, and then more; the sum stops at the greatest 128-bit number.
abbrev pub reserved_after : ℕ → ℕ → SendQueueState → ℕ
reserved_after less more queue = min (queue.reserved - less + more) (2 ^ 128 - 1)

-- How much messages under way may take together: seven eighths of the window. Some receivers take no new parts in the last tenth.
abbrev pub shared_window : SendQueueState → ℕ
shared_window queue = queue.window - queue.window / 8

-- Is there room for another message of that many bytes beside those under way?
abbrev pub has_room_beside : ℕ → SendQueueState → Bool
has_room_beside size queue = nat_le (queue.reserved + (2 * size + 2 * part_cost)) (shared_window queue)

-- ---- the stream that is held

-- May the message be abandoned: has it a limit of retransmissions or of time (RFC 3758, section 4)?
abbrev pub may_be_abandoned : Waiting → Bool
may_be_abandoned message = is_some message.max_retransmissions || is_some message.expires_at

-- Does the message, once begun, go to its end before any other is asked? Where messages are interleaved one that may be abandoned
-- does, so that its items have TSNs in a row. So does any while those under way take more than they may share.
abbrev pub is_kept_whole : Waiting → SendQueueState → Bool
is_kept_whole message queue = may_be_abandoned message || not (queue_interleaves queue) || nat_lt (shared_window queue) queue.reserved

-- the stream that is held after a fragment that isn't the last of its message
abbrev pub stream_held_after : StreamId → Waiting → SendQueueState → Option StreamId
stream_held_after id message queue = if is_kept_whole message queue then Some id else None

-- The stream is held no longer, if it was, and its message takes nothing any more.
abbrev pub released_queue : ℕ → ℕ → SendQueueState → SendQueueState
released_queue id reserve queue = record queue { held = released queue.held; reserved = queue.reserved - reserve }
  where
    released : Option StreamId → Option StreamId
    released None = None
    released (Some held) = if held.0 == id then None else Some held

-- after a fragment of that many bytes that isn't the last
abbrev pub after_part : ℕ → ℕ → Waiting → UnderWay → SendQueueState → SendQueueState
after_part place size message under_way queue =
    record (queue_with_progress place (progress_after size under_way) (fragment_counted place size message under_way (reduced_queue place size queue))) {
      held = stream_held_after under_way.stream_id message queue;
      reserved =
          reserved_after (reserve_begun (length message.payload) under_way) (message_reserve (length message.payload) (progress_after size under_way)) queue;
    }

abbrev pub part_events : {P : Type 0} → ℕ → ℕ → SendQueueState → List (Event P)
part_events place size queue = low_events (stream_at queue.streams place) queue.total_threshold queue.total_amount size

-- after the last fragment
abbrev pub after_last : ℕ → Waiting → UnderWay → SendQueueState → SendQueueState
after_last place message under_way queue =
    released_queue under_way.stream_id.0 (reserve_begun (length message.payload) under_way)
    (without_oldest place
    (fragment_counted place (length message.payload - under_way.sent) message under_way
    (reduced_queue place (length message.payload - under_way.sent) queue)))

abbrev pub last_events : {P : Type 0} → ℕ → Waiting → UnderWay → SendQueueState → List (Event P)
last_events place message under_way queue = part_events place (length message.payload - under_way.sent) queue ++ sent_events message

abbrev pub queue_after_producing : ℕ → ℕ → Waiting → UnderWay → SendQueueState → SendQueueState
queue_after_producing place max message under_way queue =
    if is_last max message under_way then after_last place message under_way queue else after_part place max message under_way queue

abbrev pub produced_events : {P : Type 0} → ℕ → ℕ → Waiting → UnderWay → SendQueueState → List (Event P)
produced_events place max message under_way queue =
    if is_last max message under_way then last_events place message under_way queue else part_events place max queue

-- ---- messages that are dropped

-- A message of which that much was sent is dropped.
abbrev pub without_rest : ℕ → ℕ → Waiting → SendQueueState → SendQueueState
without_rest place sent message queue = without_oldest place (reduced_queue place (length message.payload - sent) queue)

abbrev pub drop_events : {P : Type 0} → ℕ → ℕ → Waiting → SendQueueState → List (Event P)
drop_events place sent message queue =
    low_events (stream_at queue.streams place) queue.total_threshold queue.total_amount (length message.payload - sent)
    ++ expiry_events message

-- Is it the oldest message of the stream, too old to be started? One that was started goes on.
abbrev pub is_too_old : ℕ → Waiting → Stream → Bool
is_too_old now message stream = not (is_some stream.under_way) && is_expired now message

-- Messages that are too old to be started are dropped, each the oldest of the stream whose turn it is.
pub data Drops {P : Type 0} (now : ℕ) (old : SendQueueState) : List (Event P) → SendQueueState → Type 0 where
  none : Drops now old [] old
  more : (events : List (Event P)) (queue : SendQueueState) (place : ℕ) (message : Waiting)
      → Drops now old events queue
      → IsNext queue.streams place
      → front_of (stream_at queue.streams place).messages ≡ Some message
      → is_too_old now message (stream_at queue.streams place) ≡ true
      → Drops now old (events ++ drop_events place 0 message queue) (without_rest place 0 message queue)

-- Such messages are dropped, and their events are added.
pub record DropsAll {P : Type 0} (now : ℕ) (old : SendQueueState) (told_before : List (Event P)) (new : SendQueueState) (told_after : List (Event P)) : Type 0 where
  pub events : List (Event P)
  pub drops : Drops now old events new
  pub told : told_after ≡ told_before ++ events

-- ---- which fragment is taken

-- how far the oldest message of the stream has come: it is under way, or is begun
abbrev pub next_progress : Waiting → Stream → UnderWay
next_progress message stream = come_to stream.under_way
  where
    come_to : Option UnderWay → UnderWay
    come_to None = begun_under_way message stream
    come_to (Some under_way) = under_way

-- May a fragment of at most `max` bytes of the stream's oldest message be sent? Where messages are interleaved it may if the message
-- was begun, if it is sent whole, or if the peer has room for it beside those under way.
abbrev pub may_send_part : ℕ → Waiting → Stream → SendQueueState → Bool
may_send_part max message stream queue =
    not (queue_interleaves queue) || is_some stream.under_way || nat_le (length message.payload) max
    || has_room_beside (length message.payload) queue

-- Is a message of the stream under way: was its oldest message begun?
abbrev pub has_begun : Stream → Bool
has_begun stream = is_some stream.under_way && is_some (front_of stream.messages)

-- The stream at the place is the first of those that have a message under way.
pub record IsFirstUnderWay (streams : List Stream) (place : ℕ) : Type 0 where
  pub within : place < length streams
  pub goes_on : has_begun (stream_at streams place) ≡ true
  pub first : (k : ℕ) → k < place → has_begun (stream_at streams k) ≡ false

-- No stream has a message under way.
abbrev pub AreNoneUnderWay : List Stream → Type 0
AreNoneUnderWay streams = list_any has_begun streams ≡ false

-- Which stream sends: the one whose turn it is if it may, or if no message is under way, and else the first of those that have one.
abbrev pub PassesTurn : Bool → List Stream → ℕ → ℕ → Type 0
PassesTurn true streams turn place = place ≡ turn
PassesTurn false streams turn place = IsFirstUnderWay streams place ⊎ (AreNoneUnderWay streams × (place ≡ turn))

-- Where no stream is held, the one at this place sends. The message whose turn it is isn't too old to be started.
pub record IsChosen (now max : ℕ) (queue : SendQueueState) (place : ℕ) : Type 0 where
  pub turn : ℕ
  pub next : IsNext queue.streams turn
  pub message : Waiting
  pub front : front_of (stream_at queue.streams turn).messages ≡ Some message
  pub fresh : is_too_old now message (stream_at queue.streams turn) ≡ false
  pub sends : PassesTurn (may_send_part max message (stream_at queue.streams turn) queue) queue.streams turn place

-- Of which stream's oldest message a fragment of at most `max` bytes is taken: of the one that is held, or else of the one that is
-- chosen. Before that, messages that are too old to be started are dropped.
abbrev pub Chooses : ℕ → ℕ → SendQueueState → Option StreamId → SendQueueState → ℕ → Type 0
Chooses now max old None queue place = IsChosen now max queue place
Chooses now max old (Some held) queue place = (queue ≡ old) × ((stream_at queue.streams place).id ≡ held.0)

-- A fragment is taken.
pub record TakesFragment {P : Type 0} (now max : ℕ) (old : SendQueueState) (told_before : List (Event P)) (part : Fragment) (new : SendQueueState) (told_after : List (Event P)) : Type 0 where
  -- what is left once messages were dropped
  pub queue : SendQueueState
  pub told : List (Event P)
  pub drops : DropsAll now old told_before queue told
  pub place : ℕ
  pub message : Waiting
  pub under_way : UnderWay
  pub front : front_of (stream_at queue.streams place).messages ≡ Some message
  pub chosen : Chooses now max old old.held queue place
  pub come : under_way ≡ next_progress message (stream_at queue.streams place)
  pub is : part ≡ fragment under_way message (size_produced max message under_way)
  pub left : new ≡ queue_after_producing place max message under_way queue
  pub events : told_after ≡ told ++ produced_events place max message under_way queue

-- No stream is held, and none has a turn.
pub record TakesNone {P : Type 0} (now : ℕ) (old : SendQueueState) (told_before : List (Event P)) (new : SendQueueState) (told_after : List (Event P)) : Type 0 where
  pub idle : old.held ≡ None
  pub drops : DropsAll now old told_before new told_after
  pub none_left : turns_of new.streams ≡ []

abbrev pub TakesNextFragment : {P : Type 0} → ℕ → ℕ → SendQueueState → List (Event P) → Option Fragment → SendQueueState → List (Event P) → Type 0
TakesNextFragment now max old told_before None new told_after = TakesNone now old told_before new told_after
TakesNextFragment now max old told_before (Some part) new told_after = TakesFragment now max old told_before part new told_after

-- ---- a message that is given up

-- The message under way of this stream is this one.
pub record IsMessageUnderWay (queue : SendQueueState) (stream message_id : ℕ) : Type 0 where
  pub place : ℕ
  pub within : place < length queue.streams
  pub is : (stream_at queue.streams place).id ≡ stream
  pub under_way : UnderWay
  pub goes_on : (stream_at queue.streams place).under_way ≡ Some under_way
  pub message : Waiting
  pub front : front_of (stream_at queue.streams place).messages ≡ Some message
  pub named : message.message_id ≡ message_id

-- What is left of the message under way is dropped.
pub record Discards {P : Type 0} (old : SendQueueState) (stream message_id : ℕ) (told_before : List (Event P)) (new : SendQueueState) (told_after : List (Event P)) : Type 0 where
  pub named : IsMessageUnderWay old stream message_id
  pub left : new
      ≡ released_queue stream (reserve_begun (length named.message.payload) named.under_way) (without_rest named.place named.under_way.sent named.message old)
  pub events : told_after ≡ told_before ++ drop_events named.place named.under_way.sent named.message old

abbrev pub DiscardsNamed : {P : Type 0} → SendQueueState → ℕ → ℕ → List (Event P) → Bool → SendQueueState → List (Event P) → Type 0
DiscardsNamed old stream message_id told_before true new told_after = Discards old stream message_id told_before new told_after
DiscardsNamed old stream message_id told_before false new told_after =
    (IsMessageUnderWay old stream message_id → ⊥) × (new ≡ old) × (told_after ≡ told_before)
