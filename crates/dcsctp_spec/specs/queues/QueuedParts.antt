-- What a snapshot has of what waits to be sent, and what is restored from it.
use Rattle.std.specs.Prelude.{ℕ, ◌==◌, ◌+◌, ◌-◌, ◌^◌, ◌&&◌, ◌||◌, min, nat_lt, not, Bool, if◌then◌else◌, Option, None, Some, is_some, List, [], ◌∷◌, ◌++◌, length, map}
use Rattle.std.specs.List.{flat_map}
use Rattle.std.specs.Option.{option_map, unwrap_or}
use Rattle.dcsctp_types.specs.declared.ids.StreamId.{StreamId}
use Rattle.dcsctp_types.specs.declared.sending.UnderWay.{UnderWay}
use Rattle.dcsctp_types.specs.declared.snapshot.HandoverOutgoingStream.{HandoverOutgoingStream}
use Rattle.dcsctp_types.specs.Lifetimes.{millis_ahead, moment_ahead}
use Rattle.dcsctp_types.specs.Snapshot.{SendPart}
use Rattle.dcsctp_types.specs.SnapshotItems.{QueuedPart}
use Rattle.dcsctp_spec.specs.queues.OwnResets.{with_used}
use Rattle.dcsctp_spec.specs.queues.SendQueue.{SendQueueState, stream_changed, queue_stream}
use Rattle.dcsctp_spec.specs.queues.Sending.{reserve_begun, reserved_after, stream_held_after}
use Rattle.dcsctp_types.specs.queues.SendStreams.{Waiting, Stream, front_of, unused_stream, stream_with_progress}

-- ---- numbers that mean none

-- 65,535 means no limit
abbrev pub no_part_limit : ℕ
no_part_limit = 65535

abbrev pub limit_in_part : ℕ → Option ℕ
limit_in_part count = if count == no_part_limit then None else Some count

-- 0 means no name
abbrev pub name_in_part : ℕ → Option ℕ
name_in_part number = if number == 0 then None else Some number

-- ---- what is given

-- a message that waits whole
abbrev pub whole_message : ℕ → ℕ → Waiting → QueuedPart
whole_message now id message =
    record {
      stream_id = id;
      ppid = message.ppid;
      payload = message.payload;
      unordered = message.is_unordered;
      expires_in_ms = option_map (millis_ahead now) message.expires_at;
      max_retransmissions = unwrap_or message.max_retransmissions no_part_limit;
      lifecycle_id = unwrap_or message.lifecycle 0;
      message_id = message.message_id;
      remaining_offset = 0;
      mid = None;
      ssn = None;
      fsn = 0;
    }

-- the same of a message that has come so far
abbrev pub begun_message : UnderWay → QueuedPart → QueuedPart
begun_message under_way part =
    record part { remaining_offset = under_way.sent; mid = Some under_way.mid; ssn = Some under_way.ssn; fsn = under_way.next_fsn }

-- the messages of a stream, of which the first may be under way
abbrev pub with_progress : Option UnderWay → List QueuedPart → List QueuedPart
with_progress None parts = parts
with_progress (Some under_way) [] = []
with_progress (Some under_way) (part ∷ parts) = begun_message under_way part ∷ parts

abbrev pub messages_given : ℕ → Stream → List QueuedPart
messages_given now stream = with_progress stream.under_way (map (whole_message now stream.id) stream.messages)

abbrev pub stream_given : Stream → HandoverOutgoingStream
stream_given stream =
    record {
      id = stream.id;
      next_ssn = stream.next_ssn;
      next_unordered_mid = stream.next_unordered_mid;
      next_ordered_mid = stream.next_mid;
      priority = stream.priority;
    }

-- The part with the numbers of all streams, and the messages if they are to go along.
abbrev pub part_with_queue : ℕ → Bool → SendQueueState → SendPart → SendPart
part_with_queue now with_data queue tx =
    record tx {
      next_outgoing_message_id = queue.next_message_id;
      streams = map stream_given queue.streams;
      queued_messages = if with_data then flat_map (messages_given now) queue.streams else [];
    }

-- ---- what is restored

-- a stream without its messages, which numbers them from 0
abbrev pub emptied_stream : Stream → Stream
emptied_stream stream = unused_stream stream.id stream.priority stream.threshold

-- Nothing waits, and each stream keeps its priority and its threshold.
abbrev pub queue_emptied : SendQueueState → SendQueueState
queue_emptied queue = record queue { streams = map emptied_stream queue.streams; held = None; total_amount = 0; reserved = 0 }

-- a stream with the numbers and the priority of the snapshot
abbrev pub stream_restored : HandoverOutgoingStream → Stream → Stream
stream_restored named stream =
    record stream {
      next_ssn = named.next_ssn;
      next_mid = named.next_ordered_mid;
      next_unordered_mid = named.next_unordered_mid;
      priority = named.priority;
    }

-- the streams of the list, one after another, each of which counts as used
abbrev pub streams_restored : List HandoverOutgoingStream → SendQueueState → SendQueueState
streams_restored [] queue = queue
streams_restored (named ∷ rest) queue =
    streams_restored rest (record (with_used named.id queue) { streams = stream_changed named.id (stream_restored named) (with_used named.id queue).streams })

-- a message waits again
abbrev pub waiting_again : ℕ → QueuedPart → Waiting
waiting_again now part =
    record {
      message_id = part.message_id;
      ppid = part.ppid;
      is_unordered = part.unordered;
      payload = part.payload;
      max_retransmissions = limit_in_part part.max_retransmissions;
      expires_at = option_map (moment_ahead now) part.expires_in_ms;
      lifecycle = name_in_part part.lifecycle_id;
    }

-- Does it continue where it was? It does if a part of it was sent, it is the first of its stream, and no stream is held. Where
-- messages are interleaved one of each stream does.
abbrev pub is_part_continued : QueuedPart → SendQueueState → Bool
is_part_continued part queue = nat_lt 0 part.remaining_offset && (queue.is_interleaved || not (is_some queue.held)) && not (is_some (front_of (queue_stream queue part.stream_id).messages))

-- how far it has come then
abbrev pub progress_again : QueuedPart → UnderWay
progress_again part =
    record {
      stream_id = record { 0 = part.stream_id };
      ssn = unwrap_or part.ssn 0;
      mid = unwrap_or part.mid 0;
      next_fsn = part.fsn;
      sent = part.remaining_offset;
    }

-- the stream with one more message, of which that many bytes are to be sent
abbrev pub with_rest : Waiting → ℕ → Stream → Stream
with_rest message rest stream =
    record stream { amount = min (stream.amount + rest) (2 ^ 64 - 1); messages = stream.messages ++ message ∷ [] }

abbrev pub with_message_rest : ℕ → QueuedPart → ℕ → SendQueueState → SendQueueState
with_message_rest now part rest queue =
    record (with_used part.stream_id queue) {
      streams = stream_changed part.stream_id (with_rest (waiting_again now part) rest) (with_used part.stream_id queue).streams;
      total_amount = min (queue.total_amount + rest) (2 ^ 64 - 1);
    }

-- the stream that is held once a message of this one continues
abbrev pub held_again : StreamId → Waiting → SendQueueState → Option StreamId → Option StreamId
held_again id message queue None = stream_held_after id message queue
held_again id message queue (Some held) = Some held

-- This message, the oldest of the stream, continues. Its stream is held if it is kept whole, unless another stream is.
abbrev pub queue_continued : ℕ → Waiting → UnderWay → SendQueueState → SendQueueState
queue_continued id message under_way queue =
    record queue {
      streams = stream_changed id (stream_with_progress under_way) queue.streams;
      held = held_again (record { 0 = id }) message queue queue.held;
      reserved = reserved_after 0 (reserve_begun (length message.payload) under_way) queue;
    }

-- the queue with that message after the others of its stream
abbrev pub message_restored : ℕ → QueuedPart → SendQueueState → SendQueueState
message_restored now part queue =
    if is_part_continued part queue
    then queue_continued part.stream_id (waiting_again now part) (progress_again part) (with_message_rest now part (length part.payload - part.remaining_offset) queue)
    else with_message_rest now part (length part.payload) queue

abbrev pub messages_restored : ℕ → List QueuedPart → SendQueueState → SendQueueState
messages_restored now [] queue = queue
messages_restored now (part ∷ parts) queue = messages_restored now parts (message_restored now part queue)

-- What waits is replaced by what the snapshot has. Thresholds stay, as do priorities of streams that it doesn't name.
abbrev pub queue_restored : ℕ → SendPart → SendQueueState → SendQueueState
queue_restored now tx queue =
    record (messages_restored now tx.queued_messages (streams_restored tx.streams (queue_emptied queue))) { next_message_id = tx.next_outgoing_message_id }
