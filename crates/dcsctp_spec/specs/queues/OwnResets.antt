-- Own streams that are to be reset: what leaves the send queue, which are ready, and what becomes of them (RFC 6525, section
-- 5.1.2).
use Rattle.std.specs.Prelude.{ℕ, ◌-◌, ◌^◌, ◌==◌, min, Bool, true, false, not, ◌&&◌, Option, None, Some, is_some, List, [], ◌∷◌, ◌++◌, take, drop, map, filter, if◌then◌else◌}
use Rattle.std.specs.List.{list_any}
use Rattle.dcsctp_spec.specs.endpoint.Event.{Event}
use Rattle.dcsctp_types.specs.declared.sending.Pause.{Pause}
use Rattle.dcsctp_types.specs.declared.sending.Pause.TheVariants.{Open, Pausing, HandedOut}
use Rattle.dcsctp_types.specs.queues.SendStreams.{Waiting, Stream, payload_size, is_pausing, paused_stream, handed_out, committed_stream, rolled_back}
use Rattle.dcsctp_spec.specs.queues.SendEvents.{low_events, expiries}
use Rattle.dcsctp_spec.specs.queues.SendQueue.{SendQueueState, stream_changed, used_streams, queue_stream}

-- ---- a stream that is prepared

abbrev pub is_open_pause : Pause → Bool
is_open_pause Open = true
is_open_pause Pausing = false
is_open_pause HandedOut = false

-- how many messages of the stream are under way: none or one
abbrev pub count_under_way : Stream → ℕ
count_under_way stream = if is_some stream.under_way then 1 else 0

-- what leaves a stream that is to be reset
abbrev pub dropped_of : ℕ → SendQueueState → List Waiting
dropped_of id queue = drop (count_under_way (queue_stream queue id)) (queue_stream queue id).messages

abbrev pub dropped_size : ℕ → SendQueueState → ℕ
dropped_size id queue = min (payload_size (dropped_of id queue)) (2 ^ 64 - 1)

-- a stream that is to be reset, without that many payload bytes and with that many messages
abbrev pub prepared_stream : ℕ → ℕ → Stream → Stream
prepared_stream size kept stream = paused_stream kept (record stream { amount = stream.amount - size })

-- the queue, with this stream in any case
abbrev pub with_used : ℕ → SendQueueState → SendQueueState
with_used id queue = record queue { streams = used_streams queue id }

-- Messages that haven't been started are dropped, and the stream is paused.
abbrev pub prepared_open : ℕ → SendQueueState → SendQueueState
prepared_open id queue =
    record queue {
      streams = stream_changed id (prepared_stream (dropped_size id queue) (count_under_way (queue_stream queue id))) queue.streams;
      total_amount = queue.total_amount - dropped_size id queue;
    }

abbrev pub prepared_queue : ℕ → SendQueueState → SendQueueState
prepared_queue id queue = if is_open_pause (queue_stream queue id).pause then prepared_open id queue else queue

-- A stream that isn't paused is prepared to be reset; it counts as used from now on.
abbrev pub queue_with_prepared : ℕ → SendQueueState → SendQueueState
queue_with_prepared id queue = prepared_queue id (with_used id queue)

abbrev pub prepare_events_of : {P : Type 0} → ℕ → SendQueueState → List (Event P)
prepare_events_of id queue =
    if is_open_pause (queue_stream queue id).pause
    then low_events (queue_stream queue id) queue.total_threshold queue.total_amount (dropped_size id queue) ++ expiries (dropped_of id queue)
    else []

abbrev pub prepare_events : {P : Type 0} → ℕ → SendQueueState → List (Event P)
prepare_events id queue = prepare_events_of id (with_used id queue)

-- the streams of these numbers, one after another
abbrev pub prepared_all : List ℕ → SendQueueState → SendQueueState
prepared_all [] queue = queue
prepared_all (id ∷ ids) queue = prepared_all ids (queue_with_prepared id queue)

abbrev pub prepare_all_events : {P : Type 0} → List ℕ → SendQueueState → List (Event P)
prepare_all_events [] queue = []
prepare_all_events (id ∷ ids) queue = prepare_events id queue ++ prepare_all_events ids (queue_with_prepared id queue)

-- ---- streams that are ready

-- Can the stream be handed out to be reset? Messages under way on other streams don't matter.
abbrev pub is_ready : Stream → Bool
is_ready stream = is_pausing stream.pause && not (is_some stream.under_way)

-- the streams that can be handed out, ascending
abbrev pub ready_streams : SendQueueState → List ℕ
ready_streams queue = map (λ stream. stream.id) (filter is_ready queue.streams)

-- does a message wait without a limit of time?
abbrev pub is_lasting : Waiting → Bool
is_lasting message = not (is_some message.expires_at)

-- Does such a message wait for the reset of its stream?
abbrev pub waits_for_reset : SendQueueState → Bool
waits_for_reset queue = list_any (λ stream. not (is_open_pause stream.pause) && list_any is_lasting stream.messages) queue.streams

-- each of these streams is handed out
abbrev pub handing_out : List ℕ → List Stream → List Stream
handing_out [] streams = streams
handing_out (id ∷ ids) streams = handing_out ids (stream_changed id handed_out streams)

-- That many of the streams that are ready, the first ones, are handed out. They stay paused, and are no longer ready.
abbrev pub queue_handing_out : ℕ → SendQueueState → SendQueueState
queue_handing_out count queue = record queue { streams = handing_out (take count (ready_streams queue)) queue.streams }

-- The streams that are handed out were reset: they are paused no longer, and number their messages from 0.
abbrev pub queue_committed : SendQueueState → SendQueueState
queue_committed queue = record queue { streams = map committed_stream queue.streams }

-- The streams that are handed out weren't reset: they are paused no longer.
abbrev pub queue_rolled_back : SendQueueState → SendQueueState
queue_rolled_back queue = record queue { streams = map rolled_back queue.streams }
