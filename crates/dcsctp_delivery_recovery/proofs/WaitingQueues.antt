-- A send queue whose streams wait well does so after each of its moves.
use Rattle.std.proofs.Common.{◌≡◌, ℕ, zero, suc, Bool, true, false, ◌<◌, List, [], ◌∷◌, ◌++◌, length, map, take, refl, sym, arith, subst}
use Rattle.std.specs.Prelude.{Option, None, Some, is_some, if◌then◌else◌}
use Rattle.std.specs.List.{AllByRecursion}
use Rattle.dcsctp_spec_lemmas.specs.types.Setting.{Setting, stream_priority, stream_low_threshold, longest_message}
use Rattle.dcsctp_spec_lemmas.specs.types.declared.sending.Pause.{Pause}
use Rattle.dcsctp_spec_lemmas.specs.types.declared.sending.Pause.TheVariants.{Open, Pausing, HandedOut}
use Rattle.dcsctp_spec_lemmas.specs.types.declared.sending.UnderWay.{UnderWay}
use Rattle.dcsctp_spec_lemmas.specs.types.queues.SendStreams.{Waiting, Stream, unused_stream, with_message, handed_out, committed_stream, rolled_back, renumbered_stream, stream_put_back, stream_counted}
use Rattle.dcsctp_spec_lemmas.specs.spec.endpoint.BegunResets.{BegunReset, queue_requesting}
use Rattle.dcsctp_spec_lemmas.specs.spec.endpoint.MessageOutcomes.{Sending, sending_queued}
use Rattle.dcsctp_spec_lemmas.specs.spec.endpoint.SettingOutcomes.{set_in_queue}
use Rattle.dcsctp_spec_lemmas.specs.spec.queues.OwnResets.{is_open_pause, count_under_way, dropped_size, prepared_stream, with_used, prepared_open, queue_with_prepared, prepared_all, queue_committed, queue_rolled_back, handing_out, ready_streams}
use Rattle.dcsctp_spec_lemmas.specs.spec.queues.SendQueue.{SendQueueState, queue_stream, used_streams, queued_message, with_priority, with_threshold, numbered_for, renumbered_under_way, is_front_unordered, message_renumbered, is_other, queue_restarted, put_back}
use Rattle.dcsctp_delivery_recovery.proofs.WaitingStreams.{IsUnfinished, WaitsWell, AllWaitWell, well_mapped, well_changed, well_changed_only, well_used}

abbrev HasBytesLeft : Waiting → Type 0
HasBytesLeft message = 0 < length message.payload

-- ---- what the user does

with_more : (message : Waiting) (messages : List Waiting) → HasBytesLeft message → AllByRecursion HasBytesLeft messages → AllByRecursion HasBytesLeft (messages ++ message ∷ [])
with_more message [] some h = (some, tt)
with_more message (first ∷ messages) some h = (h.0, with_more message messages some h.1)

unfinished_more : (message : Waiting) (under_way : Option UnderWay) (messages : List Waiting) → IsUnfinished under_way messages → IsUnfinished under_way (messages ++ message ∷ [])
unfinished_more message None messages h = tt
unfinished_more message (Some under_way) [] h = absurd h
unfinished_more message (Some under_way) (first ∷ messages) h = h

pub queueing_well : (now : ℕ) (sending : Sending) (queue : SendQueueState) → 0 < length sending.message.payload → AllWaitWell queue.streams → AllWaitWell (sending_queued now sending queue).streams
queueing_well now sending queue some h =
    let message : Waiting = queued_message now sending.message sending.options queue in
    well_changed sending.message.stream (with_message message) (λ s. refl) (used_streams queue sending.message.stream)
    (λ s well. record { bytes = with_more message s.messages some well.bytes; unfinished = unfinished_more message s.under_way s.messages well.unfinished })
    (well_used queue sending.message.stream h)

pub setting_well : (setting : Setting) (queue : SendQueueState) → AllWaitWell queue.streams → AllWaitWell (set_in_queue setting queue).streams
setting_well (stream_priority id priority) queue h =
    well_changed id (with_priority priority) (λ s. refl) (used_streams queue id) (λ s well. record { bytes = well.bytes; unfinished = well.unfinished }) (well_used queue id h)
setting_well (stream_low_threshold id bytes) queue h =
    well_changed id (with_threshold bytes) (λ s. refl) (used_streams queue id) (λ s well. record { bytes = well.bytes; unfinished = well.unfinished }) (well_used queue id h)
setting_well (longest_message bytes) queue h = h

-- ---- resets of streams

taken_bytes : (count : ℕ) (messages : List Waiting) → AllByRecursion HasBytesLeft messages → AllByRecursion HasBytesLeft (take count messages)
taken_bytes zero messages h = tt
taken_bytes (suc count) [] h = tt
taken_bytes (suc count) (message ∷ messages) h = (h.0, taken_bytes count messages h.1)

-- What is under way is kept.
taken_unfinished : (under_way : Option UnderWay) (messages : List Waiting) → IsUnfinished under_way messages → IsUnfinished under_way (take (if is_some under_way then 1 else 0) messages)
taken_unfinished None messages h = tt
taken_unfinished (Some under_way) [] h = absurd h
taken_unfinished (Some under_way) (message ∷ messages) h = h

prepared_well : (id size : ℕ) (queue : SendQueueState) → AllWaitWell queue.streams → (s : Stream) → queue_stream queue id ≡ s → WaitsWell s → WaitsWell (prepared_stream size (count_under_way (queue_stream queue id)) s)
prepared_well id size queue h s found well =
    subst (λ (x : Stream). WaitsWell (prepared_stream size (count_under_way x) s)) (sym found)
    (record { bytes = taken_bytes (count_under_way s) s.messages well.bytes; unfinished = taken_unfinished s.under_way s.messages well.unfinished })

one_prepared : (id : ℕ) (queue : SendQueueState) → AllWaitWell queue.streams → AllWaitWell (queue_with_prepared id queue).streams
one_prepared id queue h = go (is_open_pause (queue_stream start id).pause)
  where
    start : SendQueueState
    start = with_used id queue

    go : (b : Bool) → AllWaitWell (if b then prepared_open id (with_used id queue) else with_used id queue).streams
    go true =
        well_changed_only id (prepared_stream (dropped_size id (with_used id queue)) (count_under_way (queue_stream (with_used id queue) id))) (λ s. refl)
        (unused_stream id (with_used id queue).default_priority (with_used id queue).default_threshold) (used_streams queue id)
        (prepared_well id (dropped_size id (with_used id queue)) (with_used id queue) (well_used queue id h)) (well_used queue id h)
    go false = well_used queue id h

pub preparing_well : (ids : List ℕ) (queue : SendQueueState) → AllWaitWell queue.streams → AllWaitWell (prepared_all ids queue).streams
preparing_well [] queue h = h
preparing_well (id ∷ ids) queue h = preparing_well ids (queue_with_prepared id queue) (one_prepared id queue h)

pub committed_well : (queue : SendQueueState) → AllWaitWell queue.streams → AllWaitWell (queue_committed queue).streams
committed_well queue h = well_mapped committed_stream (λ s. same_id s s.pause refl) (λ s well. one s s.pause refl well) queue.streams h
  where
    same_id : (s : Stream) (p : Pause) → s.pause ≡ p → (committed_stream s).id ≡ s.id
    same_id s Open is = rw is refl
    same_id s Pausing is = rw is refl
    same_id s HandedOut is = rw is refl

    one : (s : Stream) (p : Pause) → s.pause ≡ p → WaitsWell s → WaitsWell (committed_stream s)
    one s Open is well = rw is (record { bytes = well.bytes; unfinished = well.unfinished })
    one s Pausing is well = rw is (record { bytes = well.bytes; unfinished = well.unfinished })
    one s HandedOut is well = rw is (record { bytes = well.bytes; unfinished = well.unfinished })

pub rolled_back_well : (queue : SendQueueState) → AllWaitWell queue.streams → AllWaitWell (queue_rolled_back queue).streams
rolled_back_well queue h = well_mapped rolled_back (λ s. same_id s s.pause refl) (λ s well. one s s.pause refl well) queue.streams h
  where
    same_id : (s : Stream) (p : Pause) → s.pause ≡ p → (rolled_back s).id ≡ s.id
    same_id s Open is = rw is refl
    same_id s Pausing is = rw is refl
    same_id s HandedOut is = rw is refl

    one : (s : Stream) (p : Pause) → s.pause ≡ p → WaitsWell s → WaitsWell (rolled_back s)
    one s Open is well = rw is (record { bytes = well.bytes; unfinished = well.unfinished })
    one s Pausing is well = rw is (record { bytes = well.bytes; unfinished = well.unfinished })
    one s HandedOut is well = rw is (record { bytes = well.bytes; unfinished = well.unfinished })

handing_well : (ids : List ℕ) (streams : List Stream) → AllWaitWell streams → AllWaitWell (handing_out ids streams)
handing_well [] streams h = h
handing_well (id ∷ ids) streams h = handing_well ids _ (well_changed id handed_out (λ s. refl) streams (λ s well. record { bytes = well.bytes; unfinished = well.unfinished }) h)

pub requesting_well : (count : ℕ) (begun : Option BegunReset) (queue : SendQueueState) → AllWaitWell queue.streams → AllWaitWell (queue_requesting count begun queue).streams
requesting_well count None queue h = h
requesting_well count (Some begun) queue h = handing_well (take count (ready_streams queue)) queue.streams h

-- ---- another association

counted_id : (is_interleaved unordered : Bool) (s : Stream) → (stream_counted is_interleaved unordered s).id ≡ s.id
counted_id false false s = refl
counted_id false true s = refl
counted_id true false s = refl
counted_id true true s = refl

counted_messages : (is_interleaved unordered : Bool) (s : Stream) → (stream_counted is_interleaved unordered s).messages ≡ s.messages
counted_messages false false s = refl
counted_messages false true s = refl
counted_messages true false s = refl
counted_messages true true s = refl

renumbered_id : (is_interleaved : Bool) (s : Stream) (under_way : Option UnderWay) → s.under_way ≡ under_way → (renumbered_under_way is_interleaved s).id ≡ s.id
renumbered_id is_interleaved s None is = rw is refl
renumbered_id is_interleaved s (Some under_way) is = rw is (counted_id is_interleaved (is_front_unordered s.messages) (record s { under_way = Some under_way }))

renumbered_messages : (is_interleaved : Bool) (s : Stream) (under_way : Option UnderWay) → s.under_way ≡ under_way → (renumbered_under_way is_interleaved s).messages ≡ s.messages
renumbered_messages is_interleaved s None is = rw is refl
renumbered_messages is_interleaved s (Some under_way) is = rw is (counted_messages is_interleaved (is_front_unordered s.messages) (record s { under_way = Some under_way }))

-- What is under way has come as far.
same_unfinished : (one other : UnderWay) (messages : List Waiting) → other.sent ≡ one.sent → IsUnfinished (Some one) messages → IsUnfinished (Some other) messages
same_unfinished one other [] same h = absurd h
same_unfinished one other (message ∷ messages) same h = omega (arith, same, h)

renumbered_unfinished : (is_interleaved : Bool) (s : Stream) (under_way : Option UnderWay) → s.under_way ≡ under_way → IsUnfinished under_way s.messages → IsUnfinished (renumbered_under_way is_interleaved s).under_way s.messages
renumbered_unfinished is_interleaved s None is h = rw is tt
renumbered_unfinished is_interleaved s (Some under_way) is h = rw is (same_unfinished under_way (message_renumbered under_way (record s { under_way = Some under_way })) s.messages refl h)

renumbered_well : (is_interleaved : Bool) (s : Stream) → WaitsWell s → WaitsWell (renumbered_under_way is_interleaved s)
renumbered_well is_interleaved s well =
    let same = renumbered_messages is_interleaved s s.under_way refl in
    record {
      bytes = subst (λ (l : List Waiting). AllByRecursion HasBytesLeft l) (sym same) well.bytes;
      unfinished = subst (λ (l : List Waiting). IsUnfinished (renumbered_under_way is_interleaved s).under_way l) (sym same) (renumbered_unfinished is_interleaved s s.under_way refl well.unfinished);
    }

pub numbered_well : (enabled : Bool) (window : ℕ) (queue : SendQueueState) → AllWaitWell queue.streams → AllWaitWell (numbered_for enabled window queue).streams
numbered_well enabled window queue h = go (is_other queue.is_interleaved enabled)
  where
    go : (b : Bool) → AllWaitWell (if b then map (renumbered_under_way enabled) queue.streams else queue.streams)
    go true = well_mapped (renumbered_under_way enabled) (λ s. renumbered_id enabled s s.under_way refl) (renumbered_well enabled) queue.streams h
    go false = h

pub restarted_well : (queue : SendQueueState) → AllWaitWell queue.streams → AllWaitWell (queue_restarted queue).streams
restarted_well queue h =
    well_mapped renumbered_stream (λ s. refl) (λ s well. record { bytes = well.bytes; unfinished = well.unfinished }) (put_back queue).streams
    (well_mapped stream_put_back (λ s. refl) (λ s well. record { bytes = well.bytes; unfinished = tt }) queue.streams h)
