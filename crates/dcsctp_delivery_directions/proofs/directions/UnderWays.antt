-- Messages, settings, and resets that end leave what is under way on each stream.
use Rattle.std.proofs.Common.{◌≡◌, ◌==◌, ℕ, Bool, true, false, ◌+◌, List, [], ◌∷◌, map, refl, sym, ◌∙◌, ap}
use Rattle.std.specs.Prelude.{is_some, nat_lt, if◌then◌else◌}
use Rattle.std.proofs.lemmas.List.Sums.{sum_by-cons}
use Rattle.dcsctp_spec.specs.types.declared.sending.Pause.{Pause}
use Rattle.dcsctp_spec.specs.types.declared.sending.Pause.TheVariants.{Open, Pausing, HandedOut}
use Rattle.dcsctp_spec.specs.types.queues.SendStreams.{Stream, committed_stream, rolled_back, unused_stream, with_message}
use Rattle.dcsctp_spec.specs.types.Setting.{Setting, stream_priority, stream_low_threshold, longest_message}
use Rattle.dcsctp_spec.specs.endpoint.MessageOutcomes.{Sending, sending_queued}
use Rattle.dcsctp_spec.specs.endpoint.SettingOutcomes.{set_in_queue}
use Rattle.dcsctp_spec.specs.queues.OwnResets.{is_open_pause, count_under_way, dropped_size, prepared_stream, with_used, prepared_open, queue_with_prepared, prepared_all, queue_committed, queue_rolled_back}
use Rattle.dcsctp_spec.specs.queues.SendQueue.{SendQueueState, stream_changed, with_stream, is_used, used_streams, queue_stream, with_priority, with_threshold, queued_message}
use Rattle.dcsctp_delivery_directions.specs.sending.ChunkCounts.{going}
use Rattle.dcsctp_delivery_directions.specs.sending.Log.{History}
use Rattle.dcsctp_delivery_directions.specs.sending.Numbers.{stream_named}
use Rattle.dcsctp_delivery_directions.specs.sending.Stages.{AreMarks}
use Rattle.dcsctp_delivery_directions.proofs.sending.Marks.{marks_stay}
use Rattle.dcsctp_delivery_directions.proofs.sending.StreamsNamed.{found_mapped, found_used}

-- The message under way is the same.
abbrev pub KeepsWay : Stream → Stream → Type 0
KeepsWay old new = new.under_way ≡ old.under_way

-- So it is on each stream, and as many are under way.
pub record KeepWays (old new : List Stream) : Type 0 where
  pub each : (id : ℕ) → KeepsWay (stream_named id old) (stream_named id new)
  pub count : going new ≡ going old

pub ways_same : (streams : List Stream) → KeepWays streams streams
ways_same streams = record { each = λ id. refl; count = refl }

pub ways_then : (old between new : List Stream) → KeepWays old between → KeepWays between new → KeepWays old new
ways_then old between new one two = record { each = λ id. two.each id ∙ one.each id; count = two.count ∙ one.count }

-- ---- streams that change

pub going_mapped : (f : Stream → Stream) → ((s : Stream) → is_some (f s).under_way ≡ is_some s.under_way) → (streams : List Stream) → going (map f streams) ≡ going streams
going_mapped f keeps [] = refl
going_mapped f keeps (s ∷ streams) =
    let here : count_under_way (f s) ≡ count_under_way s = ap (λ (b : Bool). if b then 1 else 0) (keeps s) in
    sum_by-cons count_under_way (f s) (map f streams) ∙ ap (λ (k : ℕ). k + going (map f streams)) here ∙ ap (λ (k : ℕ). count_under_way s + k) (going_mapped f keeps streams) ∙ sym (sum_by-cons count_under_way s streams)

ways_mapped : (f : Stream → Stream) → ((s : Stream) → (f s).id ≡ s.id) → ((s : Stream) → KeepsWay s (f s)) → (streams : List Stream) → KeepWays streams (map f streams)
ways_mapped f ids keeps streams = record { each = λ id. found_mapped KeepsWay id (unused_stream 0 0 0) f ids refl (λ s is. keeps s) streams; count = going_mapped f (λ s. ap is_some (keeps s)) streams }

pub ways_changed : (other : ℕ) (f : Stream → Stream) → ((s : Stream) → (f s).id ≡ s.id) → ((s : Stream) → KeepsWay s (f s)) → (streams : List Stream) → KeepWays streams (stream_changed other f streams)
ways_changed other f ids keeps streams = ways_mapped (λ s. if s.id == other then f s else s) (λ s. one_id (s.id == other) s) (λ s. one (s.id == other) s) streams
  where
    one_id : (b : Bool) (s : Stream) → (if b then f s else s).id ≡ s.id
    one_id true s = ids s
    one_id false s = refl

    one : (b : Bool) (s : Stream) → KeepsWay s (if b then f s else s)
    one true s = keeps s
    one false s = refl

-- none is under way on a stream that is used for the first time
going_added : (other priority threshold : ℕ) (streams : List Stream) → going (with_stream (unused_stream other priority threshold) streams) ≡ going streams
going_added other priority threshold [] = refl
going_added other priority threshold (s ∷ streams) = go (nat_lt s.id other) (going_added other priority threshold streams)
  where
    go : (b : Bool) → going (with_stream (unused_stream other priority threshold) streams) ≡ going streams
        → going (if b then s ∷ with_stream (unused_stream other priority threshold) streams else unused_stream other priority threshold ∷ s ∷ streams) ≡ going (s ∷ streams)
    go true rest =
        sum_by-cons count_under_way s (with_stream (unused_stream other priority threshold) streams) ∙ ap (λ (k : ℕ). count_under_way s + k) rest ∙ sym (sum_by-cons count_under_way s streams)
    go false rest = refl

ways_used : (queue : SendQueueState) (other : ℕ) → KeepWays queue.streams (used_streams queue other)
ways_used queue other = record { each = λ id. found_used KeepsWay id queue other (λ s. refl) (λ s t are. are.idle_then ∙ sym are.idle); count = go (is_used other queue.streams) }
  where
    go : (b : Bool) → going (if b then queue.streams else with_stream (unused_stream other queue.default_priority queue.default_threshold) queue.streams) ≡ going queue.streams
    go true = refl
    go false = going_added other queue.default_priority queue.default_threshold queue.streams

ways_used_changed : (queue : SendQueueState) (other : ℕ) (f : Stream → Stream) → ((s : Stream) → (f s).id ≡ s.id) → ((s : Stream) → KeepsWay s (f s)) → KeepWays queue.streams (stream_changed other f (used_streams queue other))
ways_used_changed queue other f ids keeps =
    ways_then queue.streams (used_streams queue other) (stream_changed other f (used_streams queue other)) (ways_used queue other) (ways_changed other f ids keeps (used_streams queue other))

-- ---- what the user does

pub queueing_ways : (now : ℕ) (sending : Sending) (queue : SendQueueState) → KeepWays queue.streams (sending_queued now sending queue).streams
queueing_ways now sending queue = ways_used_changed queue sending.message.stream (with_message (queued_message now sending.message sending.options queue)) (λ s. refl) (λ s. refl)

pub setting_ways : (setting : Setting) (queue : SendQueueState) → KeepWays queue.streams (set_in_queue setting queue).streams
setting_ways (stream_priority other priority) queue = ways_used_changed queue other (with_priority priority) (λ s. refl) (λ s. refl)
setting_ways (stream_low_threshold other bytes) queue = ways_used_changed queue other (with_threshold bytes) (λ s. refl) (λ s. refl)
setting_ways (longest_message bytes) queue = ways_same queue.streams

prepared_ways : (other : ℕ) (queue : SendQueueState) → KeepWays queue.streams (queue_with_prepared other queue).streams
prepared_ways other queue = go (is_open_pause (queue_stream start other).pause)
  where
    start : SendQueueState
    start = with_used other queue

    go : (b : Bool) → KeepWays queue.streams (if b then prepared_open other start else start).streams
    go true = ways_used_changed queue other (prepared_stream (dropped_size other start) (count_under_way (queue_stream start other))) (λ s. refl) (λ s. refl)
    go false = ways_used queue other

pub preparing_ways : (ids : List ℕ) (queue : SendQueueState) → KeepWays queue.streams (prepared_all ids queue).streams
preparing_ways [] queue = ways_same queue.streams
preparing_ways (other ∷ ids) queue =
    ways_then queue.streams (queue_with_prepared other queue).streams (prepared_all (other ∷ ids) queue).streams (prepared_ways other queue) (preparing_ways ids (queue_with_prepared other queue))

-- ---- a reset that ends

pub committed_ways : (queue : SendQueueState) → KeepWays queue.streams (queue_committed queue).streams
committed_ways queue = ways_mapped committed_stream (λ s. same_id s s.pause refl) (λ s. one s s.pause refl) queue.streams
  where
    same_id : (s : Stream) (p : Pause) → s.pause ≡ p → (committed_stream s).id ≡ s.id
    same_id s Open is = rw is refl
    same_id s Pausing is = rw is refl
    same_id s HandedOut is = rw is refl

    one : (s : Stream) (p : Pause) → s.pause ≡ p → KeepsWay s (committed_stream s)
    one s Open is = rw is refl
    one s Pausing is = rw is refl
    one s HandedOut is = rw is refl

pub rolled_back_ways : (queue : SendQueueState) → KeepWays queue.streams (queue_rolled_back queue).streams
rolled_back_ways queue = ways_mapped rolled_back (λ s. same_id s s.pause refl) (λ s. one s s.pause refl) queue.streams
  where
    same_id : (s : Stream) (p : Pause) → s.pause ≡ p → (rolled_back s).id ≡ s.id
    same_id s Open is = rw is refl
    same_id s Pausing is = rw is refl
    same_id s HandedOut is = rw is refl

    one : (s : Stream) (p : Pause) → s.pause ≡ p → KeepsWay s (rolled_back s)
    one s Open is = rw is refl
    one s Pausing is = rw is refl
    one s HandedOut is = rw is refl

-- ---- resets that were begun

pub marks_kept : (history : History) (first : ℕ) (old new : List Stream) → KeepWays old new → AreMarks history first old → AreMarks history first new
marks_kept history first old new ways = marks_stay history first old new (λ id is. ap is_some (sym (ways.each id)) ∙ is)
