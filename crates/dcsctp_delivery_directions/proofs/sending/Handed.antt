-- Which streams are handed out to be reset, while the user queues and sets something, and when a
-- reset ends.
use Rattle.std.proofs.Common.{◌≡◌, ◌==◌, ℕ, Bool, true, false, List, [], ◌∷◌, map, refl, sym, ◌∙◌, subst}
use Rattle.std.specs.Prelude.{nat_lt, if◌then◌else◌}
use Rattle.dcsctp_spec.specs.types.declared.sending.Pause.{Pause}
use Rattle.dcsctp_spec.specs.types.declared.sending.Pause.TheVariants.{Open, Pausing, HandedOut}
use Rattle.dcsctp_spec.specs.queues.OwnResets.{is_open_pause, count_under_way, dropped_size, prepared_stream, with_used, prepared_open, queue_with_prepared, prepared_all, queue_committed, queue_rolled_back}
use Rattle.dcsctp_spec.specs.queues.SendQueue.{SendQueueState, stream_changed, is_used, queue_stream, used_streams, with_priority, with_stream, with_threshold, queued_message}
use Rattle.dcsctp_spec.specs.types.queues.SendStreams.{Stream, committed_stream, rolled_back, unused_stream, with_message}
use Rattle.dcsctp_spec.specs.endpoint.MessageOutcomes.{Sending, sending_queued}
use Rattle.dcsctp_spec.specs.types.Setting.{Setting, stream_priority, stream_low_threshold, longest_message}
use Rattle.dcsctp_spec.specs.endpoint.SettingOutcomes.{set_in_queue}
use Rattle.dcsctp_delivery_directions.specs.sending.Numbers.{is_handed_out, stream_named}

abbrev pub IsHanded : Stream → Type 0
IsHanded stream = is_handed_out stream.pause ≡ true

-- Of the new streams those alone are handed out that were.
abbrev pub Fewer : List Stream → List Stream → Type 0
Fewer new old = (id : ℕ) → IsHanded (stream_named id new) → IsHanded (stream_named id old)

-- ---- streams that change

module _ (f : Stream → Stream) (ids : (s : Stream) → (f s).id ≡ s.id) (fewer : (s : Stream) → IsHanded (f s) → IsHanded s) where
  mapped_fewer : (streams : List Stream) → Fewer (map f streams) streams
  mapped_fewer [] id handed = handed
  mapped_fewer (s ∷ streams) id handed = go (s.id == id) (subst (λ (k : ℕ). IsHanded (if k == id then f s else stream_named id (map f streams))) (ids s) handed) (mapped_fewer streams id)
    where
      go : (b : Bool) → IsHanded (if b then f s else stream_named id (map f streams)) → (IsHanded (stream_named id (map f streams)) → IsHanded (stream_named id streams)) → IsHanded (if b then s else stream_named id streams)
      go true handed rest = fewer s handed
      go false handed rest = rest handed

changed_fewer : (other : ℕ) (f : Stream → Stream) → ((s : Stream) → (f s).id ≡ s.id) → ((s : Stream) → IsHanded (f s) → IsHanded s) → (streams : List Stream) → Fewer (stream_changed other f streams) streams
changed_fewer other f ids fewer streams =
    mapped_fewer (λ s. if s.id == other then f s else s) (λ s. one_id (s.id == other) s) (λ s. one (s.id == other) s) streams
  where
    one_id : (b : Bool) (s : Stream) → (if b then f s else s).id ≡ s.id
    one_id true s = ids s
    one_id false s = refl

    one : (b : Bool) (s : Stream) → IsHanded (if b then f s else s) → IsHanded s
    one true s handed = fewer s handed
    one false s handed = handed

-- a stream that is used for the first time isn't handed out
added_fewer : (other priority threshold : ℕ) (streams : List Stream) → Fewer (with_stream (unused_stream other priority threshold) streams) streams
added_fewer other priority threshold [] id handed = go (other == id) handed
  where
    go : (b : Bool) → IsHanded (if b then unused_stream other priority threshold else unused_stream 0 0 0) → IsHanded (stream_named id [])
    go true handed = absurd (cc)
    go false handed = absurd (cc)
added_fewer other priority threshold (s ∷ streams) id handed = go (nat_lt s.id other) handed (added_fewer other priority threshold streams id)
  where
    before : (b : Bool) → IsHanded (if b then unused_stream other priority threshold else stream_named id (s ∷ streams)) → IsHanded (stream_named id (s ∷ streams))
    before true handed = absurd (cc)
    before false handed = handed

    behind : (b : Bool) → IsHanded (if b then s else stream_named id (with_stream (unused_stream other priority threshold) streams))
        → (IsHanded (stream_named id (with_stream (unused_stream other priority threshold) streams)) → IsHanded (stream_named id streams)) → IsHanded (if b then s else stream_named id streams)
    behind true handed rest = handed
    behind false handed rest = rest handed

    go : (b : Bool) → IsHanded (stream_named id (if b then s ∷ with_stream (unused_stream other priority threshold) streams else unused_stream other priority threshold ∷ s ∷ streams))
        → (IsHanded (stream_named id (with_stream (unused_stream other priority threshold) streams)) → IsHanded (stream_named id streams)) → IsHanded (stream_named id (s ∷ streams))
    go true handed rest = behind (s.id == id) handed rest
    go false handed rest = before (other == id) handed

used_fewer : (queue : SendQueueState) (other : ℕ) → Fewer (used_streams queue other) queue.streams
used_fewer queue other id handed = go (is_used other queue.streams) handed
  where
    go : (b : Bool) → IsHanded (stream_named id (if b then queue.streams else with_stream (unused_stream other queue.default_priority queue.default_threshold) queue.streams)) → IsHanded (stream_named id queue.streams)
    go true handed = handed
    go false handed = added_fewer other queue.default_priority queue.default_threshold queue.streams id handed

-- ---- what the user does

pub queueing_handed : (now : ℕ) (sending : Sending) (queue : SendQueueState) → Fewer (sending_queued now sending queue).streams queue.streams
queueing_handed now sending queue id handed =
    used_fewer queue sending.message.stream id (changed_fewer sending.message.stream (with_message (queued_message now sending.message sending.options queue)) (λ s. refl) (λ s h. h) (used_streams queue sending.message.stream) id handed)

pub setting_handed : (setting : Setting) (queue : SendQueueState) → Fewer (set_in_queue setting queue).streams queue.streams
setting_handed (stream_priority other priority) queue id handed = used_fewer queue other id (changed_fewer other (with_priority priority) (λ s. refl) (λ s h. h) (used_streams queue other) id handed)
setting_handed (stream_low_threshold other bytes) queue id handed = used_fewer queue other id (changed_fewer other (with_threshold bytes) (λ s. refl) (λ s h. h) (used_streams queue other) id handed)
setting_handed (longest_message bytes) queue id handed = handed

prepared_fewer : (other : ℕ) (queue : SendQueueState) → Fewer (queue_with_prepared other queue).streams queue.streams
prepared_fewer other queue id handed = go (is_open_pause (queue_stream start other).pause) handed
  where
    start : SendQueueState
    start = with_used other queue

    go : (b : Bool) → IsHanded (stream_named id (if b then prepared_open other start else start).streams) → IsHanded (stream_named id queue.streams)
    go true handed =
        used_fewer queue other id
        (changed_fewer other (prepared_stream (dropped_size other start) (count_under_way (queue_stream start other))) (λ s. refl) (λ s h. absurd (cc)) start.streams id handed)
    go false handed = used_fewer queue other id handed

pub preparing_handed : (ids : List ℕ) (queue : SendQueueState) → Fewer (prepared_all ids queue).streams queue.streams
preparing_handed [] queue id handed = handed
preparing_handed (other ∷ ids) queue id handed = prepared_fewer other queue id (preparing_handed ids (queue_with_prepared other queue) id handed)

-- ---- a reset that ends

none_mapped : (f : Stream → Stream) → ((s : Stream) → IsHanded (f s) → ⊥) → (streams : List Stream) (id : ℕ) → IsHanded (stream_named id (map f streams)) → ⊥
none_mapped f none [] id handed = absurd (cc)
none_mapped f none (s ∷ streams) id handed = go ((f s).id == id) handed (none_mapped f none streams id)
  where
    go : (b : Bool) → IsHanded (if b then f s else stream_named id (map f streams)) → (IsHanded (stream_named id (map f streams)) → ⊥) → ⊥
    go true handed rest = none s handed
    go false handed rest = rest handed

open_now : (b : Bool) → b ≡ true → b ≡ false → ⊥
open_now b is isnt = (let clash : true ≡ false = sym is ∙ isnt in absurd (cc))

pub committed_handed : (queue : SendQueueState) (id : ℕ) → is_handed_out (stream_named id (queue_committed queue).streams).pause ≡ true → ⊥
committed_handed queue id handed = none_mapped committed_stream (λ s h. open_now (is_handed_out (committed_stream s).pause) h (one s s.pause refl)) queue.streams id handed
  where
    one : (s : Stream) (p : Pause) → s.pause ≡ p → is_handed_out (committed_stream s).pause ≡ false
    one s Open is = rw is refl
    one s Pausing is = rw is refl
    one s HandedOut is = rw is refl

pub rolled_back_handed : (queue : SendQueueState) (id : ℕ) → is_handed_out (stream_named id (queue_rolled_back queue).streams).pause ≡ true → ⊥
rolled_back_handed queue id handed = none_mapped rolled_back (λ s h. open_now (is_handed_out (rolled_back s).pause) h (one s s.pause refl)) queue.streams id handed
  where
    one : (s : Stream) (p : Pause) → s.pause ≡ p → is_handed_out (rolled_back s).pause ≡ false
    one s Open is = rw is refl
    one s Pausing is = rw is refl
    one s HandedOut is = rw is refl
