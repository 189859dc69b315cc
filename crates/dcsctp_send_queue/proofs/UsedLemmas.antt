-- Streams that are used.
use Rattle.std.proofs.Common.{◌≡◌, ℕ, zero, suc, Ok, Err, List, [], ◌∷◌, set, refl, sym, ap, ◌∙◌, arith}
use Rattle.std.specs.List.{insert}
use Rattle.dcsctp_api.specs.spec.queues.SendQueue.{SendQueueState, stream_changed, with_stream, used_streams}
use Rattle.dcsctp_api.specs.types.queues.SendStreams.{Stream, unused_stream, stream_at, IsAscending}
use Rattle.dcsctp_send_queue.specs.Ranking.{IsFound}
use Rattle.dcsctp_send_queue.proofs.QueueLemmas.{less_test, not_less_test, changed_at, used_found, lost_after, used_lost, changed_insert}

pub used-found : (queue : SendQueueState) (p id : ℕ) → IsAscending queue.streams → IsFound queue.streams id (Ok p) → used_streams queue id ≡ queue.streams
used-found queue p id ascending found = let e = used_found queue.streams p id ascending found in rw e refl

pub used-lost : (queue : SendQueueState) (p id : ℕ) → IsFound queue.streams id (Err p) → used_streams queue id ≡ with_stream (unused_stream id queue.default_priority queue.default_threshold) queue.streams
used-lost queue p id lost = let e = used_lost queue.streams p id lost in rw e refl

pub insert-with_stream : (streams : List Stream) (p : ℕ) (u : Stream) → IsFound streams u.id (Err p) → insert streams p u ≡ with_stream u streams
insert-with_stream [] zero u lost = refl
insert-with_stream [] (suc p) u lost = absurd (let b = lost.0 in omega arith)
insert-with_stream (x ∷ xs) zero u lost =
    let b = lost.2 zero (omega arith) (omega arith) in
    let g = not_less_test x.id u.id (omega (arith, b)) in
    rw g refl
insert-with_stream (x ∷ xs) (suc p) u lost =
    let b = lost.1 zero (omega arith) in
    let g = less_test x.id u.id (omega (arith, b)) in
    rw g (ap (λ ts. x ∷ ts) (insert-with_stream xs p u (lost_after x xs p u.id lost)))

-- a stream that is put in, as it is used first
pub insert-used : (queue : SendQueueState) (p id : ℕ) → IsFound queue.streams id (Err p) → insert queue.streams p (unused_stream id queue.default_priority queue.default_threshold) ≡ used_streams queue id
insert-used queue p id lost = insert-with_stream queue.streams p (unused_stream id queue.default_priority queue.default_threshold) lost ∙ sym (used-lost queue p id lost)

-- a changed stream that is put in, as it is used first
pub insert-changed : (queue : SendQueueState) (p id : ℕ) (f : Stream → Stream) → IsFound queue.streams id (Err p) → insert queue.streams p (f (unused_stream id queue.default_priority queue.default_threshold)) ≡ stream_changed id f (used_streams queue id)
insert-changed queue p id f lost =
    changed_insert queue.streams p id (unused_stream id queue.default_priority queue.default_threshold) f lost refl ∙ ap (λ ts. stream_changed id f ts) (sym (used-lost queue p id lost))

-- a change of a stream that was used
pub set-changed : (queue : SendQueueState) (p id : ℕ) (f : Stream → Stream) → IsAscending queue.streams → IsFound queue.streams id (Ok p) → set queue.streams p (f (stream_at queue.streams p)) ≡ stream_changed id f (used_streams queue id)
set-changed queue p id f ascending found =
    changed_at queue.streams p id f ascending found ∙ ap (λ ts. stream_changed id f ts) (sym (used-found queue p id ascending found))
