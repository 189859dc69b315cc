-- What a reset does to streams.
use Rattle.std.proofs.Common.{◌≡◌, ◌≢◌, ◌==◌, ℕ, zero, suc, ◌-◌, ◌<◌, true, false, Option, Result, Ok, Err, OnOk, OnErr, List, [], ◌∷◌, length, set, map, is_some, refl, sym, ap, subst, ◌∙◌, arith}
use Rattle.std.proofs.lemmas.Bool.Decides.{nat_tests}
use Rattle.dcsctp_api.specs.spec.queues.SendQueue.{SendQueueState, stream_changed, used_streams, queue_stream, IsHeld}
use Rattle.dcsctp_api.specs.types.declared.ids.StreamId.{StreamId}
use Rattle.dcsctp_api.specs.types.queues.SendStreams.{Stream, unused_stream, paused_stream, committed_stream, rolled_back, renumbered_stream, stream_at, IsAscending}
use Rattle.dcsctp_api.specs.types.declared.sending.Pause.{Pause}
use Rattle.dcsctp_api.specs.types.declared.sending.Pause.TheVariants.{Open, Pausing, HandedOut}
use Rattle.dcsctp_send_queue.specs.Ranking.{IsFound}
use Rattle.dcsctp_api.specs.spec.queues.OwnResets.{prepared_stream, prepared_open, prepared_queue, prepare_events_of, is_open_pause, dropped_size, count_under_way}
use Rattle.dcsctp_send_queue.specs.Leaving.{DropsSome, pause_events, after_pause, size_not_begun}
use Rattle.dcsctp_api.specs.spec.queues.Sending.{none}
use Rattle.dcsctp_send_queue.proofs.StreamLemmas.{stream_at-set}
use Rattle.dcsctp_send_queue.proofs.NextLemmas.{committed_stream-id, rolled_back-id}
use Rattle.dcsctp_send_queue.proofs.QueueLemmas.{same_test, other_test, changed_at, stream_found-at, set-set}
use Rattle.dcsctp_send_queue.proofs.HeldLemmas.{held-set, held-map}

-- ---- pauses end

committed_if : (pause : Pause) (s : Stream) → s.pause ≡ pause → (committed_stream s).under_way ≡ s.under_way
committed_if Open s e = rw e refl
committed_if Pausing s e = rw e refl
committed_if HandedOut s e = rw e refl

pub held-committed : (streams : List Stream) (held : Option StreamId) → IsHeld held streams → IsHeld held (map committed_stream streams)
held-committed streams held is = held-map committed_stream streams held committed_stream-id (λ s goes. ap is_some (committed_if s.pause s refl) ∙ goes) is

rolled_if : (pause : Pause) (s : Stream) → s.pause ≡ pause → (rolled_back s).under_way ≡ s.under_way
rolled_if Open s e = rw e refl
rolled_if Pausing s e = rw e refl
rolled_if HandedOut s e = rw e refl

pub held-rolled_back : (streams : List Stream) (held : Option StreamId) → IsHeld held streams → IsHeld held (map rolled_back streams)
held-rolled_back streams held is = held-map rolled_back streams held rolled_back-id (λ s goes. ap is_some (rolled_if s.pause s refl) ∙ goes) is

pub held-renumbered : (streams : List Stream) (held : Option StreamId) → IsHeld held streams → IsHeld held (map renumbered_stream streams)
held-renumbered streams held is = held-map renumbered_stream streams held (λ s. refl) (λ s goes. goes) is

-- ---- a stream is changed, or paused

-- a change of a stream that is used
pub change_used : (old mid : SendQueueState) (p id : ℕ) (f : Stream → Stream) (streams : List Stream) → mid ≡ record old { streams = used_streams old id } → IsAscending mid.streams → IsFound mid.streams id (Ok p)
    → streams ≡ set mid.streams p (f (stream_at mid.streams p)) → record mid { streams = streams } ≡ record old { streams = stream_changed id f (used_streams old id) }
change_used old mid p id f streams ok ascending found is =
    ap {A = List Stream} (λ (s : List Stream). record mid { streams = s }) (is ∙ changed_at mid.streams p id f ascending found) ∙ ap {A = SendQueueState} (λ (q : SendQueueState). record q { streams = stream_changed id f q.streams }) ok

pub on_err_map : {P Q : Type 0} {T E : Type 0} (r : Result T E) → (P → Q) → OnErr r P → OnErr r Q
on_err_map (Ok v) f h = tt
on_err_map (Err e) f h = f h

pub stays : (now : ℕ) (old new : SendQueueState) → new ≡ old → DropsSome now old new
stays now old new e = record { events = []; drops = rw e none }

pub apart_by : (a b : ℕ) → (a == b) ≡ false → a ≢ b
apart_by a b h e = let s = same_test a b e in cc

pub same_by : (a b : ℕ) → (a == b) ≡ true → a ≡ b
same_by a b h = grind (arith, nat_tests)

pub paused_set : (streams : List Stream) (p size kept : ℕ) → p < length streams
    → let less = set streams p (record (stream_at streams p) { amount = (stream_at streams p).amount - size }) in
    set less p (paused_stream kept (stream_at less p)) ≡ set streams p (prepared_stream size kept (stream_at streams p))
paused_set streams p size kept lt =
    let s : Stream = record (stream_at streams p) { amount = (stream_at streams p).amount - size } in
    set-set streams p s (paused_stream kept (stream_at (set streams p s) p)) ∙ ap (λ x. set streams p (paused_stream kept x)) (stream_at-set streams p s lt)

-- a stream that is paused at its place
pub paused_is : (queue : SendQueueState) (p id : ℕ) → IsAscending queue.streams → IsFound queue.streams id (Ok p) → after_pause p queue ≡ prepared_open id queue
paused_is queue p id ascending found =
    let at = stream_found-at (unused_stream id queue.default_priority queue.default_threshold) queue.streams p id ascending found in
    let size : size_not_begun p queue ≡ dropped_size id queue = rw at refl in
    let kept : count_under_way (stream_at queue.streams p) ≡ count_under_way (queue_stream queue id) = rw at refl in
    let streams = paused_set queue.streams p (size_not_begun p queue) (count_under_way (stream_at queue.streams p)) found.0 in
    ap {A = List Stream} (λ (s : List Stream). record queue { streams = s; total_amount = queue.total_amount - size_not_begun p queue }) streams
    ∙ (rw (size, kept) (ap {A = List Stream} (λ (s : List Stream). record queue { streams = s; total_amount = queue.total_amount - dropped_size id queue })
    (changed_at queue.streams p id (prepared_stream (dropped_size id queue) (count_under_way (queue_stream queue id))) ascending found)))

pub on_ok_map : {P Q : Type 0} {T E : Type 0} (r : Result T E) → (P → Q) → OnOk r P → OnOk r Q
on_ok_map (Ok v) f h = f h
on_ok_map (Err e) f h = tt

pub open_is : (queue : SendQueueState) (id : ℕ) → is_open_pause (queue_stream queue id).pause ≡ true → prepared_open id queue ≡ prepared_queue id queue
open_is queue id e = rw e refl

pub closed_is : (queue : SendQueueState) (id : ℕ) → is_open_pause (queue_stream queue id).pause ≡ false → queue ≡ prepared_queue id queue
closed_is queue id e = rw e refl

pub open_events : (queue : SendQueueState) (p id : ℕ) → IsAscending queue.streams → IsFound queue.streams id (Ok p) → is_open_pause (queue_stream queue id).pause ≡ true → pause_events p queue ≡ prepare_events_of id queue
open_events queue p id ascending found e =
    let at = stream_found-at (unused_stream id queue.default_priority queue.default_threshold) queue.streams p id ascending found in
    rw e (rw (at, found.1) refl)

pub closed_events : {P : Type 0} (queue : SendQueueState) (id : ℕ) → is_open_pause (queue_stream queue id).pause ≡ false → prepare_events_of {P = P} id queue ≡ []
closed_events queue id e = rw e refl

held-pause : (queue : SendQueueState) (p : ℕ) → p < length queue.streams → IsHeld queue.held queue.streams → IsHeld (after_pause p queue).held (after_pause p queue).streams
held-pause queue p lt is =
    let size = size_not_begun p queue in
    let kept = count_under_way (stream_at queue.streams p) in
    let same = paused_set queue.streams p size kept lt in
    subst (λ (z : List Stream). IsHeld queue.held z) (sym same) (held-set queue.streams p (prepared_stream size kept (stream_at queue.streams p)) queue.held is refl (λ goes. goes))

-- the stream that is held still has a message under way after a pause, or after an allocation failed
pub held-after_pause : {T E : Type 0} (r : Result T E) (old new : SendQueueState) (p : ℕ) → OnOk r (new ≡ after_pause p old) → OnErr r (new ≡ old) → p < length old.streams
    → IsHeld old.held old.streams → IsHeld new.held new.streams
held-after_pause (Ok v) old new p ok err lt is = subst (λ (q : SendQueueState). IsHeld q.held q.streams) (sym ok) (held-pause old p lt is)
held-after_pause (Err e) old new p ok err lt is = subst (λ (q : SendQueueState). IsHeld q.held q.streams) (sym err) is

pub changed_absent : (id : ℕ) (f : Stream → Stream) (streams : List Stream) → ((k : ℕ) → k < length streams → (stream_at streams k).id ≢ id) → stream_changed id f streams ≡ streams
changed_absent id f [] h = refl
changed_absent id f (x ∷ xs) h =
    let e = other_test x.id id (h zero (omega arith)) in
    rw e (ap (λ ts. x ∷ ts) (changed_absent id f xs (λ k lt. h (suc k) (omega arith))))
