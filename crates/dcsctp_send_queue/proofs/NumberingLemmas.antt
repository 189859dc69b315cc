-- Messages under way that other numbers count.
use Rattle.std.proofs.Common.{◌≡◌, ◌∙◌, ◌<◌, ◌+◌, ℕ, zero, suc, Bool, true, Option, None, Some, is_some, List, [], ◌∷◌, length, set, map, refl, sym, ap}
use Rattle.dcsctp_api.specs.spec.queues.SendQueue.{SendQueueState, IsUnderWay, CanGoOn, IsHeld, is_front_unordered, message_renumbered, renumbered_under_way}
use Rattle.dcsctp_api.specs.types.declared.ids.StreamId.{StreamId}
use Rattle.dcsctp_api.specs.types.declared.sending.UnderWay.{UnderWay}
use Rattle.dcsctp_api.specs.types.queues.SendStreams.{Stream, front_of, stream_counted, stream_with_progress, stream_at}
use Rattle.dcsctp_send_queue.proofs.Mapped.{mapped_to, mapped_to-step}
use Rattle.dcsctp_send_queue.proofs.StreamLemmas.{stream_at-set, counted-id, counted-messages}
use Rattle.dcsctp_send_queue.proofs.QueueLemmas.{set-set}
use Rattle.dcsctp_send_queue.proofs.HeldLemmas.{held-map}

-- a stream that isn't changed
pub set_itself : (streams : List Stream) (p : ℕ) → set streams p (stream_at streams p) ≡ streams
set_itself [] p = refl
set_itself (x ∷ xs) zero = refl
set_itself (x ∷ xs) (suc p) = ap (λ ts. x ∷ ts) (set_itself xs p)

-- a stream that was changed is changed again
pub changed_again : (streams : List Stream) (p : ℕ) (s : Stream) (f : Stream → Stream) → p < length streams → set (set streams p s) p (f (stream_at (set streams p s) p)) ≡ set streams p (f s)
changed_again streams p s f lt = set-set streams p s (f (stream_at (set streams p s) p)) ∙ ap (λ x. set streams p (f x)) (stream_at-set streams p s lt)

idle_anew : (b : Bool) (s : Stream) → s.under_way ≡ None → renumbered_under_way b s ≡ s
idle_anew b s e = rw e refl

-- Without a message under way nothing changes.
pub anew_none : (b : Bool) (streams : List Stream) (p : ℕ) → (stream_at streams p).under_way ≡ None → streams ≡ set streams p (renumbered_under_way b (stream_at streams p))
anew_none b streams p e = sym (ap (set streams p) (idle_anew b (stream_at streams p) e) ∙ set_itself streams p)

going_anew : (b : Bool) (s : Stream) (u : UnderWay) → s.under_way ≡ Some u
    → stream_with_progress (message_renumbered u s) (stream_counted b (is_front_unordered s.messages) s) ≡ renumbered_under_way b s
going_anew b s u e = rw e refl

-- The next number of the stream at its place is the message's now.
pub anew_some : (b unordered : Bool) (streams between after : List Stream) (p : ℕ) (u next : UnderWay) → p < length streams → (stream_at streams p).under_way ≡ Some u
    → unordered ≡ is_front_unordered (stream_at streams p).messages → between ≡ set streams p (stream_counted b unordered (stream_at streams p))
    → next ≡ message_renumbered u (stream_at streams p) → after ≡ set between p (stream_with_progress next (stream_at between p))
    → after ≡ set streams p (renumbered_under_way b (stream_at streams p))
anew_some b unordered streams between after p u next lt goes is first renumbered then =
    let s : Stream = stream_at streams p in
    let counted = first ∙ ap (λ (o : Bool). set streams p (stream_counted b o s)) is in
    then ∙ (ap (λ (t : List Stream). set t p (stream_with_progress next (stream_at t p))) counted
    ∙ (changed_again streams p (stream_counted b (is_front_unordered s.messages) s) (stream_with_progress next) lt
    ∙ (ap (λ (n : UnderWay). set streams p (stream_with_progress n (stream_counted b (is_front_unordered s.messages) s))) renumbered
    ∙ ap (set streams p) (going_anew b s u goes))))

can_by : (b unordered : Bool) (s : Stream) (u next : UnderWay) → s.under_way ≡ Some u → CanGoOn s → next ≡ message_renumbered u s
    → IsUnderWay (stream_counted b unordered s).id (stream_counted b unordered s).messages next
can_by b unordered s u next goes can is =
    let now : IsUnderWay s.id s.messages u = rw goes at can in
    rw is (record {
      is = counted-id b unordered s ∙ now.is;
      message = now.message;
      front = ap (λ m. front_of m) (counted-messages b unordered s) ∙ now.front;
      begun = now.begun;
      unfinished = now.unfinished;
    })

-- it can continue
pub anew_can : (b unordered : Bool) (streams between : List Stream) (p : ℕ) (u next : UnderWay) → p < length streams → (stream_at streams p).under_way ≡ Some u → CanGoOn (stream_at streams p)
    → between ≡ set streams p (stream_counted b unordered (stream_at streams p)) → next ≡ message_renumbered u (stream_at streams p)
    → IsUnderWay (stream_at between p).id (stream_at between p).messages next
anew_can b unordered streams between p u next lt goes can first is =
    let at : stream_at between p ≡ stream_counted b unordered (stream_at streams p) =
    ap (λ (t : List Stream). stream_at t p) first ∙ stream_at-set streams p (stream_counted b unordered (stream_at streams p)) lt in
    rw at (can_by b unordered (stream_at streams p) u next goes can is)

-- one more is numbered anew
pub anew_step : (b : Bool) (old now new : SendQueueState) (k j : ℕ) → now ≡ record old { is_interleaved = b; streams = mapped_to k (renumbered_under_way b) old.streams }
    → new ≡ record now { streams = set now.streams k (renumbered_under_way now.is_interleaved (stream_at now.streams k)) } → j ≡ k + 1 → k < length old.streams
    → new ≡ record old { is_interleaved = b; streams = mapped_to j (renumbered_under_way b) old.streams }
anew_step b old now new k j is then e lt =
    then ∙ (ap {A = SendQueueState} (λ (q : SendQueueState). record q { streams = set q.streams k (renumbered_under_way q.is_interleaved (stream_at q.streams k)) }) is
    ∙ ap {A = List Stream} (λ (s : List Stream). record old { is_interleaved = b; streams = s }) (mapped_to-step k j (renumbered_under_way b) old.streams e lt))

anew_id : (b : Bool) (s : Stream) (w : Option UnderWay) → s.under_way ≡ w → (renumbered_under_way b s).id ≡ s.id
anew_id b s None e = ap (λ x. x.id) (idle_anew b s e)
anew_id b s (Some u) e = ap (λ x. x.id) (sym (going_anew b s u e)) ∙ counted-id b (is_front_unordered s.messages) s

anew_goes : (b : Bool) (s : Stream) (w : Option UnderWay) → s.under_way ≡ w → is_some w ≡ true → is_some (renumbered_under_way b s).under_way ≡ true
anew_goes b s None e some = absurd (cc)
anew_goes b s (Some u) e some = ap (λ x. is_some x.under_way) (sym (going_anew b s u e))

pub held-anew : (b : Bool) (streams : List Stream) (held : Option StreamId) → IsHeld held streams → IsHeld held (map (renumbered_under_way b) streams)
held-anew b streams held is = held-map (renumbered_under_way b) streams held (λ s. anew_id b s s.under_way refl) (λ s goes. anew_goes b s s.under_way refl goes) is
