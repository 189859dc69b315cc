-- Streams that a flush hands out to be reset.
use Rattle.std.proofs.Common.{◌≡◌, ◌==◌, ℕ, zero, suc, Bool, true, false, ◌<◌, List, [], ◌∷◌, length, map, take, refl, sym, ◌∙◌, ap, arith, subst, inl, inr}
use Rattle.std.specs.Prelude.{◌⊎◌, ◌&&◌, not, Option, None, Some, is_some, filter, if◌then◌else◌}
use Rattle.std.proofs.lemmas.Bool.{eq-eqb}
use Rattle.std.proofs.lemmas.Bool.Decides.{eqb_tells}
use Rattle.dcsctp_spec.specs.types.declared.sending.UnderWay.{UnderWay}
use Rattle.dcsctp_spec.specs.queues.OwnResets.{handing_out, ready_streams, is_ready}
use Rattle.dcsctp_spec.specs.queues.Retransmission.{RetransmissionState}
use Rattle.dcsctp_spec.specs.queues.SendQueue.{SendQueueState, stream_changed}
use Rattle.dcsctp_spec.specs.types.queues.SendStreams.{unused_stream, Stream, stream_at, handed_out, is_pausing}
use Rattle.dcsctp_spec.specs.endpoint.BegunResets.{BegunReset, queue_requesting, retransmission_begun}
use Rattle.dcsctp_delivery_directions.specs.sending.Log.{Message, Slot, History}
use Rattle.dcsctp_delivery_directions.specs.sending.Numbers.{stream_named, is_handed_out, NumbersMessages}
use Rattle.dcsctp_delivery_directions.specs.sending.Pieces.{HoldsQueued}
use Rattle.dcsctp_delivery_directions.specs.sending.Stages.{Bears}
use Rattle.dcsctp_spec.specs.queues.Incoming.{is_named}
use Rattle.dcsctp_delivery_directions.specs.sending.Flushes.{IsNamedByReset}
use Rattle.dcsctp_delivery_directions.proofs.sending.StreamsNamed.{found_at, found_mapped}
use Rattle.dcsctp_delivery_directions.proofs.sending.KeptQueues.{one_set}
use Rattle.dcsctp_delivery_directions.proofs.sending.Pauses.{SamePause}
use Rattle.dcsctp_delivery_directions.proofs.sending.Streams.{Alike, alike_same, alike_twice, alike_hold}
use Rattle.dcsctp_delivery_directions.proofs.sending.Numbers.{NumbersStay, numbers_same, numbers_then, numbers_if}
use Rattle.dcsctp_delivery_directions.proofs.sending.Numbered.{numbered_stay}

-- ---- what waits stays

pub changed_alike : (id : ℕ) (streams : List Stream) → Alike streams (stream_changed id handed_out streams)
changed_alike id streams = one_set handed_out (λ s. refl) (λ s. refl) (λ s. refl) id streams

handing_alike : (ids : List ℕ) (streams : List Stream) → Alike streams (handing_out ids streams)
handing_alike [] streams = alike_same streams
handing_alike (id ∷ ids) streams = alike_twice streams (stream_changed id handed_out streams) (handing_out ids (stream_changed id handed_out streams)) (changed_alike id streams) (handing_alike ids (stream_changed id handed_out streams))

pub requesting_alike : (count : ℕ) (begun : Option BegunReset) (queue : SendQueueState) → Alike queue.streams (queue_requesting count begun queue).streams
requesting_alike count None queue = alike_same queue.streams
requesting_alike count (Some begun) queue = handing_alike (take count (ready_streams queue)) queue.streams

pub requesting_hold : (queued : List Message) (log : List Slot) (count : ℕ) (begun : Option BegunReset) (queue : SendQueueState) → HoldsQueued queued log queue.streams
    → HoldsQueued queued log (queue_requesting count begun queue).streams
requesting_hold queued log count begun queue queue_holds = alike_hold queued log queue.streams (queue_requesting count begun queue).streams (requesting_alike count begun queue) queue_holds

-- ---- a stream with a message under way is none of them

-- The stream of this number at a place is ready.
record IsReadyAt (streams : List Stream) (id : ℕ) : Type 0 where
  q : ℕ
  within : q < length streams
  is : (stream_at streams q).id ≡ id
  ready : is_ready (stream_at streams q) ≡ true

ready_at : (streams : List Stream) (id : ℕ) → is_named (map (λ stream. stream.id) (filter is_ready streams)) id ≡ true → IsReadyAt streams id
ready_at [] id named = absurd (cc)
ready_at (s ∷ streams) id named = go (is_ready s) refl named (λ rest. later (ready_at streams id rest))
  where
    later : IsReadyAt streams id → IsReadyAt (s ∷ streams) id
    later r = record { q = suc r.q; within = omega (arith, r.within); is = r.is; ready = r.ready }

    go : (b : Bool) → is_ready s ≡ b → is_named (map (λ stream. stream.id) (if b then s ∷ filter is_ready streams else filter is_ready streams)) id ≡ true
        → (is_named (map (λ stream. stream.id) (filter is_ready streams)) id ≡ true → IsReadyAt (s ∷ streams) id) → IsReadyAt (s ∷ streams) id
    go true ready named' rest =
        elim (eqb_tells s.id id) [
          | inl e ↦ record { q = 0; within = omega arith; is = e.1; ready = ready }
          | inr e ↦ rest (rw e.0 at named')
        ]
    go false ready named' rest = rest named'

ready_idle : (s : Stream) → is_ready s ≡ true → s.under_way ≡ None
ready_idle s ready = go (is_pausing s.pause) s.under_way ready
  where
    go : (b : Bool) (u : Option UnderWay) → (b && not (is_some u)) ≡ true → u ≡ None
    go b None e = refl
    go true (Some u) e = absurd (cc)
    go false (Some u) e = absurd (cc)

-- None of these streams has a message under way.
abbrev pub AreIdle : List Stream → List ℕ → Type 0
AreIdle streams ids = (id : ℕ) → is_named ids id ≡ true → (stream_named id streams).under_way ≡ None

taken_named : (count : ℕ) (ids : List ℕ) (id : ℕ) → is_named (take count ids) id ≡ true → is_named ids id ≡ true
taken_named zero ids id named = absurd (cc)
taken_named (suc count) [] id named = absurd (cc)
taken_named (suc count) (first ∷ ids) id named =
    elim (eqb_tells first id) [
      | inl e ↦ rw e.0 refl
      | inr e ↦ rw e.0 (taken_named count ids id (rw e.0 at named))
    ]

pub none_handed : (queued : List Message) (log : List Slot) (count : ℕ) (queue : SendQueueState) → HoldsQueued queued log queue.streams → AreIdle queue.streams (take count (ready_streams queue))
none_handed queued log count queue queue_holds id named =
    let r = ready_at queue.streams id (taken_named count (ready_streams queue) id named) in
    let found = found_at (unused_stream 0 0 0) r.q queue.streams r.within queue_holds.distinct in
    let same : stream_named id queue.streams ≡ stream_at queue.streams r.q = subst (λ (k : ℕ). stream_named k queue.streams ≡ stream_at queue.streams r.q) r.is found in
    ap (λ (s : Stream). s.under_way) same ∙ ready_idle (stream_at queue.streams r.q) r.ready

-- messages are numbered as before
handing_one : (id : ℕ) (streams : List Stream) → (stream_named id streams).under_way ≡ None → NumbersStay streams (stream_changed id handed_out streams)
handing_one id streams idle =
    numbers_if (λ s. s.under_way ≡ None) id handed_out (λ s. refl) (λ s. record { ordered = refl; unordered = refl; ssn = refl })
    (λ s none. record { under_way = refl; front = λ some. refl; kept = λ some e. absurd (let clash : false ≡ true = sym (ap is_some none) ∙ some in cc) }) streams idle

handing_numbers : (ids : List ℕ) (streams : List Stream) → AreIdle streams ids → NumbersStay streams (handing_out ids streams)
handing_numbers [] streams idle = numbers_same streams
handing_numbers (id ∷ ids) streams idle =
    let first = handing_one id streams (idle id (first_named id ids)) in
    numbers_then streams (stream_changed id handed_out streams) (handing_out ids (stream_changed id handed_out streams)) first
    (handing_numbers ids (stream_changed id handed_out streams) (λ k named. (first.fronts k).under_way ∙ idle k (later_named id ids k named)))
  where
    first_named : (id : ℕ) (ids : List ℕ) → is_named (id ∷ ids) id ≡ true
    first_named id ids = rw (eq-eqb id id refl) refl

    later_named : (id : ℕ) (ids : List ℕ) (k : ℕ) → is_named ids k ≡ true → is_named (id ∷ ids) k ≡ true
    later_named id ids k named = elim (eqb_tells id k) [ inl e ↦ rw e.0 refl | inr e ↦ rw e.0 named ]

pub requesting_stay : (queued : List Message) (log : List Slot) (count : ℕ) (begun : Option BegunReset) (queue : SendQueueState) → HoldsQueued queued log queue.streams → NumbersStay queue.streams (queue_requesting count begun queue).streams
requesting_stay queued log count None queue queue_holds = numbers_same queue.streams
requesting_stay queued log count (Some begun) queue queue_holds = handing_numbers (take count (ready_streams queue)) queue.streams (none_handed queued log count queue queue_holds)

pub requesting_kind : (count : ℕ) (begun : Option BegunReset) (queue : SendQueueState) → (queue_requesting count begun queue).is_interleaved ≡ queue.is_interleaved
requesting_kind count None queue = refl
requesting_kind count (Some begun) queue = refl

pub begun_kind : (begun : Option BegunReset) (state : RetransmissionState) → (retransmission_begun begun state).outstanding.is_interleaved ≡ state.outstanding.is_interleaved
begun_kind None state = refl
begun_kind (Some begun) state = refl

pub requesting_numbered : (queued : List Message) (history : History) (count : ℕ) (begun : Option BegunReset) (queue : SendQueueState) → HoldsQueued queued history.log queue.streams → NumbersMessages history queue
    → NumbersMessages history (queue_requesting count begun queue)
requesting_numbered queued history count None queue queue_holds numbers = numbers
requesting_numbered queued history count (Some begun) queue queue_holds numbers =
    numbered_stay history queue (queue_requesting count (Some begun) queue) refl refl refl (requesting_stay queued history.log count (Some begun) queue queue_holds) numbers

pub begun_bears : (history : History) (first acknowledged : ℕ) (begun : Option BegunReset) (state : RetransmissionState) → Bears history first acknowledged state.outstanding → Bears history first acknowledged (retransmission_begun begun state).outstanding
begun_bears history first acknowledged None state b = b
begun_bears history first acknowledged (Some begun) state b = b

-- ---- which streams are handed out then

handed_by : (ids : List ℕ) (streams : List Stream) (id : ℕ) → is_handed_out (stream_named id (handing_out ids streams)).pause ≡ true → (is_handed_out (stream_named id streams).pause ≡ true) ⊎ (is_named ids id ≡ true)
handed_by [] streams id handed = inl handed
handed_by (first ∷ ids) streams id handed =
    elim (eqb_tells first id) [
      | inl e ↦ inr (rw e.0 refl)
      | inr e ↦
          elim (handed_by ids (stream_changed first handed_out streams) id handed) [
            | inl before ↦ inl (sym (other first streams id (λ same. e.1 (sym same))) ∙ before)
            | inr named ↦ inr (rw e.0 named)
          ]
    ]
  where
    other : (first : ℕ) (streams : List Stream) (id : ℕ) → (id ≡ first → ⊥) → is_handed_out (stream_named id (stream_changed first handed_out streams)).pause ≡ is_handed_out (stream_named id streams).pause
    other first streams id ne = found_mapped SamePause id (unused_stream 0 0 0) (λ s. if s.id == first then handed_out s else s) (λ s. one_id (s.id == first) s) refl (λ s here. one_pause s here) streams
      where
        one_id : (b : Bool) (s : Stream) → (if b then handed_out s else s).id ≡ s.id
        one_id true s = refl
        one_id false s = refl

        one_pause : (s : Stream) → s.id ≡ id → SamePause s (if s.id == first then handed_out s else s)
        one_pause s here = elim (eqb_tells s.id first) [ inl e ↦ absurd (ne (sym here ∙ e.1)) | inr e ↦ rw e.0 refl ]

pub requesting_handed : (count : ℕ) (begun : Option BegunReset) (queue : SendQueueState) (id : ℕ) → is_handed_out (stream_named id (queue_requesting count begun queue).streams).pause ≡ true
    → (is_handed_out (stream_named id queue.streams).pause ≡ true) ⊎ IsNamedByReset begun (take count (ready_streams queue)) id
requesting_handed count None queue id handed = inl handed
requesting_handed count (Some begun) queue id handed = handed_by (take count (ready_streams queue)) queue.streams id handed
