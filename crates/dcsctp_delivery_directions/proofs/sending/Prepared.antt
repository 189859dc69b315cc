-- Streams that are prepared to be reset keep what is under way.
use Rattle.std.proofs.Common.{◌≡◌, ◌≢◌, ◌==◌, ℕ, zero, suc, Bool, true, false, ◌<◌, ◌≤◌, ◌^◌, List, [], ◌∷◌, length, take, drop, refl, sym, ◌∙◌, ap, arith, subst, inl, inr}
use Rattle.std.specs.Prelude.{Option, None, Some, is_some, if◌then◌else◌}
use Rattle.std.specs.List.{AllByRecursion}
use Rattle.std.proofs.lemmas.Bool.Decides.{eqb_tells}
use Rattle.dcsctp_spec.specs.types.declared.sending.UnderWay.{UnderWay}
use Rattle.dcsctp_spec.specs.types.queues.SendStreams.{Waiting, Stream, front_of, stream_at, unused_stream}
use Rattle.dcsctp_spec.specs.queues.OwnResets.{is_open_pause, count_under_way, dropped_size, prepared_stream, with_used, prepared_open, queue_with_prepared, prepared_all}
use Rattle.dcsctp_spec.specs.queues.SendQueue.{SendQueueState, queue_stream, stream_changed}
use Rattle.dcsctp_delivery_directions.specs.sending.Places.{at_place}
use Rattle.dcsctp_delivery_directions.specs.sending.Log.{Message, Piece, Slot, History}
use Rattle.dcsctp_delivery_directions.specs.sending.Numbers.{stream_named}
use Rattle.dcsctp_delivery_directions.specs.sending.Pieces.{AllQueued, AllBeyond, Ascend, unbegun, Going, HoldsQueued}
use Rattle.dcsctp_delivery_directions.specs.sending.Queueing.{QueueHolds}
use Rattle.dcsctp_delivery_directions.specs.sending.Weights.{weight}
use Rattle.dcsctp_delivery_directions.proofs.sending.Numbers.{NumbersStay, numbers_if, numbers_used}
use Rattle.dcsctp_delivery_directions.proofs.sending.Numbered.{numbered_stay}
use Rattle.dcsctp_delivery_directions.proofs.sending.NewStreams.{used_hold, empty_unbegun}
use Rattle.dcsctp_delivery_directions.proofs.sending.Places.{decide}
use Rattle.dcsctp_delivery_directions.proofs.sending.Streams.{within_streams, there_or_empty, unbegun_same}
use Rattle.dcsctp_delivery_directions.proofs.sending.StreamWeights.{same_size}
use Rattle.dcsctp_delivery_directions.proofs.sending.StreamsNamed.{found_at, found_default, at_mapped}
use Rattle.dcsctp_delivery_directions.proofs.sending.Weights.{weight_prepared}

take_queued : (queued : List Message) (id k : ℕ) (messages : List Waiting) → AllQueued queued id messages → AllQueued queued id (take k messages)
take_queued queued id zero messages are = tt
take_queued queued id (suc k) [] are = tt
take_queued queued id (suc k) (w ∷ messages) are = (are.0, take_queued queued id k messages are.1)

take_beyond : (place k : ℕ) (messages : List Waiting) → AllBeyond place messages → AllBeyond place (take k messages)
take_beyond place zero messages are = tt
take_beyond place (suc k) [] are = tt
take_beyond place (suc k) (w ∷ messages) are = (are.0, take_beyond place k messages are.1)

take_ascend : (k : ℕ) (messages : List Waiting) → Ascend messages → Ascend (take k messages)
take_ascend zero messages are = tt
take_ascend (suc k) [] are = tt
take_ascend (suc k) (w ∷ messages) are = (take_beyond w.message_id k messages are.0, take_ascend k messages are.1)

-- one stream keeps that many of its messages
record Shortened (id kept : ℕ) (old new : List Stream) : Type 0 where
  sizes : length new ≡ length old
  ids : (q : ℕ) → (stream_at new q).id ≡ (stream_at old q).id
  others : (q : ℕ) → (stream_at old q).id ≢ id → (stream_at new q).messages ≡ (stream_at old q).messages
  under_ways : (q : ℕ) → (stream_at new q).under_way ≡ (stream_at old q).under_way
  here : (q : ℕ) → (stream_at old q).id ≡ id → (stream_at new q).messages ≡ take kept (stream_at old q).messages

shortened : (id size kept : ℕ) (streams : List Stream) → Shortened id kept streams (stream_changed id (prepared_stream size kept) streams)
shortened id size kept streams = record { sizes = sizes streams; ids = ids streams; others = others streams; under_ways = at_mapped (λ s. s.under_way) (λ s. if s.id == id then prepared_stream size kept s else s) (λ s. one_under_way (s.id == id) s) streams; here = here streams }
  where
    one_id : (b : Bool) (s : Stream) → (if b then prepared_stream size kept s else s).id ≡ s.id
    one_id true s = refl
    one_id false s = refl

    one_under_way : (b : Bool) (s : Stream) → (if b then prepared_stream size kept s else s).under_way ≡ s.under_way
    one_under_way true s = refl
    one_under_way false s = refl

    none : (k : ℕ) → take {A = Waiting} k [] ≡ []
    none zero = refl
    none (suc k) = refl

    sizes : (l : List Stream) → length (stream_changed id (prepared_stream size kept) l) ≡ length l
    sizes [] = refl
    sizes (s ∷ l) = ap suc (sizes l)

    ids : (l : List Stream) (q : ℕ) → (stream_at (stream_changed id (prepared_stream size kept) l) q).id ≡ (stream_at l q).id
    ids [] zero = refl
    ids [] (suc q) = refl
    ids (s ∷ l) zero = one_id (s.id == id) s
    ids (s ∷ l) (suc q) = ids l q

    others : (l : List Stream) (q : ℕ) → (stream_at l q).id ≢ id → (stream_at (stream_changed id (prepared_stream size kept) l) q).messages ≡ (stream_at l q).messages
    others [] zero ne = refl
    others [] (suc q) ne = refl
    others (s ∷ l) zero ne = elim (eqb_tells s.id id) [ inl e ↦ absurd (ne e.1) | inr e ↦ rw e.0 refl ]
    others (s ∷ l) (suc q) ne = others l q ne

    here : (l : List Stream) (q : ℕ) → (stream_at l q).id ≡ id → (stream_at (stream_changed id (prepared_stream size kept) l) q).messages ≡ take kept (stream_at l q).messages
    here [] zero is = sym (none kept)
    here [] (suc q) is = sym (none kept)
    here (s ∷ l) zero is = elim (eqb_tells s.id id) [ inl e ↦ rw e.0 refl | inr e ↦ absurd (e.1 is) ]
    here (s ∷ l) (suc q) is = here l q is

-- all that is kept of a stream is under way
kept_unbegun : (place kept : ℕ) (old new : Stream) → new.messages ≡ take kept old.messages → new.under_way ≡ old.under_way → kept ≡ count_under_way old → AllBeyond place (unbegun new)
kept_unbegun place kept old new is under_way counts =
    subst (λ (u : Option UnderWay). AllBeyond place (drop (if is_some u then 1 else 0) new.messages)) (sym under_way)
    (subst (λ (l : List Waiting). AllBeyond place (drop (if is_some old.under_way then 1 else 0) l)) (sym is)
    (subst (λ (k : ℕ). AllBeyond place (drop (if is_some old.under_way then 1 else 0) (take k old.messages))) (sym counts) (go (is_some old.under_way) old.messages)))
  where
    go : (b : Bool) (l : List Waiting) → AllBeyond place (drop (if b then 1 else 0) (take (if b then 1 else 0) l))
    go true [] = tt
    go true (w ∷ l) = tt
    go false l = tt

first_taken : (l : List Waiting) → front_of (take 1 l) ≡ front_of l
first_taken [] = refl
first_taken (w ∷ l) = refl

-- so its front is kept, if it is under way
front_taken : (kept : ℕ) (old : Stream) → kept ≡ count_under_way old → is_some old.under_way ≡ true → front_of (take kept old.messages) ≡ front_of old.messages
front_taken kept old counts some =
    let one : kept ≡ 1 = counts ∙ ap (λ (b : Bool). if b then 1 else 0) some in
    ap (λ (k : ℕ). front_of (take k old.messages)) one ∙ first_taken old.messages

module _ (queued : List Message) (log : List Slot) (id kept : ℕ) (old new : List Stream) (short : Shortened id kept old new)
    (exact : (q : ℕ) → q < length old → (stream_at old q).id ≡ id → kept ≡ count_under_way (stream_at old q)) (queue_holds : HoldsQueued queued log old) where
  short_going : (q : ℕ) → Going queued log (stream_at new q) (stream_at new q).under_way
  short_going q = subst (λ (u : Option UnderWay). Going queued log (stream_at new q) u) (sym (short.under_ways q)) (go (stream_at old q).under_way refl (queue_holds.going q))
    where
      go : (u : Option UnderWay) → (stream_at old q).under_way ≡ u → Going queued log (stream_at old q) u → Going queued log (stream_at new q) u
      go None is g = tt
      go (Some u) is g =
          record {
            place = g.place;
            message = g.message;
            at = g.at;
            unfinished = g.unfinished;
            begun = g.begun;
            is = short.ids q ∙ g.is;
            waiting = g.waiting;
            front = same ∙ g.front;
            named = g.named;
            came = g.came;
          }
        where
          same : front_of (stream_at new q).messages ≡ front_of (stream_at old q).messages
          same =
              elim (decide (stream_at old q).id id) [
                | inr other ↦ ap front_of (short.others q other)
                | inl here ↦ ap front_of (short.here q here) ∙ front_taken kept (stream_at old q) (exact q (within_streams old q g.waiting g.front) here) (ap is_some is)
              ]

  short_beyond : (q n : ℕ) (f : Piece) → at_place n log ≡ Some (Some f) → f.message.stream ≡ (stream_at new q).id → AllBeyond f.place (unbegun (stream_at new q))
  short_beyond q n f at of =
      elim (decide (stream_at old q).id id) [
        | inr other ↦ unbegun_same f.place (stream_at old q) (stream_at new q) (short.others q other) (short.under_ways q) (queue_holds.beyond q n f at (of ∙ short.ids q))
        | inl here ↦
            elim (there_or_empty old q) [
              | inl below ↦ kept_unbegun f.place kept (stream_at old q) (stream_at new q) (short.here q here) (short.under_ways q) (exact q below here)
              | inr none ↦ empty_unbegun f.place (stream_at new q) (short.here q here ∙ ap (λ (l : List Waiting). take kept l) none ∙ nothing kept)
            ]
      ]
    where
      nothing : (k : ℕ) → take {A = Waiting} k [] ≡ []
      nothing zero = refl
      nothing (suc k) = refl

  short_hold : weight new ≤ weight old → HoldsQueued queued log new
  short_hold lighter =
      record {
        wait = λ q. subst (λ (k : ℕ). AllQueued queued k (stream_at new q).messages) (sym (short.ids q))
            (elim (decide (stream_at old q).id id) [
              | inr other ↦ subst (λ (l : List Waiting). AllQueued queued (stream_at old q).id l) (sym (short.others q other)) (queue_holds.wait q)
              | inl here ↦ subst (λ (l : List Waiting). AllQueued queued (stream_at old q).id l) (sym (short.here q here)) (take_queued queued (stream_at old q).id kept (stream_at old q).messages (queue_holds.wait q))
            ]);
        ascend = λ q. elim (decide (stream_at old q).id id) [
          | inr other ↦ subst (λ (l : List Waiting). Ascend l) (sym (short.others q other)) (queue_holds.ascend q)
          | inl here ↦ subst (λ (l : List Waiting). Ascend l) (sym (short.here q here)) (take_ascend kept (stream_at old q).messages (queue_holds.ascend q))
        ];
        beyond = short_beyond;
        distinct = λ p q below below' same. (
            let sizes : length new ≡ length old = short.sizes in
            queue_holds.distinct p q (omega (arith, below)) (omega (arith, below')) (sym (short.ids p) ∙ same ∙ short.ids q)
            );
        small = λ q. subst (λ (k : ℕ). k < 2 ^ 16) (sym (short.ids q)) (queue_holds.small q);
        going = short_going;
        room = (
            let room = queue_holds.room in
            let size = same_size old new short.sizes short.under_ways in
            record { whole = omega (arith, room.whole, lighter); count = omega (arith, room.count, lighter, size) }
            );
      }

-- ---- the numbers

numbers_prepared : (id size kept : ℕ) (streams : List Stream) → kept ≡ count_under_way (stream_named id streams) → NumbersStay streams (stream_changed id (prepared_stream size kept) streams)
numbers_prepared id size kept streams counts =
    numbers_if (λ s. kept ≡ count_under_way s) id (prepared_stream size kept) (λ s. refl) (λ s. record { ordered = refl; unordered = refl; ssn = refl })
    (λ s is. record { under_way = refl; front = λ some. front_taken kept s is some; kept = λ some e. refl }) streams counts

prepared_one : (queued : List Message) (history : History) (id : ℕ) (queue : SendQueueState) → id < 2 ^ 16 → QueueHolds queued history queue → QueueHolds queued history (queue_with_prepared id queue)
prepared_one queued history id queue fits queues = go (is_open_pause (queue_stream start id).pause)
  where
    start : SendQueueState
    start = with_used id queue

    kept : ℕ
    kept = count_under_way (queue_stream start id)

    began : QueueHolds queued history start
    began =
        record {
          queue_holds = used_hold queued history.log queue id fits queues.queue_holds;
          next = queues.next;
          numbers = numbered_stay history queue start refl refl refl (numbers_used queue id) queues.numbers;
        }

    counts : kept ≡ count_under_way (stream_named id start.streams)
    counts = found_default count_under_way (unused_stream id queue.default_priority queue.default_threshold) (unused_stream 0 0 0) refl id start.streams

    exact : (q : ℕ) → q < length start.streams → (stream_at start.streams q).id ≡ id → kept ≡ count_under_way (stream_at start.streams q)
    exact q below is =
        counts
        ∙ ap count_under_way (subst (λ (k : ℕ). stream_named k start.streams ≡ stream_at start.streams q) is (found_at (unused_stream 0 0 0) q start.streams below began.queue_holds.distinct))

    go : (b : Bool) → QueueHolds queued history (if b then prepared_open id start else start)
    go true =
        record {
          queue_holds = short_hold queued history.log id kept start.streams (stream_changed id (prepared_stream (dropped_size id start) kept) start.streams) (shortened id (dropped_size id start) kept start.streams) exact began.queue_holds
              (weight_prepared id (dropped_size id start) kept start.streams);
          next = queues.next;
          numbers = numbered_stay history start (prepared_open id start) refl refl refl (numbers_prepared id (dropped_size id start) kept start.streams counts) began.numbers;
        }
    go false = began

pub preparing_kind : (ids : List ℕ) (queue : SendQueueState) → (prepared_all ids queue).is_interleaved ≡ queue.is_interleaved
preparing_kind [] queue = refl
preparing_kind (id ∷ ids) queue = preparing_kind ids (queue_with_prepared id queue) ∙ go (is_open_pause (queue_stream (with_used id queue) id).pause)
  where
    go : (b : Bool) → (if b then prepared_open id (with_used id queue) else with_used id queue).is_interleaved ≡ queue.is_interleaved
    go true = refl
    go false = refl

pub preparing_hold : (queued : List Message) (history : History) (ids : List ℕ) (queue : SendQueueState) → AllByRecursion (λ id. id < 2 ^ 16) ids → QueueHolds queued history queue → QueueHolds queued history (prepared_all ids queue)
preparing_hold queued history [] queue fit queues = queues
preparing_hold queued history (id ∷ ids) queue fit queues = preparing_hold queued history ids (queue_with_prepared id queue) fit.1 (prepared_one queued history id queue fit.0 queues)
