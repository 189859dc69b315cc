-- A message that is queued waits after the others of its stream.
use Rattle.std.proofs.Common.{◌≡◌, ◌≢◌, ◌==◌, ℕ, zero, suc, Bool, true, false, ◌<◌, ◌+◌, ◌≤◌, ◌^◌, List, [], ◌∷◌, ◌++◌, length, drop, refl, sym, ◌∙◌, ap, arith, subst, inl, inr}
use Rattle.std.specs.Prelude.{◌⊎◌, Option, None, Some, is_some, if◌then◌else◌}
use Rattle.std.proofs.lemmas.Bool.Decides.{eqb_tells}
use Rattle.dcsctp_spec.specs.types.declared.sending.UnderWay.{UnderWay}
use Rattle.dcsctp_spec.specs.types.queues.SendStreams.{Waiting, Stream, front_of, stream_at, with_message}
use Rattle.dcsctp_spec.specs.queues.SendQueue.{SendQueueState, stream_changed, used_streams, queued_message as waiting_as}
use Rattle.dcsctp_spec.specs.endpoint.MessageOutcomes.{Sending, sending_queued}
use Rattle.dcsctp_delivery_directions.specs.sending.Places.{at_place}
use Rattle.dcsctp_delivery_directions.specs.sending.Log.{Message, Piece, Slot, IsLogOfPieces, History}
use Rattle.dcsctp_delivery_directions.specs.sending.Pieces.{WaitingWasQueued, AllQueued, AllBeyond, Ascend, unbegun, Going, HoldsQueued}
use Rattle.dcsctp_delivery_directions.specs.sending.Numbers.{stream_named}
use Rattle.dcsctp_delivery_directions.specs.sending.Queueing.{message_of, QueueHolds}
use Rattle.dcsctp_delivery_directions.proofs.sending.Places.{decide, at_new, at_below, at_stays}
use Rattle.dcsctp_delivery_directions.specs.sending.Weights.{weight}
use Rattle.dcsctp_delivery_directions.proofs.sending.Limits.{no_limits, are_limited}
use Rattle.dcsctp_delivery_directions.proofs.sending.Weights.{weight_added}
use Rattle.dcsctp_delivery_directions.proofs.sending.NewStreams.{used_hold, empty_unbegun}
use Rattle.dcsctp_delivery_directions.proofs.sending.Numbers.{NumbersStay, numbers_if, numbers_then, numbers_used}
use Rattle.dcsctp_delivery_directions.proofs.sending.Numbered.{numbered_stay}
use Rattle.dcsctp_delivery_directions.proofs.sending.Streams.{within_streams, unbegun_same}
use Rattle.dcsctp_delivery_directions.proofs.sending.StreamWeights.{same_size}
use Rattle.dcsctp_delivery_directions.proofs.sending.StreamsNamed.{named_place}

-- ---- more is queued

queued_again : (queued : List Message) (m : Message) (id : ℕ) (messages : List Waiting) → AllQueued queued id messages → AllQueued (m ∷ queued) id messages
queued_again queued m id [] are = tt
queued_again queued m id (w ∷ messages) are = (
  record { message = are.0.message; at = at_stays w.message_id m are.0.message queued are.0.at; is = are.0.is; fresh = are.0.fresh; some = are.0.some },
  queued_again queued m id messages are.1,
)

-- ---- a message after the others

-- those of one stream have one more
record OneMore (id : ℕ) (m : Waiting) (old new : List Stream) : Type 0 where
  sizes : length new ≡ length old
  ids : (q : ℕ) → (stream_at new q).id ≡ (stream_at old q).id
  others : (q : ℕ) → (stream_at old q).id ≢ id → (stream_at new q).messages ≡ (stream_at old q).messages
  under_ways : (q : ℕ) → (stream_at new q).under_way ≡ (stream_at old q).under_way
  here : (q : ℕ) → (stream_at old q).id ≡ id → ((stream_at new q).messages ≡ (stream_at old q).messages ++ m ∷ []) ⊎ ((stream_at new q).messages ≡ [])

one_more : (id : ℕ) (m : Waiting) (streams : List Stream) → OneMore id m streams (stream_changed id (with_message m) streams)
one_more id m streams = record { sizes = sizes streams; ids = ids streams; others = others streams; under_ways = under_ways streams; here = here streams }
  where
    one_id : (b : Bool) (s : Stream) → (if b then with_message m s else s).id ≡ s.id
    one_id true s = refl
    one_id false s = refl

    sizes : (l : List Stream) → length (stream_changed id (with_message m) l) ≡ length l
    sizes [] = refl
    sizes (s ∷ l) = ap suc (sizes l)

    ids : (l : List Stream) (q : ℕ) → (stream_at (stream_changed id (with_message m) l) q).id ≡ (stream_at l q).id
    ids [] zero = refl
    ids [] (suc q) = refl
    ids (s ∷ l) zero = one_id (s.id == id) s
    ids (s ∷ l) (suc q) = ids l q

    others : (l : List Stream) (q : ℕ) → (stream_at l q).id ≢ id → (stream_at (stream_changed id (with_message m) l) q).messages ≡ (stream_at l q).messages
    others [] zero ne = refl
    others [] (suc q) ne = refl
    others (s ∷ l) zero ne = elim (eqb_tells s.id id) [ inl e ↦ absurd (ne e.1) | inr e ↦ rw e.0 refl ]
    others (s ∷ l) (suc q) ne = others l q ne

    one_under_way : (b : Bool) (s : Stream) → (if b then with_message m s else s).under_way ≡ s.under_way
    one_under_way true s = refl
    one_under_way false s = refl

    under_ways : (l : List Stream) (q : ℕ) → (stream_at (stream_changed id (with_message m) l) q).under_way ≡ (stream_at l q).under_way
    under_ways [] zero = refl
    under_ways [] (suc q) = refl
    under_ways (s ∷ l) zero = one_under_way (s.id == id) s
    under_ways (s ∷ l) (suc q) = under_ways l q

    here : (l : List Stream) (q : ℕ) → (stream_at l q).id ≡ id
        → ((stream_at (stream_changed id (with_message m) l) q).messages ≡ (stream_at l q).messages ++ m ∷ []) ⊎ ((stream_at (stream_changed id (with_message m) l) q).messages ≡ [])
    here [] zero is = inr refl
    here [] (suc q) is = inr refl
    here (s ∷ l) zero is = elim (eqb_tells s.id id) [ inl e ↦ inl (rw e.0 refl) | inr e ↦ absurd (e.1 is) ]
    here (s ∷ l) (suc q) is = here l q is

queued_append : (queued : List Message) (id : ℕ) (m : Waiting) (messages : List Waiting) → AllQueued queued id messages → WaitingWasQueued queued id m → AllQueued queued id (messages ++ m ∷ [])
queued_append queued id m [] are was = (was, tt)
queued_append queued id m (w ∷ messages) are was = (are.0, queued_append queued id m messages are.1 was)

beyond_append : (place : ℕ) (m : Waiting) (messages : List Waiting) → AllBeyond place messages → place < m.message_id → AllBeyond place (messages ++ m ∷ [])
beyond_append place m [] are less = (less, tt)
beyond_append place m (w ∷ messages) are less = (are.0, beyond_append place m messages are.1 less)

ascend_append : (queued : List Message) (id : ℕ) (m : Waiting) (messages : List Waiting) → AllQueued queued id messages → Ascend messages → m.message_id ≡ length queued → Ascend (messages ++ m ∷ [])
ascend_append queued id m [] are ascend is = (tt, tt)
ascend_append queued id m (w ∷ messages) are ascend is = (
  beyond_append w.message_id m messages ascend.0 (omega (arith, is, at_below w.message_id are.0.message queued are.0.at)),
  ascend_append queued id m messages are.1 ascend.1 is,
)

unbegun_append : (place : ℕ) (m : Waiting) (old new : Stream) → new.messages ≡ old.messages ++ m ∷ [] → new.under_way ≡ old.under_way → place < m.message_id → AllBeyond place (unbegun old) → AllBeyond place (unbegun new)
unbegun_append place m old new is under_way less are =
    subst (λ (u : Option UnderWay). AllBeyond place (drop (if is_some u then 1 else 0) new.messages)) (sym under_way)
    (subst (λ (l : List Waiting). AllBeyond place (drop (if is_some old.under_way then 1 else 0) l)) (sym is) (go (is_some old.under_way) old.messages are))
  where
    go : (b : Bool) (l : List Waiting) → AllBeyond place (drop (if b then 1 else 0) l) → AllBeyond place (drop (if b then 1 else 0) (l ++ m ∷ []))
    go true [] are = tt
    go true (w ∷ l) are = beyond_append place m l are less
    go false l are = beyond_append place m l are less

front_append : (messages : List Waiting) (m w : Waiting) → front_of messages ≡ Some w → front_of (messages ++ m ∷ []) ≡ Some w
front_append [] m w e = absurd (cc)
front_append (v ∷ messages) m w e = e

module _ (queued : List Message) (message : Message) (log : List Slot) (id : ℕ) (m : Waiting) (old new : List Stream) (more : OneMore id m old new) (was : WaitingWasQueued (message ∷ queued) id m)
    (last : m.message_id ≡ length queued) (before : (n : ℕ) (f : Piece) → at_place n log ≡ Some (Some f) → f.place < length queued) (queue_holds : HoldsQueued queued log old) where
  added_wait : (q : ℕ) → AllQueued (message ∷ queued) (stream_at new q).id (stream_at new q).messages
  added_wait q =
      subst (λ (k : ℕ). AllQueued (message ∷ queued) k (stream_at new q).messages) (sym (more.ids q))
      (elim (decide (stream_at old q).id id) [
        | inr other ↦ subst (λ (l : List Waiting). AllQueued (message ∷ queued) (stream_at old q).id l) (sym (more.others q other)) (queued_again queued message (stream_at old q).id (stream_at old q).messages (queue_holds.wait q))
        | inl same ↦
            elim (more.here q same) [
              | inr none ↦ subst (λ (l : List Waiting). AllQueued (message ∷ queued) (stream_at old q).id l) (sym none) tt
              | inl e ↦
                  subst (λ (l : List Waiting). AllQueued (message ∷ queued) (stream_at old q).id l) (sym e)
                  (queued_append (message ∷ queued) (stream_at old q).id m (stream_at old q).messages (queued_again queued message (stream_at old q).id (stream_at old q).messages (queue_holds.wait q))
                  (subst (λ (k : ℕ). WaitingWasQueued (message ∷ queued) k m) (sym same) was))
            ]
      ])

  added_ascend : (q : ℕ) → Ascend (stream_at new q).messages
  added_ascend q =
      elim (decide (stream_at old q).id id) [
        | inr other ↦ subst (λ (l : List Waiting). Ascend l) (sym (more.others q other)) (queue_holds.ascend q)
        | inl same ↦
            elim (more.here q same) [
              | inr none ↦ subst (λ (l : List Waiting). Ascend l) (sym none) tt
              | inl e ↦ subst (λ (l : List Waiting). Ascend l) (sym e) (ascend_append queued (stream_at old q).id m (stream_at old q).messages (queue_holds.wait q) (queue_holds.ascend q) last)
            ]
      ]

  added_beyond : (q n : ℕ) (f : Piece) → at_place n log ≡ Some (Some f) → f.message.stream ≡ (stream_at new q).id → AllBeyond f.place (unbegun (stream_at new q))
  added_beyond q n f at of =
      let earlier = queue_holds.beyond q n f at (of ∙ more.ids q) in
      elim (decide (stream_at old q).id id) [
        | inr other ↦ unbegun_same f.place (stream_at old q) (stream_at new q) (more.others q other) (more.under_ways q) earlier
        | inl same ↦
            elim (more.here q same) [
              | inr none ↦ empty_unbegun f.place (stream_at new q) none
              | inl e ↦ unbegun_append f.place m (stream_at old q) (stream_at new q) e (more.under_ways q) (omega (arith, last, before n f at)) earlier
            ]
      ]

  added_distinct : (p q : ℕ) → p < length new → q < length new → (stream_at new p).id ≡ (stream_at new q).id → p ≡ q
  added_distinct p q below below' same =
      let sizes : length new ≡ length old = more.sizes in
      queue_holds.distinct p q (omega (arith, below)) (omega (arith, below')) (sym (more.ids p) ∙ same ∙ more.ids q)

  added_hold : ((q : ℕ) → q < length old → (stream_at old q).id ≡ id → (stream_at new q).messages ≡ (stream_at old q).messages ++ m ∷ []) → weight new ≤ weight old + suc (length message.payload) → HoldsQueued (message ∷ queued) log new
  added_hold exact grows =
      record {
        wait = added_wait;
        ascend = added_ascend;
        beyond = added_beyond;
        distinct = added_distinct;
        small = λ q. subst (λ (k : ℕ). k < 2 ^ 16) (sym (more.ids q)) (queue_holds.small q);
        going = going;
        room = (
            let room = queue_holds.room in
            let size = same_size old new more.sizes more.under_ways in
            record { whole = omega (arith, room.whole, grows); count = omega (arith, room.count, grows, size) }
            );
      }
    where
      kept : (q : ℕ) (w : Waiting) → q < length old → front_of (stream_at old q).messages ≡ Some w → front_of (stream_at new q).messages ≡ Some w
      kept q w below e =
          elim (decide (stream_at old q).id id) [
            | inr other ↦ ap front_of (more.others q other) ∙ e
            | inl same ↦ ap front_of (exact q below same) ∙ front_append (stream_at old q).messages m w e
          ]

      going : (q : ℕ) → Going (message ∷ queued) log (stream_at new q) (stream_at new q).under_way
      going q = subst (λ (u : Option UnderWay). Going (message ∷ queued) log (stream_at new q) u) (sym (more.under_ways q)) (go (stream_at old q).under_way (queue_holds.going q))
        where
          go : (u : Option UnderWay) → Going queued log (stream_at old q) u → Going (message ∷ queued) log (stream_at new q) u
          go None g = tt
          go (Some u) g =
              record {
                place = g.place;
                message = g.message;
                at = at_stays g.place message g.message queued g.at;
                unfinished = g.unfinished;
                begun = g.begun;
                is = more.ids q ∙ g.is;
                waiting = g.waiting;
                front = kept q g.waiting (within_streams old q g.waiting g.front) g.front;
                named = g.named;
                came = g.came;
              }

-- where the stream is, exactly
exactly : (id : ℕ) (m : Waiting) (l : List Stream) (q : ℕ) → q < length l → (stream_at l q).id ≡ id → (stream_at (stream_changed id (with_message m) l) q).messages ≡ (stream_at l q).messages ++ m ∷ []
exactly id m [] q below is = absurd (omega arith)
exactly id m (s ∷ l) zero below is = elim (eqb_tells s.id id) [ inl e ↦ rw e.0 refl | inr e ↦ absurd (e.1 is) ]
exactly id m (s ∷ l) (suc q) below is = exactly id m l q (omega arith) is

-- a message under way waits on its stream
pub front_waits : (queued : List Message) (log : List Slot) (streams : List Stream) → HoldsQueued queued log streams → (id : ℕ) → is_some (stream_named id streams).under_way ≡ true → is_some (front_of (stream_named id streams).messages) ≡ true
front_waits queued log streams queue_holds id some =
    let (q, within, is, same) = named_place id streams some in
    let here : is_some (stream_at streams q).under_way ≡ true = ap (λ (s : Stream). is_some s.under_way) (sym same) ∙ some in
    ap (λ (s : Stream). is_some (front_of s.messages)) same ∙ go q (stream_at streams q).under_way here (queue_holds.going q)
  where
    go : (q : ℕ) (u : Option UnderWay) → is_some u ≡ true → Going queued log (stream_at streams q) u → is_some (front_of (stream_at streams q).messages) ≡ true
    go q None some going = absurd (cc)
    go q (Some u) some going = ap is_some going.front

-- One more message after the others leaves the one that is under way.
numbers_added : (id : ℕ) (m : Waiting) (streams : List Stream) → (is_some (stream_named id streams).under_way ≡ true → is_some (front_of (stream_named id streams).messages) ≡ true) → NumbersStay streams (stream_changed id (with_message m) streams)
numbers_added id m streams waits =
    numbers_if (λ s. is_some s.under_way ≡ true → is_some (front_of s.messages) ≡ true) id (with_message m) (λ s. refl) (λ s. record { ordered = refl; unordered = refl; ssn = refl })
    (λ s some. record { under_way = refl; front = λ goes. first s.messages (some goes); kept = λ goes e. e }) streams waits
  where
    first : (l : List Waiting) → is_some (front_of l) ≡ true → front_of (l ++ m ∷ []) ≡ front_of l
    first [] some = absurd (cc)
    first (w ∷ l) some = refl

pub queueing_hold : (queued : List Message) (history : History) (now : ℕ) (sending : Sending) (queue : SendQueueState) → sending.message.stream < 2 ^ 16 → length queued + 1 < 2 ^ 64 → 0 < length sending.message.payload
    → IsLogOfPieces queued history.log → QueueHolds queued history queue → QueueHolds (message_of sending ∷ queued) history (sending_queued now sending queue)
queueing_hold queued history now sending queue fits few some cut queues =
    record {
      queue_holds = added_hold queued (message_of sending) history.log sending.message.stream m streams (stream_changed sending.message.stream (with_message m) streams) (one_more sending.message.stream m streams)
          (record {
            message = message_of sending;
            at = subst (λ (k : ℕ). at_place k (message_of sending ∷ queued) ≡ Some (message_of sending)) (sym queues.next) (at_new (message_of sending) queued);
            is = record { stream = refl; ppid = refl; unordered = refl; payload = refl; limits = no_limits now sending.options; limited = are_limited now sending.options };
            fresh = refl;
            some = some;
          }) queues.next (λ n f at. at_below f.place f.message queued (cut.pieces n f at).at) (used_hold queued history.log queue sending.message.stream fits queues.queue_holds)
          (λ q below is. exactly sending.message.stream m streams q below is) (weight_added sending.message.stream m streams (used_hold queued history.log queue sending.message.stream fits queues.queue_holds).distinct);
      next = (let next = queues.next in omega (arith, next, few));
      numbers = numbered_stay history queue (sending_queued now sending queue) refl refl refl
          (numbers_then queue.streams streams (stream_changed sending.message.stream (with_message m) streams) (numbers_used queue sending.message.stream)
          (numbers_added sending.message.stream m streams (front_waits queued history.log streams (used_hold queued history.log queue sending.message.stream fits queues.queue_holds) sending.message.stream))) queues.numbers;
    }
  where
    m : Waiting
    m = waiting_as now sending.message sending.options queue

    streams : List Stream
    streams = used_streams queue sending.message.stream
