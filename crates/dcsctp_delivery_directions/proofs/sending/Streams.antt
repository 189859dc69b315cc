-- Send queues that hold the same messages, or fewer, still hold what was queued.
use Rattle.std.proofs.Common.{◌≡◌, ℕ, suc, Bool, true, false, ◌<◌, ◌+◌, ◌-◌, ◌≤◌, ◌^◌, List, [], ◌∷◌, length, drop, refl, sym, ◌∙◌, ap, arith, subst, inl, inr}
use Rattle.std.specs.Prelude.{◌⊎◌, Option, None, Some, is_some, slice_set, if◌then◌else◌}
use Rattle.std.proofs.lemmas.Bool.Decides.{eqb_tells, leb_tells}
use Rattle.std.proofs.lemmas.List.{length-set, get_or-set_same, get_or-set_other, get_or_past}
use Rattle.dcsctp_spec.specs.endpoint.Event.{Event}
use Rattle.dcsctp_spec.specs.types.declared.sending.UnderWay.{UnderWay}
use Rattle.dcsctp_spec.specs.types.queues.SendStreams.{Waiting, Stream, front_of, without_front, unused_stream, stream_at}
use Rattle.dcsctp_spec.specs.queues.SendQueue.{SendQueueState}
use Rattle.dcsctp_spec.specs.queues.Sending.{Drops, none, more, reduced_queue, fragment_counted, without_rest, after_last}
use Rattle.dcsctp_delivery_directions.specs.sending.Places.{at_place}
use Rattle.dcsctp_delivery_directions.specs.sending.Log.{Message, Slot, newest}
use Rattle.dcsctp_delivery_directions.specs.sending.Pieces.{AllQueued, AllBeyond, Ascend, unbegun, Going, HoldsQueued}
use Rattle.dcsctp_delivery_directions.specs.sending.Weights.{HasRoomForLog}
use Rattle.dcsctp_delivery_directions.proofs.sending.Places.{at_new}
use Rattle.dcsctp_delivery_directions.proofs.sending.Weights.{weight_less}
use Rattle.dcsctp_delivery_directions.proofs.sending.StreamWeights.{HasSame, LosesFront, going_weight, shorter_weight, only_messages}
use Rattle.dcsctp_delivery_directions.proofs.sending.CountedFragments.{FollowsCounts, by_amount, by_leaving}

pub newest_at : (log : List Slot) (slot : Slot) → newest log ≡ Some slot → (k : ℕ) × (k + 1 ≡ length log) × (at_place k log ≡ Some slot)
newest_at [] slot e = absurd (cc)
newest_at (first ∷ log) slot e = (length log, omega arith, at_new first log ∙ e)

-- ---- streams

-- the streams as they were
pub record Alike (old new : List Stream) : Type 0 where
  pub sizes : length new ≡ length old
  pub ids : (q : ℕ) → (stream_at new q).id ≡ (stream_at old q).id
  pub messages : (q : ℕ) → (stream_at new q).messages ≡ (stream_at old q).messages
  pub under_ways : (q : ℕ) → (stream_at new q).under_way ≡ (stream_at old q).under_way

-- but that the oldest message of some may be gone
pub record Shorter (old new : List Stream) : Type 0 where
  pub sizes : length new ≡ length old
  pub ids : (q : ℕ) → (stream_at new q).id ≡ (stream_at old q).id
  pub messages : (q : ℕ) → HasSame (stream_at old q) (stream_at new q) ⊎ LosesFront (stream_at old q) (stream_at new q)

-- the stream at a place, once one was set
pub at_set : (streams : List Stream) (place q : ℕ) (new : Stream) → (stream_at (slice_set streams place new) q ≡ stream_at streams q) ⊎ ((q ≡ place) × (stream_at (slice_set streams place new) q ≡ new))
at_set streams place q new =
    elim (eqb_tells q place) [
      | inl e ↦ elim (leb_tells (suc place) (length streams)) [
        | inl within ↦ inr (e.1, ap (stream_at (slice_set streams place new)) e.1 ∙ get_or-set_same streams place new (unused_stream 0 0 0) within.1)
        | inr past ↦
            (let beyond : length streams ≤ q = (let same : q ≡ place = e.1 in let lt : length streams < suc place = past.1 in omega arith) in
            inl (get_or_past (slice_set streams place new) q (unused_stream 0 0 0) (omega (arith, length-set streams place new)) ∙ sym (get_or_past streams q (unused_stream 0 0 0) beyond)))
      ]
      | inr e ↦ inl (get_or-set_other streams place q new (unused_stream 0 0 0) e.1)
    ]

pub alike_set : (streams : List Stream) (place : ℕ) (new : Stream) → new.id ≡ (stream_at streams place).id → new.messages ≡ (stream_at streams place).messages → new.under_way ≡ (stream_at streams place).under_way
    → Alike streams (slice_set streams place new)
alike_set streams place new id messages under_way =
    record {
      sizes = length-set streams place new;
      ids = λ q. elim (at_set streams place q new) [
        | inl e ↦ ap (λ (s : Stream). s.id) e
        | inr e ↦ ap (λ (s : Stream). s.id) e.1 ∙ id ∙ ap (λ (k : ℕ). (stream_at streams k).id) (sym e.0)
      ];
      messages = λ q. elim (at_set streams place q new) [
        | inl e ↦ ap (λ (s : Stream). s.messages) e
        | inr e ↦ ap (λ (s : Stream). s.messages) e.1 ∙ messages ∙ ap (λ (k : ℕ). (stream_at streams k).messages) (sym e.0)
      ];
      under_ways = λ q. elim (at_set streams place q new) [
        | inl e ↦ ap (λ (s : Stream). s.under_way) e
        | inr e ↦ ap (λ (s : Stream). s.under_way) e.1 ∙ under_way ∙ ap (λ (k : ℕ). (stream_at streams k).under_way) (sym e.0)
      ];
    }

pub shorter_set : (streams : List Stream) (place : ℕ) → Shorter streams (slice_set streams place (without_front (stream_at streams place)))
shorter_set streams place =
    record {
      sizes = length-set streams place (without_front (stream_at streams place));
      ids = λ q. elim (at_set streams place q (without_front (stream_at streams place))) [
        | inl e ↦ ap (λ (s : Stream). s.id) e
        | inr e ↦ ap (λ (s : Stream). s.id) e.1 ∙ ap (λ (k : ℕ). (stream_at streams k).id) (sym e.0)
      ];
      messages = λ q. elim (at_set streams place q (without_front (stream_at streams place))) [
        | inl e ↦ inl (ap (λ (s : Stream). s.messages) e, ap (λ (s : Stream). s.under_way) e)
        | inr e ↦ inr (ap (λ (s : Stream). s.messages) e.1 ∙ ap (λ (k : ℕ). drop 1 (stream_at streams k).messages) (sym e.0), ap (λ (s : Stream). s.under_way) e.1)
      ];
    }

pub alike_twice : (a b c : List Stream) → Alike a b → Alike b c → Alike a c
alike_twice a b c x y =
    record { sizes = y.sizes ∙ x.sizes; ids = λ q. y.ids q ∙ x.ids q; messages = λ q. y.messages q ∙ x.messages q; under_ways = λ q. y.under_ways q ∙ x.under_ways q }

pub alike_same : (a : List Stream) → Alike a a
alike_same a = record { sizes = refl; ids = λ q. refl; messages = λ q. refl; under_ways = λ q. refl }

pub alike_shorter : (a b c : List Stream) → Alike a b → Shorter b c → Shorter a c
alike_shorter a b c x y =
    record {
      sizes = y.sizes ∙ x.sizes;
      ids = λ q. y.ids q ∙ x.ids q;
      messages = λ q. elim (y.messages q) [
        | inl e ↦ inl (e.0 ∙ x.messages q, e.1 ∙ x.under_ways q)
        | inr e ↦ inr (e.0 ∙ ap (λ (l : List Waiting). drop 1 l) (x.messages q), e.1)
      ];
    }

pub alike_is_shorter : (a b : List Stream) → Alike a b → Shorter a b
alike_is_shorter a b x = record { sizes = x.sizes; ids = x.ids; messages = λ q. inl (x.messages q, x.under_ways q) }

-- ---- what waits

pub queued_drop : (queued : List Message) (id : ℕ) (messages : List Waiting) → AllQueued queued id messages → AllQueued queued id (drop 1 messages)
queued_drop queued id [] are = tt
queued_drop queued id (w ∷ messages) are = are.1

pub beyond_drop : (place : ℕ) (messages : List Waiting) → AllBeyond place messages → AllBeyond place (drop 1 messages)
beyond_drop place [] are = tt
beyond_drop place (w ∷ messages) are = are.1

pub ascend_drop : (messages : List Waiting) → Ascend messages → Ascend (drop 1 messages)
ascend_drop [] are = tt
ascend_drop (w ∷ messages) are = are.1

-- those after the oldest were queued after it
pub rest_of : (messages : List Waiting) (w : Waiting) → Ascend messages → front_of messages ≡ Some w → AllBeyond w.message_id (drop 1 messages)
rest_of [] w are e = absurd (cc)
rest_of (v ∷ messages) w are e = let same : v ≡ w = cc in subst (λ (x : Waiting). AllBeyond x.message_id messages) same are.0

pub beyond_front : (place : ℕ) (messages : List Waiting) (w : Waiting) → AllBeyond place messages → front_of messages ≡ Some w → place < w.message_id
beyond_front place [] w are e = absurd (cc)
beyond_front place (v ∷ messages) w are e = let same : v ≡ w = cc in subst (λ (x : Waiting). place < x.message_id) same are.0

pub wait_on : (queued : List Message) (old new : List Stream) → Shorter old new → ((q : ℕ) → AllQueued queued (stream_at old q).id (stream_at old q).messages)
    → (q : ℕ) → AllQueued queued (stream_at new q).id (stream_at new q).messages
wait_on queued old new shorter wait q =
    subst (λ (k : ℕ). AllQueued queued k (stream_at new q).messages) (sym (shorter.ids q))
    (elim (shorter.messages q) [
      | inl e ↦ subst (λ (l : List Waiting). AllQueued queued (stream_at old q).id l) (sym e.0) (wait q)
      | inr e ↦ subst (λ (l : List Waiting). AllQueued queued (stream_at old q).id l) (sym e.0) (queued_drop queued (stream_at old q).id (stream_at old q).messages (wait q))
    ])

pub ascend_on : (old new : List Stream) → Shorter old new → ((q : ℕ) → Ascend (stream_at old q).messages) → (q : ℕ) → Ascend (stream_at new q).messages
ascend_on old new shorter ascend q =
    elim (shorter.messages q) [
      | inl e ↦ subst (λ (l : List Waiting). Ascend l) (sym e.0) (ascend q)
      | inr e ↦ subst (λ (l : List Waiting). Ascend l) (sym e.0) (ascend_drop (stream_at old q).messages (ascend q))
    ]

-- what isn't begun of a stream
pub unbegun_same : (place : ℕ) (old new : Stream) → new.messages ≡ old.messages → new.under_way ≡ old.under_way → AllBeyond place (unbegun old) → AllBeyond place (unbegun new)
unbegun_same place old new messages under_way are =
    subst (λ (u : Option UnderWay). AllBeyond place (drop (if is_some u then 1 else 0) new.messages)) (sym under_way)
    (subst (λ (l : List Waiting). AllBeyond place (drop (if is_some old.under_way then 1 else 0) l)) (sym messages) are)

-- all of it, where none is under way
pub unbegun_idle : (place : ℕ) (s : Stream) → s.under_way ≡ None → AllBeyond place s.messages → AllBeyond place (unbegun s)
unbegun_idle place s idle are = subst (λ (u : Option UnderWay). AllBeyond place (drop (if is_some u then 1 else 0) s.messages)) (sym idle) are

-- and its messages without the oldest
pub unbegun_rest : (place : ℕ) (s : Stream) → AllBeyond place (unbegun s) → AllBeyond place (drop 1 s.messages)
unbegun_rest place s are = go (is_some s.under_way) are
  where
    go : (b : Bool) → AllBeyond place (drop (if b then 1 else 0) s.messages) → AllBeyond place (drop 1 s.messages)
    go true are = are
    go false are = beyond_drop place s.messages are

pub unbegun_shorter : (place : ℕ) (old new : Stream) → HasSame old new ⊎ LosesFront old new → AllBeyond place (unbegun old) → AllBeyond place (unbegun new)
unbegun_shorter place old new (inl e) are = unbegun_same place old new e.0 e.1 are
unbegun_shorter place old new (inr e) are = unbegun_idle place new e.1 (subst (λ (l : List Waiting). AllBeyond place l) (sym e.0) (unbegun_rest place old are))

pub distinct_on : (old new : List Stream) → Shorter old new
    → ((p q : ℕ) → p < length old → q < length old → (stream_at old p).id ≡ (stream_at old q).id → p ≡ q)
    → (p q : ℕ) → p < length new → q < length new → (stream_at new p).id ≡ (stream_at new q).id → p ≡ q
distinct_on old new shorter distinct p q below below' same =
    let size : length new ≡ length old = shorter.sizes in
    distinct p q (omega arith) (omega arith) (sym (shorter.ids p) ∙ same ∙ shorter.ids q)

pub small_on : (old new : List Stream) → Shorter old new → ((q : ℕ) → (stream_at old q).id < 2 ^ 16) → (q : ℕ) → (stream_at new q).id < 2 ^ 16
small_on old new shorter small q = subst (λ (k : ℕ). k < 2 ^ 16) (sym (shorter.ids q)) (small q)

-- ---- the message under way

pub going_same : (queued : List Message) (log : List Slot) (old new : Stream) → new.id ≡ old.id → new.messages ≡ old.messages → new.under_way ≡ old.under_way → Going queued log old old.under_way → Going queued log new new.under_way
going_same queued log old new id messages under_way going = subst (λ (u : Option UnderWay). Going queued log new u) (sym under_way) (go old.under_way going)
  where
    go : (u : Option UnderWay) → Going queued log old u → Going queued log new u
    go None g = tt
    go (Some u) g = record { place = g.place; message = g.message; at = g.at; unfinished = g.unfinished; begun = g.begun; is = id ∙ g.is; waiting = g.waiting; front = ap front_of messages ∙ g.front; named = g.named; came = g.came }

pub going_shorter : (queued : List Message) (log : List Slot) (old new : Stream) → new.id ≡ old.id → HasSame old new ⊎ LosesFront old new → Going queued log old old.under_way → Going queued log new new.under_way
going_shorter queued log old new id (inl e) going = going_same queued log old new id e.0 e.1 going
going_shorter queued log old new id (inr e) going = subst (λ (u : Option UnderWay). Going queued log new u) (sym e.1) tt

-- ---- such queues hold what was queued

pub shorter_hold : (queued : List Message) (log : List Slot) (old new : List Stream) → Shorter old new → HoldsQueued queued log old → HoldsQueued queued log new
shorter_hold queued log old new shorter queue_holds =
    record {
      wait = wait_on queued old new shorter queue_holds.wait;
      ascend = ascend_on old new shorter queue_holds.ascend;
      beyond = λ q n f at of. unbegun_shorter f.place (stream_at old q) (stream_at new q) (shorter.messages q) (queue_holds.beyond q n f at (of ∙ shorter.ids q));
      distinct = distinct_on old new shorter queue_holds.distinct;
      small = small_on old new shorter queue_holds.small;
      going = λ q. going_shorter queued log (stream_at old q) (stream_at new q) (shorter.ids q) (shorter.messages q) (queue_holds.going q);
      room = room;
    }
  where
    room : HasRoomForLog queued log new
    room =
        let less = weight_less old new shorter.sizes (λ q. only_messages (stream_at old q) (stream_at new q) (shorter.messages q)) in
        let leaves = shorter_weight old new shorter.sizes shorter.messages (λ q. going_weight queued log (stream_at old q) (queue_holds.wait q) (queue_holds.going q)) in
        let whole = queue_holds.room.whole in
        let count = queue_holds.room.count in
        record { whole = omega (arith, less, whole); count = omega (arith, leaves, count) }

pub alike_hold : (queued : List Message) (log : List Slot) (old new : List Stream) → Alike old new → HoldsQueued queued log old → HoldsQueued queued log new
alike_hold queued log old new alike queue_holds = shorter_hold queued log old new (alike_is_shorter old new alike) queue_holds

-- ---- which streams there are

-- a stream with a message is there; where there is none, none waits
pub within_streams : (streams : List Stream) (place : ℕ) (w : Waiting) → front_of (stream_at streams place).messages ≡ Some w → place < length streams
within_streams streams place w front =
    elim (leb_tells (suc place) (length streams)) [
      | inl e ↦ e.1
      | inr e ↦
          (let beyond : length streams ≤ place = (let lt : length streams < suc place = e.1 in omega arith) in
          let nothing : ◌≡◌ {A = Option Waiting} None (Some w) = ap (λ (s : Stream). front_of s.messages) (sym (get_or_past streams place (unused_stream 0 0 0) beyond)) ∙ front in
          absurd (cc))
    ]

pub there_or_empty : (streams : List Stream) (q : ℕ) → (q < length streams) ⊎ ((stream_at streams q).messages ≡ [])
there_or_empty streams q =
    elim (leb_tells (suc q) (length streams)) [
      | inl e ↦ inl e.1
      | inr e ↦
          (let beyond : length streams ≤ q = (let lt : length streams < suc q = e.1 in omega arith) in
          inr (ap (λ (s : Stream). s.messages) (get_or_past streams q (unused_stream 0 0 0) beyond)))
    ]

pub none_beyond : (place : ℕ) (messages : List Waiting) → messages ≡ [] → AllBeyond place messages
none_beyond place messages e = subst (λ (l : List Waiting). AllBeyond place l) (sym e) tt

-- ---- moves of the queue

alike_follows : FollowsCounts Alike
alike_follows =
    record {
      same = alike_same;
      both = λ old between new one two. alike_twice old between new one two;
      set = λ place new streams is. alike_set streams place new is.id is.messages is.under_way;
    }

pub reduced_alike : (place size : ℕ) (queue : SendQueueState) → Alike queue.streams (reduced_queue place size queue).streams
reduced_alike place size queue = by_amount Alike alike_follows place size queue

pub numbered_reduced : (place size : ℕ) (message : Waiting) (under_way : UnderWay) (queue : SendQueueState) → Alike queue.streams (fragment_counted place size message under_way (reduced_queue place size queue)).streams
numbered_reduced place size message under_way queue = by_leaving Alike alike_follows place size message under_way queue

pub last_shorter : (place : ℕ) (message : Waiting) (under_way : UnderWay) (queue : SendQueueState) → Shorter queue.streams (after_last place message under_way queue).streams
last_shorter place message under_way queue =
    let size : ℕ = length message.payload - under_way.sent in
    let between : SendQueueState = fragment_counted place size message under_way (reduced_queue place size queue) in
    alike_shorter queue.streams between.streams (after_last place message under_way queue).streams (numbered_reduced place size message under_way queue)
    (shorter_set between.streams place)

pub rest_shorter : (place sent : ℕ) (message : Waiting) (queue : SendQueueState) → Shorter queue.streams (without_rest place sent message queue).streams
rest_shorter place sent message queue =
    alike_shorter queue.streams (reduced_queue place (length message.payload - sent) queue).streams (without_rest place sent message queue).streams (reduced_alike place (length message.payload - sent) queue)
    (shorter_set (reduced_queue place (length message.payload - sent) queue).streams place)

pub drops_hold : {P : Type 0} (queued : List Message) (log : List Slot) (now : ℕ) (old : SendQueueState) (events : List (Event P)) (new : SendQueueState) → Drops now old events new
    → HoldsQueued queued log old.streams → HoldsQueued queued log new.streams
drops_hold queued log now old events new none queue_holds = queue_holds
drops_hold queued log now old events new (more events' queue place message drops next front expired) queue_holds =
    shorter_hold queued log queue.streams (without_rest place 0 message queue).streams (rest_shorter place 0 message queue) (drops_hold queued log now old events' queue drops queue_holds)
