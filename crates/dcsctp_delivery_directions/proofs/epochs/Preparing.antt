-- Requests to reset streams leave a stream that is sent by epochs so (RFC 6525, section 5.1.2).
use Rattle.std.proofs.Common.{◌≡◌, ◌==◌, ◌≢◌, ℕ, zero, suc, Bool, true, false, ◌<◌, List, [], ◌∷◌, length, drop, take, refl, sym, ◌∙◌, ap, arith, subst, inl, inr}
use Rattle.std.specs.Prelude.{◌||◌, ◌&&◌, Option, None, Some, is_some, nat_lt, if◌then◌else◌}
use Rattle.std.proofs.lemmas.Bool.{eqb-true}
use Rattle.std.proofs.lemmas.Bool.Decides.{eqb_tells}
use Rattle.dcsctp_spec.specs.types.declared.sending.Pause.{Pause}
use Rattle.dcsctp_spec.specs.types.declared.sending.Pause.TheVariants.{Pausing}
use Rattle.dcsctp_spec.specs.types.declared.sending.UnderWay.{UnderWay}
use Rattle.dcsctp_spec.specs.types.queues.SendStreams.{Waiting, Stream, front_of, stream_at, unused_stream}
use Rattle.dcsctp_spec.specs.queues.Incoming.{is_named}
use Rattle.dcsctp_spec.specs.queues.OwnResets.{is_open_pause, count_under_way, dropped_size, prepared_stream, with_used, prepared_open, queue_with_prepared, prepared_all}
use Rattle.dcsctp_spec.specs.queues.SendQueue.{SendQueueState, stream_changed, with_stream, is_used, used_streams, queue_stream}
use Rattle.dcsctp_delivery_directions.specs.sending.Places.{HasEntry}
use Rattle.dcsctp_delivery_directions.specs.sending.Log.{Message, Slot, History, IsLogOfPieces}
use Rattle.dcsctp_delivery_directions.specs.sending.Numbers.{stream_named}
use Rattle.dcsctp_delivery_directions.specs.sending.Pieces.{HoldsQueued}
use Rattle.dcsctp_delivery_directions.proofs.sending.Losing.{queued_of}
use Rattle.dcsctp_delivery_directions.proofs.sending.Places.{at_below}
use Rattle.dcsctp_delivery_directions.proofs.sending.StreamsNamed.{found_default, found_mapped}
use Rattle.dcsctp_delivery_directions.proofs.sending.WhatWaits.{front_has}
use Rattle.dcsctp_delivery_directions.specs.epochs.Sending.{AllFrom, EpochBounds, asked_with, is_open, SendsByEpoch, IsKnown}
use Rattle.dcsctp_delivery_directions.proofs.epochs.Named.{named_or_unused, from_has, from_each, IsUnmoved, unmoved, used_unmoved}
use Rattle.dcsctp_delivery_directions.proofs.epochs.Alike.{same_history, stays_by_epoch}

used_with : (new : Stream) (l : List Stream) → is_used new.id (with_stream new l) ≡ true
used_with new [] = elim (eqb_tells new.id new.id) [ inl e ↦ rw e.0 refl | inr e ↦ absurd (e.1 refl) ]
used_with new (s ∷ l) = go (nat_lt s.id new.id) (used_with new l)
  where
    or_true : (a : Bool) → (a || true) ≡ true
    or_true true = refl
    or_true false = refl

    go : (b : Bool) → is_used new.id (with_stream new l) ≡ true → is_used new.id (if b then s ∷ with_stream new l else new ∷ s ∷ l) ≡ true
    go true rest = ap (λ (b : Bool). (s.id == new.id) || b) rest ∙ or_true (s.id == new.id)
    go false rest = elim (eqb_tells new.id new.id) [ inl e ↦ rw e.0 refl | inr e ↦ absurd (e.1 refl) ]

used_always : (queue : SendQueueState) (id : ℕ) → is_used id (used_streams queue id) ≡ true
used_always queue id = go (is_used id queue.streams) refl
  where
    go : (b : Bool) → is_used id queue.streams ≡ b → is_used id (if b then queue.streams else with_stream (unused_stream id queue.default_priority queue.default_threshold) queue.streams) ≡ true
    go true e = e
    go false e = used_with (unused_stream id queue.default_priority queue.default_threshold) queue.streams

-- the stream that is changed
named_changed : (id : ℕ) (f : Stream → Stream) (l : List Stream) → ((s : Stream) → (f s).id ≡ s.id) → is_used id l ≡ true → stream_named id (stream_changed id f l) ≡ f (stream_named id l)
named_changed id f [] ids used = absurd (cc)
named_changed id f (s ∷ l) ids used =
    elim (eqb_tells s.id id) [
      | inl e ↦ rw e.0 (rw (ap (λ (k : ℕ). k == id) (ids s) ∙ e.0) refl)
      | inr e ↦ rw e.0 (rw e.0 (named_changed id f l ids (rw e.0 at used)))
    ]

-- What becomes of the stream: it is paused, with the message under way alone, or nothing changes.
pub data IsPreparedAs (named : Bool) (old new : Stream) : Type 0 where
  paused : (named && is_open_pause old.pause) ≡ true → new.messages ≡ take (count_under_way old) old.messages → new.under_way ≡ old.under_way → new.pause ≡ Pausing → IsPreparedAs named old new
  left : (named && is_open_pause old.pause) ≡ false → IsUnmoved old new → IsPreparedAs named old new

counted_same : (old new : Stream) → new.under_way ≡ old.under_way → count_under_way new ≡ count_under_way old
counted_same old new same = ap (λ (u : Option UnderWay). if is_some u then 1 else 0) same

prepared_other : (other id : ℕ) (queue : SendQueueState) → other ≢ id → IsUnmoved (stream_named id queue.streams) (stream_named id (queue_with_prepared other queue).streams)
prepared_other other id queue ne = go (is_open_pause (queue_stream start other).pause)
  where
    start : SendQueueState
    start = with_used other queue

    one_id : (b : Bool) (s : Stream) → (if b then prepared_stream (dropped_size other start) (count_under_way (queue_stream start other)) s else s).id ≡ s.id
    one_id true s = refl
    one_id false s = refl

    one : (b : Bool) (s : Stream) → (s.id == other) ≡ b → s.id ≡ id → IsUnmoved s (if b then prepared_stream (dropped_size other start) (count_under_way (queue_stream start other)) s else s)
    one true s is here = absurd (ne (sym (eqb-true s.id other is) ∙ here))
    one false s is here = unmoved s

    go : (b : Bool) → IsUnmoved (stream_named id queue.streams) (stream_named id (if b then prepared_open other start else start).streams)
    go false = used_unmoved queue other id
    go true =
        let used = used_unmoved queue other id in
        let changed : IsUnmoved (stream_named id start.streams) (stream_named id (prepared_open other start).streams) =
        found_mapped IsUnmoved id (unused_stream 0 0 0) (λ s. if s.id == other then prepared_stream (dropped_size other start) (count_under_way (queue_stream start other)) s else s) (λ s. one_id (s.id == other) s) (unmoved (unused_stream 0 0 0))
        (λ s here. one (s.id == other) s refl here) start.streams in
        record { messages = changed.messages ∙ used.messages; under_way = changed.under_way ∙ used.under_way; pause = changed.pause ∙ used.pause }

prepared_here : (id : ℕ) (queue : SendQueueState) → IsPreparedAs true (stream_named id queue.streams) (stream_named id (queue_with_prepared id queue).streams)
prepared_here id queue = go (is_open_pause (queue_stream start id).pause) refl
  where
    start : SendQueueState
    start = with_used id queue

    used : IsUnmoved (stream_named id queue.streams) (stream_named id start.streams)
    used = used_unmoved queue id id

    same : is_open_pause (queue_stream start id).pause ≡ is_open_pause (stream_named id queue.streams).pause
    same = ap is_open_pause (found_default (λ s. s.pause) (unused_stream id queue.default_priority queue.default_threshold) (unused_stream 0 0 0) refl id start.streams ∙ used.pause)

    kept : count_under_way (queue_stream start id) ≡ count_under_way (stream_named id queue.streams)
    kept =
        ap (λ (u : Option UnderWay). if is_some u then 1 else 0)
        (found_default (λ s. s.under_way) (unused_stream id queue.default_priority queue.default_threshold) (unused_stream 0 0 0) refl id start.streams ∙ used.under_way)

    go : (b : Bool) → is_open_pause (queue_stream start id).pause ≡ b → IsPreparedAs true (stream_named id queue.streams) (stream_named id (if b then prepared_open id start else start).streams)
    go false is = left (sym same ∙ is) used
    go true is =
        let its : stream_named id (prepared_open id start).streams ≡ prepared_stream (dropped_size id start) (count_under_way (queue_stream start id)) (stream_named id start.streams) =
        named_changed id (prepared_stream (dropped_size id start) (count_under_way (queue_stream start id))) start.streams (λ s. refl) (used_always queue id) in
        paused (sym same ∙ is) (ap (λ (s : Stream). s.messages) its ∙ ap (λ (l : List Waiting). take (count_under_way (queue_stream start id)) l) used.messages ∙ ap (λ (k : ℕ). take k (stream_named id queue.streams).messages) kept)
        (ap (λ (s : Stream). s.under_way) its ∙ used.under_way) (ap (λ (s : Stream). s.pause) its)

-- a stream that stays so, and then is prepared
unmoved_then : (named : Bool) (old between new : Stream) → IsUnmoved old between → IsPreparedAs named between new → IsPreparedAs named old new
unmoved_then named old between new one (paused is messages way pause) =
    paused (ap (λ (p : Pause). named && is_open_pause p) (sym one.pause) ∙ is)
    (messages ∙ ap (λ (l : List Waiting). take (count_under_way between) l) one.messages ∙ ap (λ (k : ℕ). take k old.messages) (counted_same old between one.under_way)) (way ∙ one.under_way) pause
unmoved_then named old between new one (left is two) =
    left (ap (λ (p : Pause). named && is_open_pause p) (sym one.pause) ∙ is) (record { messages = two.messages ∙ one.messages; under_way = two.under_way ∙ one.under_way; pause = two.pause ∙ one.pause })

and_false : (b : Bool) → (b && false) ≡ false
and_false true = refl
and_false false = refl

-- a stream that is prepared, and then named again or not
prepared_then : (named : Bool) (old between new : Stream) → IsPreparedAs true old between → IsPreparedAs named between new → IsPreparedAs true old new
prepared_then named old between new (left is one) two = again two
  where
    again : IsPreparedAs named between new → IsPreparedAs true old new
    again (left is' two') = left is (record { messages = two'.messages ∙ one.messages; under_way = two'.under_way ∙ one.under_way; pause = two'.pause ∙ one.pause })
    again (paused is' messages way pause) =
        absurd (let no : false ≡ true = sym (ap (λ (b : Bool). named && b) (ap is_open_pause one.pause ∙ is) ∙ and_false named) ∙ is' in cc)
prepared_then named old between new (paused is messages way pause) two = again two
  where
    again : IsPreparedAs named between new → IsPreparedAs true old new
    again (left is' two') = paused is (two'.messages ∙ messages) (two'.under_way ∙ way) (two'.pause ∙ pause)
    again (paused is' messages' way' pause') =
        absurd (let no : false ≡ true = sym (ap (λ (p : Pause). named && is_open_pause p) pause ∙ and_false named) ∙ is' in cc)

pub preparing_named : (ids : List ℕ) (queue : SendQueueState) (id : ℕ) → IsPreparedAs (is_named ids id) (stream_named id queue.streams) (stream_named id (prepared_all ids queue).streams)
preparing_named [] queue id = left refl (unmoved (stream_named id queue.streams))
preparing_named (other ∷ ids) queue id =
    let rest : IsPreparedAs (is_named ids id) (stream_named id (queue_with_prepared other queue).streams) (stream_named id (prepared_all (other ∷ ids) queue).streams) = preparing_named ids (queue_with_prepared other queue) id in
    elim (eqb_tells other id) [
      | inr e ↦
          subst (λ (b : Bool). IsPreparedAs (b || is_named ids id) (stream_named id queue.streams) (stream_named id (prepared_all (other ∷ ids) queue).streams)) (sym e.0)
          (unmoved_then (is_named ids id) (stream_named id queue.streams) (stream_named id (queue_with_prepared other queue).streams) (stream_named id (prepared_all (other ∷ ids) queue).streams)
          (prepared_other other id queue e.1) rest)
      | inl e ↦
          subst (λ (b : Bool). IsPreparedAs (b || is_named ids id) (stream_named id queue.streams) (stream_named id (prepared_all (other ∷ ids) queue).streams)) (sym e.0)
          (prepared_then (is_named ids id) (stream_named id queue.streams) (stream_named id (queue_with_prepared other queue).streams) (stream_named id (prepared_all (other ∷ ids) queue).streams)
          (subst (λ (k : ℕ). IsPreparedAs true (stream_named id queue.streams) (stream_named id (queue_with_prepared k queue).streams)) (sym e.1) (prepared_here id queue)) rest)
    ]

-- what waits on a stream was queued
pub waits_queued : (queued : List Message) (log : List Slot) (streams : List Stream) (id : ℕ) (w : Waiting) → HoldsQueued queued log streams → HasEntry w (stream_named id streams).messages → w.message_id < length queued
waits_queued queued log streams id w holds has =
    elim (named_or_unused id streams) [
      | inl at ↦
          (let was = queued_of queued (stream_at streams at.q).id (stream_at streams at.q).messages w (holds.wait at.q) (subst (λ (s : Stream). HasEntry w s.messages) at.same has) in
          at_below w.message_id was.message queued was.at)
      | inr none ↦ absurd (subst (λ (s : Stream). HasEntry w s.messages) none has)
    ]

pub take_has : (k : ℕ) (l : List Waiting) (w : Waiting) → HasEntry w (take k l) → HasEntry w l
take_has zero l w has = absurd has
take_has (suc k) [] w has = absurd has
take_has (suc k) (v ∷ l) w has = elim has [ inl e ↦ inl e | inr t ↦ inr (take_has k l w t) ]

pub nothing_left : (a : ℕ) (u : Option UnderWay) (l : List Waiting) → AllFrom a (drop (if is_some u then 1 else 0) (take (if is_some u then 1 else 0) l))
nothing_left a (Some u) [] = tt
nothing_left a (Some u) (w ∷ l) = tt
nothing_left a None l = tt

pub preparing_by_epoch : (ids : List ℕ) (queued : List Message) (queue : SendQueueState) (history : History) (id : ℕ) (asked : ℕ → EpochBounds) → IsLogOfPieces queued history.log → HoldsQueued queued history.log queue.streams
    → SendsByEpoch (length queued) history queue id (asked id) → SendsByEpoch (length queued) history (prepared_all ids queue) id (asked_with ids queue.streams (length queued) asked id)
preparing_by_epoch ids queued queue history id asked cut holds e = go (preparing_named ids queue id)
  where
    old : Stream
    old = stream_named id queue.streams

    go : IsPreparedAs (is_named ids id) (stream_named id queue.streams) (stream_named id (prepared_all ids queue).streams)
        → SendsByEpoch (length queued) history (prepared_all ids queue) id (asked_with ids queue.streams (length queued) asked id)
    go (left is unmoves) =
        rw is (stays_by_epoch history history (same_history history) queue (prepared_all ids queue) id unmoves (length queued) (length queued) (asked id) (omega arith) e)
    go (paused is messages way pause) =
        rw is (record {
          from = record {
            sent = e.from.sent;
            waits = subst (λ (l : List Waiting). AllFrom (asked id).ended l) (sym messages)
                (from_each (asked id).ended (take (count_under_way old) old.messages) (λ w has. from_has (asked id).ended old.messages w e.from.waits (take_has (count_under_way old) old.messages w has)));
          };
          stops = λ shut. record {
            sent = λ n f at on. at_below f.place f.message queued (cut.pieces n f at).at;
            going = λ w is' front. waits_queued queued history.log queue.streams id w holds
                (take_has (count_under_way old) old.messages w (front_has (take (count_under_way old) old.messages) w (ap front_of (sym messages) ∙ front)));
            rest = subst (λ (l : List Waiting). AllFrom (length queued) l)
                (sym (ap (λ (u : Option UnderWay). drop (if is_some u then 1 else 0) (stream_named id (prepared_all ids queue).streams).messages) way ∙ ap (λ (l : List Waiting). drop (count_under_way old) l) messages))
                (nothing_left (length queued) old.under_way old.messages);
          };
          newest = λ place same. (let one : length queued ≡ place = cc in let ended = e.ended in (omega (arith, one, ended), omega (arith, one)));
          ended = e.ended;
        })

-- A stream that is paused then was asked for now, or was paused before.
pub preparing_known : (ids : List ℕ) (queue : SendQueueState) (count id : ℕ) (asked : ℕ → EpochBounds) → (is_open id queue.streams ≡ false → IsKnown (asked id)) → is_open id (prepared_all ids queue).streams ≡ false → IsKnown (asked_with ids queue.streams count asked id)
preparing_known ids queue count id asked known shut = go (preparing_named ids queue id)
  where
    go : IsPreparedAs (is_named ids id) (stream_named id queue.streams) (stream_named id (prepared_all ids queue).streams) → IsKnown (asked_with ids queue.streams count asked id)
    go (paused is messages way pause) = rw is (record { place = count; is = refl })
    go (left is unmoves) = rw is (known (ap is_open_pause (sym unmoves.pause) ∙ shut))
