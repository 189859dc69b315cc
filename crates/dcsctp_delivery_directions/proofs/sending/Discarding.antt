-- What the send queue drops.
use Rattle.std.proofs.Common.{◌≡◌, ℕ, true, false, ◌<◌, ◌+◌, ◌-◌, ◌^◌, List, ◌∷◌, length, drop, refl, sym, ◌∙◌, ap, arith, subst, inl, inr}
use Rattle.std.specs.Prelude.{Option, None, Some, is_some, if◌then◌else◌}
use Rattle.dcsctp_spec.specs.endpoint.Event.{Event}
use Rattle.dcsctp_spec.specs.types.declared.sending.UnderWay.{UnderWay}
use Rattle.dcsctp_spec.specs.types.queues.SendStreams.{Waiting, Stream, front_of, unused_stream, stream_at, progress_size}
use Rattle.dcsctp_spec.specs.queues.SendQueue.{SendQueueState}
use Rattle.dcsctp_spec.specs.queues.Sending.{Fragment, without_rest, released_queue, TakesFragment, Discards, IsMessageUnderWay, reserve_begun}
use Rattle.dcsctp_delivery_directions.specs.sending.Places.{at_place}
use Rattle.dcsctp_delivery_directions.specs.sending.Log.{Message, Piece, newest, newest_on, History, with_slot}
use Rattle.dcsctp_delivery_directions.specs.sending.Pieces.{WaitingWasQueued, AllQueued, AllBeyond, Ascend, unbegun, Going, IsGoing, HoldsQueued}
use Rattle.dcsctp_delivery_directions.specs.sending.Numbers.{stream_named, HoldsWhole, NumbersMessages, is_always_whole, RestAtEnds}
use Rattle.dcsctp_delivery_directions.specs.sending.Weights.{weigh, HasRoomForLog}
use Rattle.dcsctp_delivery_directions.proofs.sending.Places.{decide, at_below, at_stays, at_new}
use Rattle.dcsctp_delivery_directions.proofs.sending.Weights.{front_weighs, weight_changed, sum_changed}
use Rattle.dcsctp_delivery_directions.proofs.sending.Newest.{newest_last, newest_lies, is_newest, newest_found, closed_stays}
use Rattle.dcsctp_delivery_directions.proofs.sending.StreamWeights.{front_queued}
use Rattle.dcsctp_delivery_directions.proofs.sending.Streams.{queued_drop, ascend_drop, unbegun_rest}
use Rattle.dcsctp_delivery_directions.proofs.sending.StreamsNamed.{found_at}
use Rattle.dcsctp_delivery_directions.proofs.sending.Stages.{with_none}
use Rattle.dcsctp_delivery_directions.proofs.sending.Fragments.{each_changed, changes_ids, changes_distinct, changes_named}
use Rattle.dcsctp_delivery_directions.proofs.sending.WhatLeaves.{DropsFront, drops_front, released_same}
use Rattle.dcsctp_delivery_directions.proofs.sending.Produced.{going_none}
use Rattle.dcsctp_delivery_directions.proofs.sending.ProducedHeld.{held_on, one_held, released_ours}
use Rattle.dcsctp_delivery_directions.proofs.sending.Numbers.{kind_dropped, numbers_rest}
use Rattle.dcsctp_delivery_directions.proofs.sending.Numbered.{numbered_ended}
use Rattle.dcsctp_delivery_directions.proofs.sending.ProducedNumbers.{produced_kind}

pub takes_kind : {P : Type 0} (now max : ℕ) (old new : SendQueueState) (before after : List (Event P)) (part : Fragment) → TakesFragment now max old before part new after → new.is_interleaved ≡ old.is_interleaved
takes_kind now max old new before after part takes =
    ap (λ (q : SendQueueState). q.is_interleaved) takes.left ∙ produced_kind takes.place max takes.message takes.under_way takes.queue ∙ kind_dropped now old takes.drops.events takes.queue takes.drops.drops

-- The rest of the message under way is dropped, and its end may take a TSN. It is one that is kept whole.
module _ (queued : List Message) (history : History) (old : SendQueueState) (stream message_id : ℕ) (named : IsMessageUnderWay old stream message_id) (holds : HoldsQueued queued history.log old.streams)
    (numbers : NumbersMessages history old) (whole : is_always_whole named.message old ≡ true) where
  place_named : stream_named stream old.streams ≡ stream_at old.streams named.place
  place_named = subst (λ (k : ℕ). stream_named k old.streams ≡ stream_at old.streams named.place) named.is (found_at (unused_stream 0 0 0) named.place old.streams named.within holds.distinct)

  pub held_so : old.held ≡ held_on stream
  held_so =
      numbers.whole.each stream named.message (ap (λ (s : Stream). is_some s.under_way) place_named ∙ ap is_some named.goes_on) (ap (λ (s : Stream). front_of s.messages) place_named ∙ named.front) whole

  pub going : IsGoing queued history.log (stream_at old.streams named.place) named.under_way
  going = subst (Going queued history.log (stream_at old.streams named.place)) named.goes_on (holds.going named.place)

  pub of_stream : named.under_way.stream_id.0 ≡ stream
  of_stream = sym going.is ∙ named.is

  is_front : going.waiting ≡ named.message
  is_front = let both : Some going.waiting ≡ Some named.message = sym going.front ∙ named.front in cc

  pub of_message : going.place ≡ message_id
  of_message = sym going.named ∙ ap (λ (w : Waiting). w.message_id) is_front ∙ named.named

  -- the newest piece is of the message that is dropped
  pub newest_named : (n : ℕ) (f : Piece) → at_place n history.log ≡ Some (Some f) → n + 1 ≡ length history.log → f.place ≡ message_id
  newest_named n f at last =
      let (g, on, newest) = newest_last stream history.log (numbers.whole.newest stream held_so) (omega (arith, last)) in
      let both : Some (Some g) ≡ Some (Some f) = sym newest ∙ is_newest n f history.log last at in
      let same : g ≡ f = cc in
      elim going.came [
        | inl none ↦ absurd (let clash : None ≡ Some g = sym none ∙ ap (λ (k : ℕ). newest_on k history.log) of_stream ∙ on in cc)
        | inr c ↦
            (let both' : Some c.piece ≡ Some g = sym c.at ∙ ap (λ (k : ℕ). newest_on k history.log) of_stream ∙ on in
            let same' : c.piece ≡ g = cc in
            ap (λ (x : Piece). x.place) (sym same) ∙ ap (λ (x : Piece). x.place) (sym same') ∙ c.is ∙ of_message)
      ]

  left : SendQueueState
  left = released_queue stream (reserve_begun (length named.message.payload) named.under_way) (without_rest named.place named.under_way.sent named.message old)

  d : DropsFront named.place old (without_rest named.place named.under_way.sent named.message old)
  d = drops_front named.place named.under_way.sent named.message old named.within

  abbrev streams : List Stream
  streams = (without_rest named.place named.under_way.sent named.message old).streams

  rest_is : unbegun (stream_at streams named.place) ≡ drop 1 (stream_at old.streams named.place).messages
  rest_is = ap (λ (u : Option UnderWay). drop (if is_some u then 1 else 0) (stream_at streams named.place).messages) d.progress_is ∙ d.messages_are

  beyond_left : (q n : ℕ) (f : Piece) → at_place n (None ∷ history.log) ≡ Some (Some f) → f.message.stream ≡ (stream_at streams q).id → AllBeyond f.place (unbegun (stream_at streams q))
  beyond_left q n f at on =
      let at' = with_none history.log n f at in
      elim (decide q named.place) [
        | inl here ↦
            subst (λ (k : ℕ). AllBeyond f.place (unbegun (stream_at streams k))) (sym here)
            (subst (λ (l : List Waiting). AllBeyond f.place l) (sym rest_is)
            (unbegun_rest f.place (stream_at old.streams named.place) (holds.beyond named.place n f at' (on ∙ ap (λ (k : ℕ). (stream_at streams k).id) here ∙ d.one.id))))
        | inr other ↦
            (let same = d.one.others q other in
            subst (λ (s : Stream). AllBeyond f.place (unbegun s)) (sym same) (holds.beyond q n f at' (on ∙ ap (λ (s : Stream). s.id) same)))
      ]

  left_room : HasRoomForLog queued (None ∷ history.log) streams
  left_room =
      let w : WaitingWasQueued queued (stream_at old.streams named.place).id named.message = front_queued queued (stream_at old.streams named.place).id (stream_at old.streams named.place).messages named.message (holds.wait named.place) named.front in
      let found : Some w.message ≡ Some going.message = sym w.at ∙ ap (λ (k : ℕ). at_place k queued) (named.named ∙ sym of_message) ∙ going.at in
      let same_message : w.message ≡ going.message = cc in
      let sizes : length named.message.payload ≡ length going.message.payload = ap (λ (l : List ℕ). length l) w.is.payload ∙ ap (λ (m : Message). length m.payload) same_message in
      let unfinished = going.unfinished in
      let weights = weight_changed named.place old.streams streams d.one.sizes named.within d.one.others in
      let here : weigh (stream_at streams named.place).messages ≡ weigh (drop 1 (stream_at old.streams named.place).messages) = ap weigh d.messages_are in
      let front = front_weighs (stream_at old.streams named.place).messages named.message named.front in
      let sums = sum_changed (λ (s : Stream). progress_size s.under_way) named.place old.streams streams d.one.sizes named.within d.one.others in
      let there : progress_size (stream_at streams named.place).under_way ≡ 0 = ap progress_size d.progress_is in
      let sent : progress_size (stream_at old.streams named.place).under_way ≡ named.under_way.sent = ap progress_size named.goes_on in
      let whole' = holds.room.whole in
      let count = holds.room.count in
      record { whole = omega (arith, weights, here, front, whole'); count = omega (arith, weights, here, front, sums, there, sent, sizes, unfinished, count) }

  left_hold : HoldsQueued queued (None ∷ history.log) streams
  left_hold =
      record {
        wait = each_changed (λ (s : Stream). AllQueued queued s.id s.messages) named.place old.streams streams d.one
            (subst (λ (k : ℕ). AllQueued queued k (stream_at streams named.place).messages) (sym d.one.id)
            (subst (λ (l : List Waiting). AllQueued queued (stream_at old.streams named.place).id l) (sym d.messages_are)
            (queued_drop queued (stream_at old.streams named.place).id (stream_at old.streams named.place).messages (holds.wait named.place)))) holds.wait;
        ascend = each_changed (λ (s : Stream). Ascend s.messages) named.place old.streams streams d.one
            (subst (λ (l : List Waiting). Ascend l) (sym d.messages_are) (ascend_drop (stream_at old.streams named.place).messages (holds.ascend named.place))) holds.ascend;
        beyond = beyond_left;
        distinct = changes_distinct named.place old.streams streams d.one holds.distinct;
        small = λ q. subst (λ (k : ℕ). k < 2 ^ 16) (sym (changes_ids named.place old.streams streams d.one q)) (holds.small q);
        going = each_changed (λ (s : Stream). Going queued (None ∷ history.log) s s.under_way) named.place old.streams streams d.one
            (subst (Going queued (None ∷ history.log) (stream_at streams named.place)) (sym d.progress_is) tt)
            (λ q. going_none queued history.log (stream_at old.streams q) (stream_at old.streams q).under_way (holds.going q));
        room = left_room;
      }

  -- no other message that is kept whole is under way
  left_whole : HoldsWhole (None ∷ history.log) left
  unfolding left
  left_whole =
      let idle : (released_queue stream (reserve_begun (length named.message.payload) named.under_way) (without_rest named.place named.under_way.sent named.message old)).held ≡ None =
      released_same stream (reserve_begun (length named.message.payload) named.under_way) old (without_rest named.place named.under_way.sent named.message old) refl ∙ released_ours stream (reserve_begun (length named.message.payload) named.under_way) old (inr held_so) in
      record {
        each = λ id waiting is front kept. absurd (others id waiting is front kept);
        held = λ id is. absurd (let clash : None ≡ held_on id = sym idle ∙ is in cc);
        newest = λ id is. absurd (let clash : None ≡ held_on id = sym idle ∙ is in cc);
      }
    where
      there : stream_named stream streams ≡ stream_at streams named.place
      there = subst (λ (k : ℕ). stream_named k streams ≡ stream_at streams named.place) named.is (changes_named named.place old.streams streams d.one named.within holds.distinct)

      others : (id : ℕ) (waiting : Waiting) → is_some (stream_named id streams).under_way ≡ true → front_of (stream_named id streams).messages ≡ Some waiting → is_always_whole waiting old ≡ true → ⊥
      others id waiting is front kept =
          elim (decide id stream) [
            | inl same ↦ (let clash : false ≡ true = ap is_some (sym d.progress_is) ∙ ap (λ (s : Stream). is_some s.under_way) (sym there) ∙ ap (λ (k : ℕ). is_some (stream_named k streams).under_way) (sym same) ∙ is in cc)
            | inr ne ↦
                (let same = d.one.named id (λ on. ne (on ∙ named.is)) in
                ne (sym (one_held stream id old (inr held_so)
                (numbers.whole.each id waiting (ap (λ (s : Stream). is_some s.under_way) (sym same) ∙ is) (ap (λ (s : Stream). front_of s.messages) (sym same) ∙ front) kept))))
          ]

  -- the newest piece of its stream is of the message that is dropped
  newest_dropped : (f : Piece) → newest_on stream history.log ≡ Some f → f.place ≡ message_id
  newest_dropped f newest =
      elim going.came [
        | inl none ↦ absurd (let clash : None ≡ Some f = sym none ∙ ap (λ (k : ℕ). newest_on k history.log) of_stream ∙ newest in cc)
        | inr c ↦
            (let both : Some c.piece ≡ Some f = sym c.at ∙ ap (λ (k : ℕ). newest_on k history.log) of_stream ∙ newest in
            let same : c.piece ≡ f = cc in
            ap (λ (x : Piece). x.place) (sym same) ∙ c.is ∙ of_message)
      ]

  -- One was sent.
  pub newest_there : 0 < length history.log → (g : Piece) × (at_place (length history.log - 1) history.log ≡ Some (Some g)) × (g.place ≡ message_id)
  newest_there some =
      let (g, on, last) = newest_last stream history.log (numbers.whole.newest stream held_so) some in
      let at = newest_lies history.log g (length history.log - 1) last (omega (arith, some)) in
      (g, at, newest_named (length history.log - 1) g at (omega (arith, some)))

  left_rests : ((n : ℕ) (f : Piece) → at_place n history.log ≡ Some (Some f) → f.place ≡ message_id → f.message.is_limited ≡ true) → RestAtEnds (None ∷ history.log) streams
  left_rests limited id none f newest =
      elim (decide id stream) [
        | inl same ↦
            (let here : newest_on stream history.log ≡ Some f = ap (λ (k : ℕ). newest_on k history.log) (sym same) ∙ newest in
            let found = newest_found stream history.log f here in
            let below = at_below found.number (Some f) history.log found.at in
            let (g, on, last) = newest_last stream history.log (numbers.whole.newest stream held_so) (omega (arith, below)) in
            let up = found.last (length history.log - 1) g (newest_lies history.log g (length history.log - 1) last (omega (arith, below))) (newest_found stream history.log g on).on in
            inr
            (record {
              offset = found.number;
              at = at_stays found.number None (Some f) history.log found.at;
              end = ap (λ (k : ℕ). at_place k (None ∷ history.log)) (omega (arith, below, up)) ∙ at_new None history.log;
              limited = limited found.number f found.at (newest_dropped f here);
            }))
        | inr ne ↦ closed_stays None history.log f (numbers.rests id (ap (λ (s : Stream). s.under_way) (sym (d.one.named id (λ on. ne (on ∙ named.is)))) ∙ none) f newest)
      ]

  left_numbered : ((n : ℕ) (f : Piece) → at_place n history.log ≡ Some (Some f) → f.place ≡ message_id → f.message.is_limited ≡ true) → NumbersMessages (with_slot None history) left
  unfolding left
  left_numbered limited =
      numbered_ended history old (released_queue stream (reserve_begun (length named.message.payload) named.under_way) (without_rest named.place named.under_way.sent named.message old)) refl (numbers_rest named.place named.under_way.sent named.message old) left_whole (left_rests limited) numbers

  -- what is under way then was under way
  pub left_ways : (id : ℕ) → is_some (stream_named id streams).under_way ≡ true → is_some (stream_named id old.streams).under_way ≡ true
  left_ways id is = ap is_some (sym ((numbers_rest named.place named.under_way.sent named.message old).fronts id is).under_way) ∙ is

pub discards_numbered : {P : Type 0} (queued : List Message) (history : History) (old new : SendQueueState) (stream message_id : ℕ) (before after : List (Event P)) → HoldsQueued queued history.log old.streams → NumbersMessages history old
    → (discards : Discards old stream message_id before new after) → is_always_whole discards.named.message old ≡ true
    → ((n : ℕ) (f : Piece) → at_place n history.log ≡ Some (Some f) → f.place ≡ message_id → f.message.is_limited ≡ true) → NumbersMessages (with_slot None history) new
unfolding left
discards_numbered queued history old new stream message_id before after holds numbers discards whole limited =
    subst (λ (b : SendQueueState). NumbersMessages (with_slot None history) b) (sym discards.left) (left_numbered queued history old stream message_id discards.named holds numbers whole limited)

pub discards_hold : {P : Type 0} (queued : List Message) (history : History) (old new : SendQueueState) (stream message_id : ℕ) (before after : List (Event P)) → HoldsQueued queued history.log old.streams → NumbersMessages history old
    → (discards : Discards old stream message_id before new after) → is_always_whole discards.named.message old ≡ true → HoldsQueued queued (None ∷ history.log) new.streams
discards_hold queued history old new stream message_id before after holds numbers discards whole =
    subst (λ (b : SendQueueState). HoldsQueued queued (None ∷ history.log) b.streams) (sym discards.left) (left_hold queued history old stream message_id discards.named holds numbers whole)

pub discards_ways : {P : Type 0} (queued : List Message) (history : History) (old new : SendQueueState) (stream message_id : ℕ) (before after : List (Event P)) → HoldsQueued queued history.log old.streams → NumbersMessages history old
    → (discards : Discards old stream message_id before new after) → is_always_whole discards.named.message old ≡ true
    → (id : ℕ) → is_some (stream_named id new.streams).under_way ≡ true → is_some (stream_named id old.streams).under_way ≡ true
discards_ways queued history old new stream message_id before after holds numbers discards whole id is =
    left_ways queued history old stream message_id discards.named holds numbers whole id (ap (λ (b : SendQueueState). is_some (stream_named id b.streams).under_way) (sym discards.left) ∙ is)
