-- The next piece of a message that is under way.
use Rattle.std.proofs.Common.{◌≡◌, ℕ, Bool, true, false, ◌<◌, ◌-◌, ◌%◌, ◌^◌, List, length, refl, sym, ◌∙◌, ap, arith, subst, inl, inr}
use Rattle.std.specs.Prelude.{◌⊎◌, None, Some, is_some, ◌||◌, not}
use Rattle.dcsctp_spec.specs.types.declared.sending.UnderWay.{UnderWay}
use Rattle.dcsctp_spec.specs.types.queues.SendStreams.{Waiting, Stream, front_of, stream_at, progress_size, unused_stream}
use Rattle.dcsctp_spec.specs.queues.SendQueue.{SendQueueState, queue_interleaves}
use Rattle.dcsctp_spec.specs.queues.Sending.{fragment, queue_after_producing, size_produced, may_be_abandoned}
use Rattle.dcsctp_delivery_directions.specs.sending.Places.{at_place}
use Rattle.dcsctp_delivery_directions.specs.sending.Log.{Message, Piece, Slot, newest, newest_on, IsInRow, HasBefore, HasEarlier, History, with_slot}
use Rattle.dcsctp_delivery_directions.specs.sending.Pieces.{WaitingWasQueued, ComesTo, Going, IsGoing, HoldsQueued, HandsOutPiece}
use Rattle.dcsctp_delivery_directions.specs.sending.Numbers.{stream_named, is_handed_out, IsCurrent, IsLastBegun, LastIs, CountsByKind, CountsMessages, NumbersMessages, is_always_whole}
use Rattle.dcsctp_delivery_directions.proofs.sending.Places.{at_below}
use Rattle.dcsctp_delivery_directions.proofs.sending.StreamWeights.{front_queued}
use Rattle.dcsctp_delivery_directions.proofs.sending.Streams.{within_streams}
use Rattle.dcsctp_delivery_directions.proofs.sending.StreamsNamed.{found_at}
use Rattle.dcsctp_delivery_directions.proofs.sending.Newest.{newest_found, newest_none, newest_last, newest_lies}
use Rattle.dcsctp_delivery_directions.proofs.sending.WhatLeaves.{Leaves, leaves}
use Rattle.dcsctp_delivery_directions.proofs.sending.Produced.{TakesPiece, it_is_piece, it_says, it_holds}
use Rattle.dcsctp_delivery_directions.proofs.sending.ProducedNumbers.{later_counts, later_current}
use Rattle.dcsctp_delivery_directions.proofs.sending.ProducedTurns.{plain_whole, later_ssns}
use Rattle.dcsctp_delivery_directions.proofs.sending.ProducedHeld.{held_on, IsFreeFor, numbers_after, kept_after}

-- Which number the message under way has, whose pieces have it if any was sent.
record ItsNumber (id : ℕ) (log : List Slot) (under_way : UnderWay) : Type 0 where
  mid : ℕ
  is : under_way.mid % 2 ^ 32 ≡ mid % 2 ^ 32
  came : (f : Piece) → newest_on id log ≡ Some f → f.mid ≡ mid

-- A message that may be abandoned is kept whole.
pub limited_whole : (message : Waiting) (queue : SendQueueState) → may_be_abandoned message ≡ true → is_always_whole message queue ≡ true
limited_whole message queue limited = ap (λ (b : Bool). b || not (queue_interleaves queue)) limited

module _ (queued : List Message) (history : History) (max place : ℕ) (queue : SendQueueState) (message : Waiting) (under_way : UnderWay) (room : 0 < max) (holds : HoldsQueued queued history.log queue.streams)
    (numbers : NumbersMessages history queue) (front : front_of (stream_at queue.streams place).messages ≡ Some message) (progress : (stream_at queue.streams place).under_way ≡ Some under_way)
    (ours : IsFreeFor (stream_at queue.streams place).id queue) where
  abbrev here : ℕ
  here = (stream_at queue.streams place).id

  abbrev new : SendQueueState
  new = queue_after_producing place max message under_way queue

  going : IsGoing queued history.log (stream_at queue.streams place) under_way
  going = subst (Going queued history.log (stream_at queue.streams place)) progress (holds.going place)

  waited : WaitingWasQueued queued here message
  waited = front_queued queued here (stream_at queue.streams place).messages message (holds.wait place) front

  within' : place < length queue.streams
  within' = within_streams queue.streams place message front

  named : stream_named here queue.streams ≡ stream_at queue.streams place
  named = found_at (unused_stream 0 0 0) place queue.streams within' holds.distinct

  is_front : going.waiting ≡ message
  is_front = let both : Some going.waiting ≡ Some message = sym going.front ∙ front in cc

  named_so : message.message_id ≡ going.place
  named_so = ap (λ (w : Waiting). w.message_id) (sym is_front) ∙ going.named

  same_message : waited.message ≡ going.message
  same_message = let found : Some waited.message ≡ Some going.message = sym waited.at ∙ ap (λ (k : ℕ). at_place k queued) named_so ∙ going.at in cc

  unfinished : under_way.sent < length message.payload
  unfinished =
      let sizes : length message.payload ≡ length going.message.payload = ap (λ (l : List ℕ). length l) waited.is.payload ∙ ap (λ (m : Message). length m.payload) same_message in
      let less = going.unfinished in
      omega (arith, less, sizes)

  kept : is_handed_out (stream_at queue.streams place).pause ≡ false
  kept = ap (λ (s : Stream). is_handed_out s.pause) (sym named) ∙ numbers.kept here (ap (λ (s : Stream). is_some s.under_way) named ∙ ap is_some progress)

  came : (newest_on here history.log ≡ None) ⊎ ((c : ComesTo history.log going.place under_way going.message) × (newest_on here history.log ≡ Some c.piece))
  came =
      elim going.came [
        | inl none ↦ inl (ap (λ (k : ℕ). newest_on k history.log) going.is ∙ none)
        | inr c ↦ inr (c, ap (λ (k : ℕ). newest_on k history.log) going.is ∙ c.at)
      ]

  -- ---- its number

  latest : (c : CountsMessages history queue.streams) → IsLastBegun history queue.streams c.counts here under_way
  latest c = subst (LastIs history queue.streams c.counts here) (ap (λ (s : Stream). s.under_way) named ∙ progress) (c.going here)

  its_number : (b : Bool) → CountsByKind b history queue.streams queue.held → ItsNumber here history.log under_way
  its_number true c = let l = latest c in record { mid = l.mid; is = l.is; came = l.came }
  its_number false c =
      elim came [
        | inl none ↦ record { mid = under_way.mid; is = refl; came = λ f at. absurd (let clash : None ≡ Some f = sym none ∙ at in cc) }
        | inr is ↦
            (let (c', at) = is in
            record {
              mid = c'.piece.mid;
              is = c'.mid;
              came = λ f at'. (let both : Some f ≡ Some c'.piece = sym at' ∙ at in let same : f ≡ c'.piece = cc in ap (λ (g : Piece). g.mid) same);
            })
      ]

  number : ItsNumber here history.log under_way
  number = its_number queue.is_interleaved numbers.counts

  piece : Piece
  piece =
      record {
        place = message.message_id;
        message = waited.message;
        start = under_way.sent;
        size = size_produced max message under_way;
        mid = number.mid;
        fsn = under_way.next_fsn;
        ssn = under_way.ssn;
        is_interleaved = queue.is_interleaved;
      }

  started : under_way.sent ≡ 0 → ⊥
  started none = let begun = going.begun in omega (arith, none, begun)

  takes : TakesPiece queued max queue piece
  unfolding piece
  takes =
      record {
        place = place;
        waiting = message;
        under_way = under_way;
        front = front;
        is = going.is;
        sent = ap progress_size progress;
        unfinished = unfinished;
        room = room;
        message = waited.is;
        at = waited.at;
        fresh = waited.fresh;
        named = refl;
        start = refl;
        size = refl;
        mid = number.is;
        fsn = refl;
        ssn = refl;
        first = λ start. absurd (started start);
        kind = refl;
      }

  left : Leaves place max message under_way queue new
  left = leaves place max message under_way queue within'

  -- ---- the piece before it

  -- Where the message has TSNs in a row, its stream is held, and the newest TSN carries a piece of it.
  held_so : IsInRow piece → queue.held ≡ held_on here
  unfolding piece
  held_so row = numbers.whole.each here message (ap (λ (s : Stream). is_some s.under_way) named ∙ ap is_some progress) (ap (λ (s : Stream). front_of s.messages) named ∙ front)
      (elim row [ inl plain ↦ plain_whole message queue plain | inr limited ↦ limited_whole message queue (waited.is.limited limited) ])

  in_row : IsInRow piece → 0 < length history.log → (f : Piece) × (newest_on here history.log ≡ Some f) × (newest history.log ≡ Some (Some f))
  in_row row some = newest_last here history.log (numbers.whole.newest here (held_so row)) some

  row_so : HasEarlier history.log (length history.log) piece → HasBefore history.log (length history.log) piece
  unfolding piece
  row_so earlier =
      elim came [
        | inl none ↦
            absurd (elim earlier [
              | inl row ↦ (let (f, at, newest) = in_row row.0 row.1 in let clash : None ≡ Some f = sym none ∙ at in cc)
              | inr after ↦ newest_none here history.log none after.earlier after.piece after.at (after.on ∙ sym waited.is.stream)
            ])
        | inr is ↦
            (let (c, at) = is in
            let found = newest_found here history.log c.piece at in
            let low = at_below found.number (Some c.piece) history.log found.at in
            record {
              earlier = found.number;
              is = low;
              near = λ row. (
                  let (f, on, newest) = in_row row (omega (arith, low)) in
                  let both : Some f ≡ Some c.piece = sym on ∙ at in
                  let same : f ≡ c.piece = cc in
                  let lies = newest_lies history.log f (length history.log - 1) newest (omega (arith, low)) in
                  let up = found.last (length history.log - 1) f lies (ap (λ (g : Piece). g.message.stream) same ∙ found.on) in
                  omega (arith, low, up)
                  );
              apart = λ n f past below at' on. (let up = found.last n f at' (on ∙ sym waited.is.stream) in omega (arith, up, past));
              before = c.piece;
              at = found.at;
              start = c.end;
              place = c.is ∙ sym named_so;
              message = c.says ∙ sym same_message;
              mid = number.came c.piece at;
              fsn = (let its = c.fsn in omega (arith, its));
            })
      ]

  -- ---- what is counted

  counted : CountsByKind queue.is_interleaved (with_slot (Some piece) history) new.streams new.held
  unfolding piece number its_number takes
  counted = go queue.is_interleaved refl numbers.counts refl
    where
      go : (b : Bool) → queue.is_interleaved ≡ b → (c : CountsByKind b history queue.streams queue.held) → number.mid ≡ (its_number b c).mid → CountsByKind b (with_slot (Some piece) history) new.streams new.held
      go true kind c is =
          let l = latest c in
          let both : Some l.waiting ≡ Some message = sym l.front ∙ ap (λ (s : Stream). front_of s.messages) named ∙ front in
          later_counts queued history max queue piece takes holds going.begun c under_way l is
          (elim came [ inl none ↦ inl none | inr at ↦ inr (at.0.piece, at.1, at.0.is ∙ sym named_so, at.0.says ∙ sym same_message) ]) (cc) new left
      go false kind c is = later_ssns queued history max queue piece takes holds kind going.begun progress new left c

  current : queue.is_interleaved ≡ true → IsCurrent history piece
  unfolding piece number its_number takes
  current = go queue.is_interleaved refl numbers.counts refl
    where
      go : (b : Bool) → queue.is_interleaved ≡ b → (c : CountsByKind b history queue.streams queue.held) → number.mid ≡ (its_number b c).mid → b ≡ true → IsCurrent history piece
      go false kind c is interleaved = absurd (cc)
      go true kind c is interleaved =
          let l = latest c in
          let both : Some l.waiting ≡ Some message = sym l.front ∙ ap (λ (s : Stream). front_of s.messages) named ∙ front in
          later_current queued history max queue piece takes holds c under_way l is (cc)

  pub goes_on : HandsOutPiece queued history (fragment under_way message (size_produced max message under_way)) new
  unfolding piece takes
  goes_on =
      record {
        piece = piece;
        is_piece = it_is_piece queued max queue piece takes;
        row = λ some earlier. row_so earlier;
        ascends = λ n f at starts on. absurd (started starts);
        climbs = λ n f at starts interleaved on kind. absurd (started starts);
        ends = λ n f at starts on none. absurd (started starts);
        says = it_says queued max queue piece takes;
        queue_holds = it_holds queued max queue piece takes history.log holds new left;
        numbers = numbers_after queued history max queue piece takes holds numbers ours kept new left counted;
        current = current;
        kept = kept_after queued history max queue piece takes holds numbers ours kept new left;
      }
