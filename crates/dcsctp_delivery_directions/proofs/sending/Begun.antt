-- The first piece of a message that the send queue begins.
use Rattle.std.proofs.Common.{◌≡◌, ℕ, Bool, true, false, ◌<◌, ◌+◌, ◌%◌, ◌^◌, List, length, drop, refl, sym, ◌∙◌, ap, arith, subst, inl, inr}
use Rattle.std.specs.Prelude.{◌⊎◌, Option, None, Some, is_some, if◌then◌else◌}
use Rattle.dcsctp_spec.specs.types.declared.sending.UnderWay.{UnderWay}
use Rattle.dcsctp_spec.specs.types.queues.SendStreams.{Waiting, Stream, front_of, next_numbers, unused_stream, stream_at, progress_size}
use Rattle.dcsctp_spec.specs.queues.SendQueue.{SendQueueState}
use Rattle.dcsctp_spec.specs.queues.Sending.{fragment, begun_under_way, queue_after_producing, size_produced}
use Rattle.dcsctp_delivery_directions.specs.sending.Places.{at_place}
use Rattle.dcsctp_delivery_directions.specs.sending.Log.{Message, Piece, History, with_slot}
use Rattle.dcsctp_delivery_directions.specs.sending.Pieces.{WaitingWasQueued, AllBeyond, HoldsQueued, HandsOutPiece}
use Rattle.dcsctp_delivery_directions.specs.sending.Numbers.{stream_named, next_mid, CountsByKind, IsCurrent, is_handed_out, NumbersMessages}
use Rattle.dcsctp_delivery_directions.proofs.sending.Streams.{beyond_front, within_streams}
use Rattle.dcsctp_delivery_directions.proofs.sending.StreamWeights.{front_queued}
use Rattle.dcsctp_delivery_directions.proofs.sending.WhatLeaves.{Leaves, leaves}
use Rattle.dcsctp_delivery_directions.proofs.sending.Produced.{TakesPiece, it_is_piece, it_says, it_holds}
use Rattle.dcsctp_delivery_directions.proofs.sending.StreamsNamed.{found_at}
use Rattle.dcsctp_delivery_directions.proofs.sending.ProducedNumbers.{begun_counts, begun_current}
use Rattle.dcsctp_delivery_directions.proofs.sending.ProducedTurns.{begun_ssns}
use Rattle.dcsctp_delivery_directions.proofs.sending.ProducedHeld.{numbers_after, kept_after}
use Rattle.dcsctp_delivery_directions.proofs.sending.Newest.{newest_from}

-- the number of the message that is begun
begun_mid : (b : Bool) (history : History) (queue : SendQueueState) (id : ℕ) (is_unordered : Bool) (other : ℕ) → CountsByKind b history queue.streams queue.held → ℕ
begun_mid true history queue id is_unordered other c = history.floors id is_unordered + c.counts id is_unordered
begun_mid false history queue id is_unordered other c = other

begun_mid_is : (b : Bool) (history : History) (queue : SendQueueState) (id : ℕ) (is_unordered : Bool) (other : ℕ) (c : CountsByKind b history queue.streams queue.held) → other ≡ next_mid is_unordered (stream_named id queue.streams)
    → other % 2 ^ 32 ≡ begun_mid b history queue id is_unordered other c % 2 ^ 32
unfolding begun_mid
begun_mid_is true history queue id is_unordered other c is = ap (λ (k : ℕ). k % 2 ^ 32) is ∙ c.next id is_unordered
begun_mid_is false history queue id is_unordered other c is = refl

module _ (queued : List Message) (history : History) (max place : ℕ) (queue : SendQueueState) (message : Waiting) (room : 0 < max) (holds : HoldsQueued queued history.log queue.streams) (numbers : NumbersMessages history queue)
    (front : front_of (stream_at queue.streams place).messages ≡ Some message) (idle : (stream_at queue.streams place).under_way ≡ None) (free : queue.held ≡ None)
    (kept : is_handed_out (stream_at queue.streams place).pause ≡ false) where
  abbrev here : ℕ
  here = (stream_at queue.streams place).id

  abbrev under_way : UnderWay
  under_way = begun_under_way message (stream_at queue.streams place)

  abbrev new : SendQueueState
  new = queue_after_producing place max message (begun_under_way message (stream_at queue.streams place)) queue

  waited : WaitingWasQueued queued here message
  waited = front_queued queued here (stream_at queue.streams place).messages message (holds.wait place) front

  within' : place < length queue.streams
  within' = within_streams queue.streams place message front

  named : stream_named here queue.streams ≡ stream_at queue.streams place
  named = found_at (unused_stream 0 0 0) place queue.streams within' holds.distinct

  mid : ℕ
  mid = begun_mid queue.is_interleaved history queue here message.is_unordered under_way.mid numbers.counts

  mid_is : under_way.mid % 2 ^ 32 ≡ mid % 2 ^ 32
  unfolding mid
  mid_is = begun_mid_is queue.is_interleaved history queue here message.is_unordered under_way.mid numbers.counts (ap (next_mid message.is_unordered) (sym named))

  piece : Piece
  piece = record { place = message.message_id; message = waited.message; start = 0; size = size_produced max message under_way; mid = mid; fsn = 0; ssn = under_way.ssn; is_interleaved = queue.is_interleaved }

  takes : TakesPiece queued max queue piece
  unfolding piece mid
  takes =
      record {
        place = place;
        waiting = message;
        under_way = under_way;
        front = front;
        is = refl;
        sent = ap progress_size idle;
        unfinished = waited.some;
        room = room;
        message = waited.is;
        at = waited.at;
        fresh = waited.fresh;
        named = refl;
        start = refl;
        size = refl;
        mid = mid_is;
        fsn = refl;
        ssn = refl;
        first = λ start. refl;
        kind = refl;
      }

  left : Leaves place max message under_way queue new
  left = leaves place max message under_way queue within'

  -- the SSN of the message
  begun_ssn : under_way.ssn ≡ (stream_named here queue.streams).next_ssn ⊎ (message.is_unordered ≡ true)
  begun_ssn = go message.is_unordered refl
    where
      go : (b : Bool) → message.is_unordered ≡ b → under_way.ssn ≡ (stream_named here queue.streams).next_ssn ⊎ (message.is_unordered ≡ true)
      go true kind = inr kind
      go false kind = inl (ap (λ (b : Bool). (next_numbers b (stream_at queue.streams place)).0) kind ∙ ap (λ (s : Stream). s.next_ssn) (sym named))

  counted : CountsByKind queue.is_interleaved (with_slot (Some piece) history) new.streams new.held
  unfolding piece mid begun_mid takes
  counted = go queue.is_interleaved refl numbers.counts refl
    where
      go : (b : Bool) → queue.is_interleaved ≡ b → (c : CountsByKind b history queue.streams queue.held)
          → (mid ≡ begun_mid b history queue here message.is_unordered under_way.mid c) → CountsByKind b (with_slot (Some piece) history) new.streams new.held
      go true kind c is = begun_counts queued history max queue piece takes holds refl kind c is new left
      go false kind c is = begun_ssns queued history max queue piece takes holds kind refl free begun_ssn new left c

  -- what waits on the stream comes after all its pieces
  all_beyond : (n : ℕ) (f : Piece) → at_place n history.log ≡ Some (Some f) → f.message.stream ≡ here → AllBeyond f.place (stream_at queue.streams place).messages
  all_beyond n f at on = subst (λ (u : Option UnderWay). AllBeyond f.place (drop (if is_some u then 1 else 0) (stream_at queue.streams place).messages)) idle (holds.beyond place n f at on)

  climbs_so : (b : Bool) (c : CountsByKind b history queue.streams queue.held) → mid ≡ begun_mid b history queue here message.is_unordered under_way.mid c → b ≡ true
      → (n : ℕ) (f : Piece) → at_place n history.log ≡ Some (Some f) → f.message.stream ≡ waited.message.stream → f.message.is_unordered ≡ waited.message.is_unordered → f.mid < mid
  unfolding begun_mid
  climbs_so false c is interleaved n f at on kind = absurd (cc)
  climbs_so true c is interleaved n f at on kind =
      let below = c.below n f at in
      let all : history.floors f.message.stream f.message.is_unordered + c.counts f.message.stream f.message.is_unordered ≡ history.floors here message.is_unordered + c.counts here message.is_unordered =
      ap (λ (k : ℕ). history.floors k f.message.is_unordered + c.counts k f.message.is_unordered) (on ∙ sym waited.is.stream)
      ∙ ap (λ (b : Bool). history.floors here b + c.counts here b) (kind ∙ sym waited.is.unordered) in
      let its : mid ≡ history.floors here message.is_unordered + c.counts here message.is_unordered = is in
      omega (arith, below, all, its)

  current_so : (b : Bool) → queue.is_interleaved ≡ b → (c : CountsByKind b history queue.streams queue.held) → mid ≡ begun_mid b history queue here message.is_unordered under_way.mid c → b ≡ true → IsCurrent history piece
  unfolding piece begun_mid takes
  current_so false kind c is interleaved = absurd (cc)
  current_so true kind c is interleaved = begun_current queued history max queue piece takes holds c is

  pub begins : HandsOutPiece queued history (fragment under_way message (size_produced max message under_way)) new
  unfolding piece mid takes
  begins =
      record {
        piece = piece;
        is_piece = it_is_piece queued max queue piece takes;
        row = λ started. absurd (omega arith);
        ascends = λ n f at starts on. beyond_front f.place (stream_at queue.streams place).messages message (all_beyond n f at (on ∙ sym waited.is.stream)) front;
        climbs = λ n f at starts interleaved on kind. climbs_so queue.is_interleaved numbers.counts refl interleaved n f at on kind;
        ends = λ n f at starts on none. (
            let on' : f.message.stream ≡ here = on ∙ sym waited.is.stream in
            numbers.rests here (ap (λ (s : Stream). s.under_way) named ∙ idle) f (newest_from here history.log n f at on' (λ k h above there at_here. none k h above there (at_here ∙ waited.is.stream)))
            );
        says = it_says queued max queue piece takes;
        queue_holds = it_holds queued max queue piece takes history.log holds new left;
        numbers = numbers_after queued history max queue piece takes holds numbers (inl free) kept new left counted;
        current = current_so queue.is_interleaved refl numbers.counts refl;
        kept = kept_after queued history max queue piece takes holds numbers (inl free) kept new left;
      }
