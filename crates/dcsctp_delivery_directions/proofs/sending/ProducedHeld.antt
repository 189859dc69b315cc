-- Which stream is held once a fragment was handed out, and which streams are handed out to be reset.
use Rattle.std.proofs.Common.{◌≡◌, ℕ, Bool, true, false, List, ◌∷◌, drop, refl, sym, ◌∙◌, ap, subst, inl, inr, length, ◌+◌, arith}
use Rattle.std.specs.Prelude.{◌⊎◌, Option, None, Some, is_some, if◌then◌else◌}
use Rattle.std.proofs.lemmas.Bool.{eq-eqb}
use Rattle.dcsctp_spec.specs.types.declared.ids.StreamId.{StreamId}
use Rattle.dcsctp_spec.specs.types.declared.sending.UnderWay.{UnderWay}
use Rattle.dcsctp_spec.specs.types.queues.SendStreams.{Waiting, Stream, front_of, stream_at}
use Rattle.dcsctp_spec.specs.queues.SendQueue.{SendQueueState}
use Rattle.dcsctp_spec.specs.queues.Sending.{progress_after, stream_held_after, released_queue, is_kept_whole, reserve_begun}
use Rattle.dcsctp_delivery_directions.specs.sending.Log.{Message, Piece, History, with_slot, is_end}
use Rattle.dcsctp_delivery_directions.specs.sending.Numbers.{stream_named, is_handed_out, IsUnderWayKept, HoldsWhole, CountsByKind, NumbersMessages, is_always_whole, RestAtEnds}
use Rattle.dcsctp_delivery_directions.specs.sending.Pieces.{HoldsQueued}
use Rattle.dcsctp_delivery_directions.proofs.sending.Places.{decide}
use Rattle.dcsctp_delivery_directions.proofs.sending.Numbered.{whole_as}
use Rattle.dcsctp_delivery_directions.proofs.sending.Produced.{TakesPiece, within, stream_is, piece_lengths}
use Rattle.dcsctp_delivery_directions.proofs.sending.Fragments.{changes_named}
use Rattle.dcsctp_delivery_directions.proofs.sending.WhatLeaves.{Produces, Leaves, part, last, released_same}
use Rattle.dcsctp_delivery_directions.proofs.sending.ProducedNumbers.{kinds_more}
use Rattle.dcsctp_delivery_directions.proofs.sending.ProducedTurns.{held_whole}
use Rattle.dcsctp_delivery_directions.proofs.sending.Newest.{newest_here, newest_else, closed_stays}

-- the stream of this number is held
abbrev pub held_on : ℕ → Option StreamId
held_on id = Some (record { 0 = id })

-- No stream is held, or this one.
abbrev pub IsFreeFor : ℕ → SendQueueState → Type 0
IsFreeFor id queue = (queue.held ≡ None) ⊎ (queue.held ≡ held_on id)

pub one_held : (id other : ℕ) (queue : SendQueueState) → IsFreeFor id queue → queue.held ≡ held_on other → id ≡ other
one_held id other queue ours held =
    elim ours [
      | inl none ↦ absurd (let clash : None ≡ held_on other = sym none ∙ held in cc)
      | inr is ↦ go id other (sym is ∙ held)
    ]
  where
    go : (a b : ℕ) → held_on a ≡ held_on b → a ≡ b
    go a b both = ap number both
      where
        number : Option StreamId → ℕ
        number None = 0
        number (Some s) = s.0

pub released_ours : (id reserve : ℕ) (queue : SendQueueState) → IsFreeFor id queue → (released_queue id reserve queue).held ≡ None
released_ours id reserve queue ours =
    elim ours [
      | inl none ↦ released_same id reserve (record queue { held = None }) queue none
      | inr is ↦ released_same id reserve (record queue { held = held_on id }) queue is ∙ rw (eq-eqb id id refl) refl
    ]

module _ (queued : List Message) (history : History) (max : ℕ) (queue : SendQueueState) (piece : Piece) (t : TakesPiece queued max queue piece) (holds : HoldsQueued queued history.log queue.streams)
    (numbers : NumbersMessages history queue) (ours : IsFreeFor (stream_at queue.streams t.place).id queue) (kept : is_handed_out (stream_at queue.streams t.place).pause ≡ false) where
  abbrev here : ℕ
  here = (stream_at queue.streams t.place).id

  module _ (messages : List Waiting) (progress : Option UnderWay) (new : SendQueueState) (p : Produces t.place t.waiting t.under_way messages progress queue new) where
    there : stream_named here new.streams ≡ stream_at new.streams t.place
    there = changes_named t.place queue.streams new.streams p.one (within queued max queue piece t) holds.distinct

    pub pause_there : is_handed_out (stream_named here new.streams).pause ≡ false
    pause_there = ap (λ (s : Stream). is_handed_out s.pause) there ∙ ap is_handed_out p.pause ∙ kept

    kept_with : IsUnderWayKept new.streams
    kept_with other is =
        elim (decide other here) [
          | inl at ↦ ap (λ (k : ℕ). is_handed_out (stream_named k new.streams).pause) at ∙ pause_there
          | inr ne ↦ (let same = p.one.named other ne in ap (λ (s : Stream). is_handed_out s.pause) same ∙ numbers.kept other (ap (λ (s : Stream). is_some s.under_way) (sym same) ∙ is))
        ]

    -- the streams of other messages that are kept whole aren't there
    each_with : ((waiting : Waiting) → is_some progress ≡ true → front_of messages ≡ Some waiting → is_always_whole waiting queue ≡ true → new.held ≡ held_on here)
        → (other : ℕ) (waiting : Waiting) → is_some (stream_named other new.streams).under_way ≡ true → front_of (stream_named other new.streams).messages ≡ Some waiting → is_always_whole waiting new ≡ true → new.held ≡ held_on other
    each_with its other waiting is front whole =
        let whole' : is_always_whole waiting queue ≡ true = sym (whole_as waiting queue new p.kind p.turns) ∙ whole in
        elim (decide other here) [
          | inl at ↦
              its waiting (ap is_some (sym p.progress_is) ∙ ap (λ (s : Stream). is_some s.under_way) (sym there) ∙ ap (λ (k : ℕ). is_some (stream_named k new.streams).under_way) (sym at) ∙ is)
              (ap front_of (sym p.messages_are) ∙ ap (λ (s : Stream). front_of s.messages) (sym there) ∙ ap (λ (k : ℕ). front_of (stream_named k new.streams).messages) (sym at) ∙ front) whole'
              ∙ ap held_on (sym at)
          | inr ne ↦
              (let same = p.one.named other ne in
              absurd (ne (sym (one_held here other queue ours
              (numbers.whole.each other waiting (ap (λ (s : Stream). is_some s.under_way) (sym same) ∙ is) (ap (λ (s : Stream). front_of s.messages) (sym same) ∙ front) whole')))))
        ]

  part_held : (new : SendQueueState) → Produces t.place t.waiting t.under_way (stream_at queue.streams t.place).messages (Some (progress_after max t.under_way)) queue new
      → new.held ≡ stream_held_after t.under_way.stream_id t.waiting queue → (other : ℕ) → new.held ≡ held_on other → here ≡ other
  part_held new p held other is = go (is_kept_whole t.waiting queue) (sym held ∙ is)
    where
      number : Option StreamId → ℕ
      number None = 0
      number (Some s) = s.0

      go : (b : Bool) → (if b then Some t.under_way.stream_id else None) ≡ held_on other → here ≡ other
      go true e = t.is ∙ ap number e
      go false e = absurd (cc)

  whole_after : (new : SendQueueState) → Leaves t.place max t.waiting t.under_way queue new → HoldsWhole (Some piece ∷ history.log) new
  whole_after new (part open_end p held) =
      record {
        each = each_with (stream_at queue.streams t.place).messages (Some (progress_after max t.under_way)) new p
            (λ waiting is front whole. (
            let both : Some waiting ≡ Some t.waiting = sym front ∙ t.front in
            let same : waiting ≡ t.waiting = cc in
            held ∙ held_whole t.under_way.stream_id t.waiting queue (ap (λ (w : Waiting). is_always_whole w queue) (sym same) ∙ whole) ∙ ap held_on (sym t.is)
            ));
        held = λ other is. subst (λ (k : ℕ). is_some (stream_named k new.streams).under_way ≡ true) (part_held new p held other is)
            (ap (λ (s : Stream). is_some s.under_way) (there (stream_at queue.streams t.place).messages (Some (progress_after max t.under_way)) new p) ∙ ap is_some p.progress_is);
        newest = λ other is. stream_is queued max queue piece t ∙ part_held new p held other is;
      }
  whole_after new (last all p held) =
      let idle : new.held ≡ None = held ∙ released_ours t.under_way.stream_id.0 (reserve_begun (length t.waiting.payload) t.under_way) queue (subst (λ (k : ℕ). IsFreeFor k queue) t.is ours) in
      record {
        each = each_with (drop 1 (stream_at queue.streams t.place).messages) None new p (λ waiting is. absurd (cc));
        held = λ other is. absurd (let clash : None ≡ held_on other = sym idle ∙ is in cc);
        newest = λ other is. absurd (let clash : None ≡ held_on other = sym idle ∙ is in cc);
      }

  pub kept_after : (new : SendQueueState) → Leaves t.place max t.waiting t.under_way queue new → is_handed_out (stream_named piece.message.stream new.streams).pause ≡ false
  kept_after new (part open_end p held) =
      ap (λ (k : ℕ). is_handed_out (stream_named k new.streams).pause) (stream_is queued max queue piece t) ∙ pause_there (stream_at queue.streams t.place).messages (Some (progress_after max t.under_way)) new p
  kept_after new (last all p held) =
      ap (λ (k : ℕ). is_handed_out (stream_named k new.streams).pause) (stream_is queued max queue piece t) ∙ pause_there (drop 1 (stream_at queue.streams t.place).messages) None new p

  kind_after : (new : SendQueueState) → Leaves t.place max t.waiting t.under_way queue new → new.is_interleaved ≡ queue.is_interleaved
  kind_after new (part open_end p held) = p.kind
  kind_after new (last all p held) = p.kind

  ways_after : (new : SendQueueState) → Leaves t.place max t.waiting t.under_way queue new → IsUnderWayKept new.streams
  ways_after new (part open_end p held) = kept_with (stream_at queue.streams t.place).messages (Some (progress_after max t.under_way)) new p
  ways_after new (last all p held) = kept_with (drop 1 (stream_at queue.streams t.place).messages) None new p

  -- the stream rests at an end, if it rests
  rests_with : (messages : List Waiting) (progress : Option UnderWay) (new : SendQueueState) → Produces t.place t.waiting t.under_way messages progress queue new → (progress ≡ None → is_end piece ≡ true)
      → RestAtEnds (Some piece ∷ history.log) new.streams
  rests_with messages progress new p its other none f newest =
      elim (decide other here) [
        | inl at ↦
            (let rests : progress ≡ None = sym p.progress_is ∙ ap (λ (s : Stream). s.under_way) (sym (there messages progress new p)) ∙ ap (λ (k : ℕ). (stream_named k new.streams).under_way) (sym at) ∙ none in
            let both : Some piece ≡ Some f = sym (newest_here other piece history.log (stream_is queued max queue piece t ∙ sym at)) ∙ newest in
            let same : piece ≡ f = cc in
            inl (subst (λ (x : Piece). is_end x ≡ true) same (its rests)))
        | inr ne ↦
            closed_stays (Some piece) history.log f
            (numbers.rests other (ap (λ (s : Stream). s.under_way) (sym (p.one.named other ne)) ∙ none) f
            (sym (newest_else other piece history.log (λ on. ne (sym on ∙ stream_is queued max queue piece t))) ∙ newest))
      ]

  rests_after : (new : SendQueueState) → Leaves t.place max t.waiting t.under_way queue new → RestAtEnds (Some piece ∷ history.log) new.streams
  rests_after new (part open_end p held) = rests_with (stream_at queue.streams t.place).messages (Some (progress_after max t.under_way)) new p (λ none. absurd (cc))
  rests_after new (last all p held) =
      rests_with (drop 1 (stream_at queue.streams t.place).messages) None new p
      (λ none. (let start = t.start in let size = t.size in let unfinished = t.unfinished in let lengths = piece_lengths queued max queue piece t in
      eq-eqb (piece.start + piece.size) (length piece.message.payload) (omega (arith, start, size, unfinished, lengths, all))))

  pub numbers_after : (new : SendQueueState) → Leaves t.place max t.waiting t.under_way queue new → CountsByKind queue.is_interleaved (with_slot (Some piece) history) new.streams new.held
      → NumbersMessages (with_slot (Some piece) history) new
  numbers_after new left counted =
      record {
        kinds = kinds_more queue.is_interleaved new.is_interleaved history.log piece (kind_after new left) numbers.kinds t.kind;
        counts = subst (λ (b : Bool). CountsByKind b (with_slot (Some piece) history) new.streams new.held) (sym (kind_after new left)) counted;
        kept = ways_after new left;
        whole = whole_after new left;
        rests = rests_after new left;
      }
