-- The MIDs once a fragment was handed out.
use Rattle.std.proofs.Common.{◌≡◌, ◌==◌, ℕ, Bool, true, false, ◌<◌, ◌+◌, ◌-◌, ◌%◌, ◌^◌, List, ◌∷◌, length, drop, refl, sym, ◌∙◌, ap, arith, subst, inl, inr}
use Rattle.std.specs.Prelude.{◌⊎◌, Option, None, Some, if◌then◌else◌}
use Rattle.std.proofs.lemmas.Bool.{eq-eqb}
use Rattle.std.proofs.lemmas.Bool.Decides.{eqb_tells}
use Rattle.dcsctp_spec.specs.types.declared.sending.UnderWay.{UnderWay}
use Rattle.dcsctp_spec.specs.types.queues.SendStreams.{Waiting, Stream, front_of, stream_counted, fills_turn, stream_at, unused_stream}
use Rattle.dcsctp_spec.specs.queues.SendQueue.{SendQueueState, queue_interleaves}
use Rattle.dcsctp_spec.specs.queues.Sending.{reduced_queue, queue_numbered, queue_served, queue_with_turn_bytes, turn_counted, fragment_counted, progress_after, after_part, after_last, queue_after_producing, is_last}
use Rattle.dcsctp_delivery_directions.specs.sending.Log.{Message, Piece, Slot, newest_on, History, with_slot}
use Rattle.dcsctp_delivery_directions.specs.sending.Numbers.{stream_named, next_mid, IsLastBegun, CountsMessages, AreOfKind, IsCurrent}
use Rattle.dcsctp_delivery_directions.specs.sending.Pieces.{HoldsQueued}
use Rattle.dcsctp_delivery_directions.proofs.sending.Places.{decide, at_cases}
use Rattle.dcsctp_delivery_directions.proofs.sending.Numbers.{SameMids, mid_stays}
use Rattle.dcsctp_delivery_directions.proofs.sending.StreamsNamed.{found_at}
use Rattle.dcsctp_delivery_directions.proofs.sending.Produced.{TakesPiece, within, stream_is}
use Rattle.dcsctp_delivery_directions.proofs.sending.Fragments.{changes_named}
use Rattle.dcsctp_delivery_directions.proofs.sending.WhatLeaves.{Produces, Leaves, part, last}
use Rattle.dcsctp_delivery_directions.proofs.sending.Counted.{GoesOn, counts_begun, counts_continued}

-- ---- how they are numbered

numbered_kind : (place : ℕ) (begins is_unordered : Bool) (queue : SendQueueState) → (queue_numbered place begins is_unordered queue).is_interleaved ≡ queue.is_interleaved
numbered_kind place true is_unordered queue = refl
numbered_kind place false is_unordered queue = refl

served_kind : (place : ℕ) (over : Bool) (queue : SendQueueState) → (queue_served place over queue).is_interleaved ≡ queue.is_interleaved
served_kind place true queue = refl
served_kind place false queue = refl

turn_kind : (place : ℕ) (begins : Bool) (size : ℕ) (queue : SendQueueState) → (turn_counted place begins size queue).is_interleaved ≡ queue.is_interleaved
turn_kind place begins size queue = go (queue_interleaves queue)
  where
    go : (b : Bool)
        → (if b then queue_served place (fills_turn queue.turn_size size (stream_at queue.streams place)) (queue_with_turn_bytes place size queue) else queue_served place begins queue).is_interleaved ≡ queue.is_interleaved
    go true = served_kind place (fills_turn queue.turn_size size (stream_at queue.streams place)) (queue_with_turn_bytes place size queue)
    go false = served_kind place begins queue

counted_kind : (place size : ℕ) (message : Waiting) (under_way : UnderWay) (queue : SendQueueState) → (fragment_counted place size message under_way queue).is_interleaved ≡ queue.is_interleaved
counted_kind place size message under_way queue =
    turn_kind place (under_way.sent == 0) size (queue_numbered place (under_way.sent == 0) message.is_unordered queue) ∙ numbered_kind place (under_way.sent == 0) message.is_unordered queue

pub produced_kind : (place max : ℕ) (message : Waiting) (under_way : UnderWay) (queue : SendQueueState) → (queue_after_producing place max message under_way queue).is_interleaved ≡ queue.is_interleaved
produced_kind place max message under_way queue = go (is_last max message under_way)
  where
    go : (b : Bool) → (if b then after_last place message under_way queue else after_part place max message under_way queue).is_interleaved ≡ queue.is_interleaved
    go true = counted_kind place (length message.payload - under_way.sent) message under_way (reduced_queue place (length message.payload - under_way.sent) queue)
    go false = counted_kind place max message under_way (reduced_queue place max queue)

-- each piece is sent as the queue numbers messages
pub kinds_more : (b c : Bool) (log : List Slot) (piece : Piece) → c ≡ b → AreOfKind b log → piece.is_interleaved ≡ b → AreOfKind c (Some piece ∷ log)
kinds_more b c log piece same kinds is n f at =
    elim (at_cases n (Some piece) (Some f) log at) [
      | inl e ↦ (let one : piece ≡ f = cc in ap (λ (x : Piece). x.is_interleaved) (sym one) ∙ is ∙ sym same)
      | inr old ↦ kinds n f old ∙ sym same
    ]

-- ---- a stream that is counted

mid_counted : (kind : Bool) (s : Stream) → next_mid kind (stream_counted true kind s) ≡ (next_mid kind s + 1) % 2 ^ 32
mid_counted true s = refl
mid_counted false s = refl

mid_apart : (kind b : Bool) (s : Stream) → (b ≡ kind → ⊥) → next_mid b (stream_counted true kind s) ≡ next_mid b s
mid_apart true true s ne = absurd (ne refl)
mid_apart true false s ne = refl
mid_apart false true s ne = refl
mid_apart false false s ne = absurd (ne refl)

module _ (queued : List Message) (history : History) (max : ℕ) (queue : SendQueueState) (piece : Piece) (t : TakesPiece queued max queue piece) (holds : HoldsQueued queued history.log queue.streams) where
  abbrev pub id : ℕ
  id = (stream_at queue.streams t.place).id

  abbrev pub kind : Bool
  kind = t.waiting.is_unordered

  pub named_old : stream_named id queue.streams ≡ stream_at queue.streams t.place
  named_old = found_at (unused_stream 0 0 0) t.place queue.streams (within queued max queue piece t) holds.distinct

  kind_is : piece.message.is_unordered ≡ kind
  kind_is = sym t.message.unordered

  -- ---- what the stream is then

  module _ (messages : List Waiting) (progress : Option UnderWay) (new : SendQueueState) (p : Produces t.place t.waiting t.under_way messages progress queue new)
      (goes : (v : UnderWay) → progress ≡ Some v → (v.mid ≡ t.under_way.mid) × (front_of messages ≡ Some t.waiting)) where
    pub named_new : stream_named id new.streams ≡ stream_at new.streams t.place
    named_new = changes_named t.place queue.streams new.streams p.one (within queued max queue piece t) holds.distinct

    goes_on : (v : UnderWay) → (stream_named id new.streams).under_way ≡ Some v → GoesOn new.streams id kind piece.mid v
    goes_on v is =
        let it = goes v (sym p.progress_is ∙ ap (λ (s : Stream). s.under_way) (sym named_new) ∙ is) in (
          ap (λ (k : ℕ). k % 2 ^ 32) it.0 ∙ t.mid,
          (t.waiting, ap (λ (s : Stream). front_of s.messages) named_new ∙ ap front_of p.messages_are ∙ it.1, refl),
        )

    -- the first fragment of a message
    mids_begun : t.under_way.sent ≡ 0 → queue.is_interleaved ≡ true → SameMids (stream_counted true kind (stream_at queue.streams t.place)) (stream_at new.streams t.place)
    mids_begun sent interleaved =
        subst (λ (b : Bool). SameMids (stream_counted b kind (stream_at queue.streams t.place)) (stream_at new.streams t.place)) interleaved
        (subst (λ (b : Bool). SameMids (if b then stream_counted queue.is_interleaved kind (stream_at queue.streams t.place) else stream_at queue.streams t.place) (stream_at new.streams t.place))
        (eq-eqb t.under_way.sent 0 sent) p.mids)

    pub begun_with : t.under_way.sent ≡ 0 → queue.is_interleaved ≡ true → (c : CountsMessages history queue.streams) → piece.mid ≡ history.floors id kind + c.counts id kind → CountsMessages (with_slot (Some piece) history) new.streams
    begun_with sent interleaved c number_is =
        let mids = mids_begun sent interleaved in
        counts_begun history queue.streams new.streams id kind piece c (t.start ∙ sent) (stream_is queued max queue piece t) kind_is number_is
        (ap (λ (k : ℕ). k % 2 ^ 32)
        (ap (next_mid kind) named_new ∙ mid_stays kind (stream_counted true kind (stream_at queue.streams t.place)) (stream_at new.streams t.place) mids ∙ mid_counted kind (stream_at queue.streams t.place)
        ∙ ap (λ (s : Stream). (next_mid kind s + 1) % 2 ^ 32) (sym named_old))
        ∙ omega arith)
        (λ other b apart. elim (decide other id) [
          | inr ne ↦ ap (next_mid b) (p.one.named other ne)
          | inl is ↦
              subst (λ (k : ℕ). next_mid b (stream_named k new.streams) ≡ next_mid b (stream_named k queue.streams)) (sym is)
              (ap (next_mid b) named_new ∙ mid_stays b (stream_counted true kind (stream_at queue.streams t.place)) (stream_at new.streams t.place) mids
              ∙ mid_apart kind b (stream_at queue.streams t.place) (apart is) ∙ ap (next_mid b) (sym named_old))
        ])
        p.one.named goes_on

    -- a later one
    mids_later : 0 < t.under_way.sent → SameMids (stream_at queue.streams t.place) (stream_at new.streams t.place)
    mids_later some =
        let begins : (t.under_way.sent == 0) ≡ false = elim (eqb_tells t.under_way.sent 0) [ inl e ↦ absurd (let none : t.under_way.sent ≡ 0 = e.1 in omega (arith, none, some)) | inr e ↦ e.0 ] in
        subst (λ (b : Bool). SameMids (if b then stream_counted queue.is_interleaved kind (stream_at queue.streams t.place) else stream_at queue.streams t.place) (stream_at new.streams t.place)) begins p.mids

    pub ssn_later : 0 < t.under_way.sent → (other : ℕ) → (stream_named other new.streams).next_ssn ≡ (stream_named other queue.streams).next_ssn
    ssn_later some other =
        elim (decide other id) [
          | inr ne ↦ ap (λ (s : Stream). s.next_ssn) (p.one.named other ne)
          | inl is ↦
              subst (λ (k : ℕ). (stream_named k new.streams).next_ssn ≡ (stream_named k queue.streams).next_ssn) (sym is)
              (ap (λ (s : Stream). s.next_ssn) named_new ∙ (mids_later some).ssn ∙ ap (λ (s : Stream). s.next_ssn) (sym named_old))
        ]

    pub later_with : 0 < t.under_way.sent → (c : CountsMessages history queue.streams) (now : UnderWay) (latest : IsLastBegun history queue.streams c.counts id now) → piece.mid ≡ latest.mid
        → (newest_on id history.log ≡ None) ⊎ ((f : Piece) × (newest_on id history.log ≡ Some f) × (f.place ≡ piece.place) × (f.message ≡ piece.message))
        → latest.waiting ≡ t.waiting → CountsMessages (with_slot (Some piece) history) new.streams
    later_with some c now latest number_is came is_waiting =
        let same_kind : latest.waiting.is_unordered ≡ kind = ap (λ (w : Waiting). w.is_unordered) is_waiting in
        counts_continued history queue.streams new.streams id now piece c latest (stream_is queued max queue piece t) (kind_is ∙ sym same_kind) number_is came
        (λ other b. elim (decide other id) [
          | inr ne ↦ ap (next_mid b) (p.one.named other ne)
          | inl is ↦
              subst (λ (k : ℕ). next_mid b (stream_named k new.streams) ≡ next_mid b (stream_named k queue.streams)) (sym is)
              (ap (next_mid b) named_new ∙ mid_stays b (stream_at queue.streams t.place) (stream_at new.streams t.place) (mids_later some) ∙ ap (next_mid b) (sym named_old))
        ])
        p.one.named
        (λ v is. subst (λ (b : Bool). GoesOn new.streams id b piece.mid v) (sym same_kind) (goes_on v is))

  part_goes : (v : UnderWay) → Some (progress_after max t.under_way) ≡ Some v → (v.mid ≡ t.under_way.mid) × (front_of (stream_at queue.streams t.place).messages ≡ Some t.waiting)
  part_goes v is = let same : progress_after max t.under_way ≡ v = cc in (ap (λ (u : UnderWay). u.mid) (sym same), t.front)

  last_goes : (v : UnderWay) → None ≡ Some v → (v.mid ≡ t.under_way.mid) × (front_of (drop 1 (stream_at queue.streams t.place).messages) ≡ Some t.waiting)
  last_goes v is = absurd (cc)

  pub begun_counts : t.under_way.sent ≡ 0 → queue.is_interleaved ≡ true → (c : CountsMessages history queue.streams) → piece.mid ≡ history.floors id kind + c.counts id kind
      → (new : SendQueueState) → Leaves t.place max t.waiting t.under_way queue new → CountsMessages (with_slot (Some piece) history) new.streams
  begun_counts sent interleaved c number_is new (part open_end p held) = begun_with (stream_at queue.streams t.place).messages (Some (progress_after max t.under_way)) new p part_goes sent interleaved c number_is
  begun_counts sent interleaved c number_is new (last all p held) = begun_with (drop 1 (stream_at queue.streams t.place).messages) None new p last_goes sent interleaved c number_is

  pub later_counts : 0 < t.under_way.sent → (c : CountsMessages history queue.streams) (now : UnderWay) (latest : IsLastBegun history queue.streams c.counts id now) → piece.mid ≡ latest.mid
      → (newest_on id history.log ≡ None) ⊎ ((f : Piece) × (newest_on id history.log ≡ Some f) × (f.place ≡ piece.place) × (f.message ≡ piece.message))
      → latest.waiting ≡ t.waiting → (new : SendQueueState) → Leaves t.place max t.waiting t.under_way queue new → CountsMessages (with_slot (Some piece) history) new.streams
  later_counts some c now latest number_is came is_waiting new (part open_end p held) =
      later_with (stream_at queue.streams t.place).messages (Some (progress_after max t.under_way)) new p part_goes some c now latest number_is came is_waiting
  later_counts some c now latest number_is came is_waiting new (last all p held) =
      later_with (drop 1 (stream_at queue.streams t.place).messages) None new p last_goes some c now latest number_is came is_waiting

  pub begun_current : (c : CountsMessages history queue.streams) → piece.mid ≡ history.floors id kind + c.counts id kind → IsCurrent history piece
  begun_current c number_is =
      let same : history.floors piece.message.stream piece.message.is_unordered ≡ history.floors id kind = ap (λ (k : ℕ). history.floors k piece.message.is_unordered) (stream_is queued max queue piece t) ∙ ap (history.floors id) kind_is in
      omega (arith, same, number_is)

  pub later_current : (c : CountsMessages history queue.streams) (now : UnderWay) (latest : IsLastBegun history queue.streams c.counts id now) → piece.mid ≡ latest.mid → latest.waiting ≡ t.waiting → IsCurrent history piece
  later_current c now latest number_is is_waiting =
      let same : history.floors piece.message.stream piece.message.is_unordered ≡ history.floors id latest.waiting.is_unordered =
      ap (λ (k : ℕ). history.floors k piece.message.is_unordered) (stream_is queued max queue piece t) ∙ ap (history.floors id) (kind_is ∙ ap (λ (w : Waiting). w.is_unordered) (sym is_waiting)) in
      let low = latest.from in
      omega (arith, same, number_is, low)
