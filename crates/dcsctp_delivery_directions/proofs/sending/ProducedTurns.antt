-- The SSNs once a fragment was handed out.
use Rattle.std.proofs.Common.{◌≡◌, ◌≢◌, ℕ, Bool, true, false, ◌<◌, ◌≤◌, ◌+◌, ◌%◌, ◌^◌, List, ◌∷◌, length, drop, refl, sym, ◌∙◌, ap, arith, subst, inl, inr}
use Rattle.std.specs.Prelude.{◌⊎◌, Option, None, Some, ◌||◌, ◌&&◌, not, if◌then◌else◌, nat_lt}
use Rattle.std.proofs.lemmas.Bool.{eq-eqb}
use Rattle.dcsctp_spec.specs.types.declared.ids.StreamId.{StreamId}
use Rattle.dcsctp_spec.specs.types.declared.sending.UnderWay.{UnderWay}
use Rattle.dcsctp_spec.specs.types.queues.SendStreams.{Waiting, Stream, front_of, stream_counted, stream_at}
use Rattle.dcsctp_spec.specs.queues.SendQueue.{SendQueueState, queue_interleaves}
use Rattle.dcsctp_spec.specs.queues.Sending.{progress_after, stream_held_after, may_be_abandoned, is_kept_whole, shared_window}
use Rattle.dcsctp_delivery_directions.specs.sending.Places.{at_place}
use Rattle.dcsctp_delivery_directions.specs.sending.Log.{Message, Piece, Slot, is_end, History, with_slot}
use Rattle.dcsctp_delivery_directions.specs.sending.Turns.{begun_on, IsSsnOfTurn}
use Rattle.dcsctp_delivery_directions.specs.sending.Numbers.{stream_named, CountsTurns, CountsSsns, is_always_whole}
use Rattle.dcsctp_delivery_directions.specs.sending.Pieces.{HoldsQueued}
use Rattle.dcsctp_delivery_directions.proofs.sending.Places.{decide, at_below, at_cases}
use Rattle.dcsctp_delivery_directions.proofs.sending.Newest.{is_newest}
use Rattle.dcsctp_delivery_directions.proofs.sending.Numbers.{SameMids}
use Rattle.dcsctp_delivery_directions.proofs.sending.Produced.{TakesPiece, stream_is, piece_lengths}
use Rattle.dcsctp_delivery_directions.proofs.sending.WhatLeaves.{Produces, Leaves, part, last}
use Rattle.dcsctp_delivery_directions.proofs.sending.ProducedNumbers.{named_old, named_new, ssn_later}
use Rattle.dcsctp_delivery_directions.proofs.sending.Turns.{starts_none, starts_one, starts_else, starts_apart, turns_with}

-- an ordered message that is begun takes a number
after_ssn : Bool → ℕ → ℕ
after_ssn true ssn = ssn
after_ssn false ssn = (ssn + 1) % 2 ^ 16

ssn_counted : (kind : Bool) (s : Stream) → (stream_counted false kind s).next_ssn ≡ after_ssn kind s.next_ssn
unfolding after_ssn
ssn_counted true s = refl
ssn_counted false s = refl

-- Without interleaving each message is kept whole.
pub plain_whole : (message : Waiting) (queue : SendQueueState) → queue.is_interleaved ≡ false → is_always_whole message queue ≡ true
plain_whole message queue plain =
    subst (λ (b : Bool). (may_be_abandoned message || not (b && queue.takes_turns)) ≡ true) (sym plain) (either (may_be_abandoned message))
  where
    either : (b : Bool) → (b || true) ≡ true
    either true = refl
    either false = refl

kept_if_always : (message : Waiting) (queue : SendQueueState) → is_always_whole message queue ≡ true → is_kept_whole message queue ≡ true
kept_if_always message queue whole = go (may_be_abandoned message) (not (queue_interleaves queue)) (nat_lt (shared_window queue) queue.reserved) whole
  where
    go : (a b c : Bool) → (a || b) ≡ true → (a || b || c) ≡ true
    go true b c is = refl
    go false true c is = refl
    go false false c is = absurd (cc)

pub held_whole : (id : StreamId) (message : Waiting) (queue : SendQueueState) → is_always_whole message queue ≡ true → stream_held_after id message queue ≡ Some id
held_whole id message queue whole = ap (λ (b : Bool). if b then Some id else None) (kept_if_always message queue whole)

module _ (queued : List Message) (history : History) (max : ℕ) (queue : SendQueueState) (piece : Piece) (t : TakesPiece queued max queue piece) (holds : HoldsQueued queued history.log queue.streams)
    (plain : queue.is_interleaved ≡ false) where
  abbrev here : ℕ
  here = (stream_at queue.streams t.place).id

  abbrev kind : Bool
  kind = t.waiting.is_unordered

  abbrev now : List Slot
  now = Some piece ∷ history.log

  on_here : piece.message.stream ≡ here
  on_here = stream_is queued max queue piece t

  kind_is : piece.message.is_unordered ≡ kind
  kind_is = sym t.message.unordered

  named : stream_named here queue.streams ≡ stream_at queue.streams t.place
  named = named_old queued history max queue piece t holds

  -- ---- what the streams are then

  module _ (messages : List Waiting) (progress : Option UnderWay) (new : SendQueueState) (p : Produces t.place t.waiting t.under_way messages progress queue new)
      (goes : (v : UnderWay) → progress ≡ Some v → (v.mid ≡ t.under_way.mid) × (front_of messages ≡ Some t.waiting))
      (same_ssn : (v : UnderWay) → progress ≡ Some v → v.ssn ≡ t.under_way.ssn) where
    there : stream_named here new.streams ≡ stream_at new.streams t.place
    there = named_new queued history max queue piece t holds messages progress new p goes

    -- ---- which number comes next

    ssn_here : t.under_way.sent ≡ 0 → (stream_named here new.streams).next_ssn ≡ after_ssn kind (stream_named here queue.streams).next_ssn
    ssn_here sent =
        let mids : SameMids (stream_counted false kind (stream_at queue.streams t.place)) (stream_at new.streams t.place) =
        subst (λ (b : Bool). SameMids (stream_counted b kind (stream_at queue.streams t.place)) (stream_at new.streams t.place)) plain
        (subst (λ (b : Bool). SameMids (if b then stream_counted queue.is_interleaved kind (stream_at queue.streams t.place) else stream_at queue.streams t.place) (stream_at new.streams t.place))
        (eq-eqb t.under_way.sent 0 sent) p.mids) in
        ap (λ (s : Stream). s.next_ssn) there ∙ mids.ssn ∙ ssn_counted kind (stream_at queue.streams t.place) ∙ ap (λ (s : Stream). after_ssn kind s.next_ssn) (sym named)

    ssn_else : (other : ℕ) → other ≢ here → (stream_named other new.streams).next_ssn ≡ (stream_named other queue.streams).next_ssn
    ssn_else other apart = ap (λ (s : Stream). s.next_ssn) (p.one.named other apart)

    -- ---- a stream once the fragment was handed out

    abbrev NextIs : ℕ → Type 0
    NextIs id = (stream_named id new.streams).next_ssn % 2 ^ 16 ≡ begun_on id now % 2 ^ 16

    abbrev ItsTurn : ℕ → Type 0
    ItsTurn id = piece.message.stream ≡ id → piece.message.is_unordered ≡ false → IsSsnOfTurn piece.ssn (begun_on id now)

    produced_turns : (id : ℕ) → CountsTurns id history.log queue.streams → NextIs id → ItsTurn id → CountsTurns id now new.streams
    produced_turns id c next its =
        turns_with id history.log piece queue.streams new.streams c next its
        (λ w is. elim (decide id here) [
          | inr ne ↦
              (let same = p.one.named id ne in
              let g = c.going w (ap (λ (s : Stream). s.under_way) (sym same) ∙ is) in
              record {
                waiting = g.waiting;
                front = ap (λ (s : Stream). front_of s.messages) same ∙ g.front;
                last = λ ordered. subst (λ (k : ℕ). IsSsnOfTurn w.ssn k) (sym (starts_else id piece history.log (λ on. ne (sym on ∙ on_here)))) (g.last ordered);
              })
          | inl at ↦
              (let is' : progress ≡ Some w = sym p.progress_is ∙ ap (λ (s : Stream). s.under_way) (sym there) ∙ ap (λ (k : ℕ). (stream_named k new.streams).under_way) (sym at) ∙ is in
              let it = goes w is' in
              record {
                waiting = t.waiting;
                front = ap (λ (k : ℕ). front_of (stream_named k new.streams).messages) at ∙ ap (λ (s : Stream). front_of s.messages) there ∙ ap front_of p.messages_are ∙ it.1;
                last = λ ordered. subst (λ (k : ℕ). IsSsnOfTurn k (begun_on id now)) (sym t.ssn ∙ sym (same_ssn w is')) (its (on_here ∙ sym at) (kind_is ∙ ordered));
              })
        ])

    -- the first fragment of a message
    begun_turns : (id : ℕ) → t.under_way.sent ≡ 0 → t.under_way.ssn ≡ (stream_named here queue.streams).next_ssn ⊎ (kind ≡ true) → CountsTurns id history.log queue.streams → CountsTurns id now new.streams
    unfolding after_ssn
    begun_turns id sent ssn c =
        elim (decide id here) [
          | inr ne ↦
              (let same = starts_else id piece history.log (λ on. ne (sym on ∙ on_here)) in
              produced_turns id c (ap (λ (k : ℕ). k % 2 ^ 16) (ssn_else id ne) ∙ c.next ∙ ap (λ (k : ℕ). k % 2 ^ 16) (sym same)) (λ on. absurd (ne (sym on ∙ on_here))))
          | inl at ↦ by_kind kind refl at
        ]
      where
        by_kind : (b : Bool) → kind ≡ b → id ≡ here → CountsTurns id now new.streams
        by_kind true is at =
            let same = starts_apart id piece history.log (kind_is ∙ is) in
            produced_turns id c
            (ap (λ (k : ℕ). (stream_named k new.streams).next_ssn % 2 ^ 16) at ∙ ap (λ (k : ℕ). k % 2 ^ 16) (ssn_here sent) ∙ ap (λ (b : Bool). after_ssn b (stream_named here queue.streams).next_ssn % 2 ^ 16) is
            ∙ ap (λ (k : ℕ). (stream_named k queue.streams).next_ssn % 2 ^ 16) (sym at) ∙ c.next ∙ ap (λ (k : ℕ). k % 2 ^ 16) (sym same))
            (λ on ordered. absurd (let clash : true ≡ false = sym is ∙ sym kind_is ∙ ordered in cc))
        by_kind false is at =
            let more = starts_one id piece history.log (t.start ∙ sent) (on_here ∙ sym at) (kind_is ∙ is) in
            let next : (stream_named here queue.streams).next_ssn % 2 ^ 16 ≡ begun_on id history.log % 2 ^ 16 = ap (λ (k : ℕ). (stream_named k queue.streams).next_ssn % 2 ^ 16) (sym at) ∙ c.next in
            let its : piece.ssn ≡ (stream_named here queue.streams).next_ssn = elim ssn [
              | inl e ↦ sym t.ssn ∙ e
              | inr unordered ↦ absurd (let clash : true ≡ false = sym unordered ∙ is in cc)
            ] in
            produced_turns id c
            (ap (λ (k : ℕ). (stream_named k new.streams).next_ssn % 2 ^ 16) at ∙ ap (λ (k : ℕ). k % 2 ^ 16) (ssn_here sent) ∙ ap (λ (b : Bool). after_ssn b (stream_named here queue.streams).next_ssn % 2 ^ 16) is
            ∙ omega (arith, next, more))
            (λ on ordered. record { some = omega (arith, more); is = omega (arith, more, next, its) })

    -- a later one
    later_turns : (id : ℕ) → 0 < t.under_way.sent → (stream_at queue.streams t.place).under_way ≡ Some t.under_way → CountsTurns id history.log queue.streams → CountsTurns id now new.streams
    later_turns id some is c =
        let start = t.start in
        let same = starts_none id piece history.log (omega (arith, some, start)) in
        produced_turns id c (ap (λ (k : ℕ). k % 2 ^ 16) (ssn_later queued history max queue piece t holds messages progress new p goes some id) ∙ c.next ∙ ap (λ (k : ℕ). k % 2 ^ 16) (sym same))
        (λ on ordered. (
        let at : here ≡ id = sym on_here ∙ on in
        let g = c.going t.under_way (ap (λ (k : ℕ). (stream_named k queue.streams).under_way) (sym at) ∙ ap (λ (s : Stream). s.under_way) named ∙ is) in
        let both : Some g.waiting ≡ Some t.waiting = sym g.front ∙ ap (λ (k : ℕ). front_of (stream_named k queue.streams).messages) (sym at) ∙ ap (λ (s : Stream). front_of s.messages) named ∙ t.front in
        let one : g.waiting ≡ t.waiting = cc in
        let turn = g.last (ap (λ (w : Waiting). w.is_unordered) one ∙ sym kind_is ∙ ordered) in
        subst (λ (k : ℕ). IsSsnOfTurn k (begun_on id now)) t.ssn (subst (λ (k : ℕ). IsSsnOfTurn t.under_way.ssn k) (sym same) turn)
        ))

  -- ---- it ends a message, or not

  ends_so : (new : SendQueueState) → Leaves t.place max t.waiting t.under_way queue new → new.held ≡ None → is_end piece ≡ true
  ends_so new (part open_end p held) idle =
      absurd (let clash : Some t.under_way.stream_id ≡ None = sym (held_whole t.under_way.stream_id t.waiting queue (plain_whole t.waiting queue plain)) ∙ sym held ∙ idle in cc)
  ends_so new (last all p held) idle =
      let start = t.start in
      let size = t.size in
      let unfinished = t.unfinished in
      eq-eqb (piece.start + piece.size) (length piece.message.payload) (omega (arith, all, start, size, piece_lengths queued max queue piece t, unfinished))

  before : (n : ℕ) (f : Piece) → n + 1 ≤ length history.log → at_place n (Some piece ∷ history.log) ≡ Some (Some f) → at_place n history.log ≡ Some (Some f)
  before n f below at = elim (at_cases n (Some piece) (Some f) history.log at) [ inl e ↦ absurd (let is : n ≡ length history.log = e.0 in omega (arith, is, below)) | inr old ↦ old ]

  rests_so : (new : SendQueueState) → Leaves t.place max t.waiting t.under_way queue new → new.held ≡ None → (f : Piece) → Some (Some piece) ≡ Some (Some f) → is_end f ≡ true
  rests_so new left idle f at = let same : piece ≡ f = cc in subst (λ (g : Piece). is_end g ≡ true) same (ends_so new left idle)

  part_goes : (v : UnderWay) → Some (progress_after max t.under_way) ≡ Some v → (v.mid ≡ t.under_way.mid) × (front_of (stream_at queue.streams t.place).messages ≡ Some t.waiting)
  part_goes v is = let same : progress_after max t.under_way ≡ v = cc in (ap (λ (u : UnderWay). u.mid) (sym same), t.front)

  part_ssn : (v : UnderWay) → Some (progress_after max t.under_way) ≡ Some v → v.ssn ≡ t.under_way.ssn
  part_ssn v is = let same : progress_after max t.under_way ≡ v = cc in ap (λ (u : UnderWay). u.ssn) (sym same)

  last_goes : (v : UnderWay) → None ≡ Some v → (v.mid ≡ t.under_way.mid) × (front_of (drop 1 (stream_at queue.streams t.place).messages) ≡ Some t.waiting)
  last_goes v is = absurd (cc)

  pub begun_ssns : t.under_way.sent ≡ 0 → queue.held ≡ None → t.under_way.ssn ≡ (stream_named here queue.streams).next_ssn ⊎ (kind ≡ true) → (new : SendQueueState) → Leaves t.place max t.waiting t.under_way queue new
      → CountsSsns history queue.streams queue.held → CountsSsns (with_slot (Some piece) history) new.streams new.held
  begun_ssns sent free ssn new left c =
      record {
        turns = λ id from. turns left id (c.turns id (record { floor = from.floor; none = from.none }));
        closes = λ n f g at at' starts. elim (at_cases (n + 1) (Some piece) (Some g) history.log at') [
          | inr old ↦ c.closes n f g (before n f (let low = at_below (n + 1) (Some g) history.log old in omega (arith, low)) at) old starts
          | inl e ↦ (let is : n + 1 ≡ length history.log = e.0 in c.rests free f (is_newest n f history.log is (before n f (omega (arith, is)) at)))
        ];
        rests = rests_so new left;
      }
    where
      turns : Leaves t.place max t.waiting t.under_way queue new → (id : ℕ) → CountsTurns id history.log queue.streams → CountsTurns id now new.streams
      turns (part open_end p held) id c' = begun_turns (stream_at queue.streams t.place).messages (Some (progress_after max t.under_way)) new p part_goes part_ssn id sent ssn c'
      turns (last all p held) id c' = begun_turns (drop 1 (stream_at queue.streams t.place).messages) None new p last_goes (λ v is. absurd (cc)) id sent ssn c'

  pub later_ssns : 0 < t.under_way.sent → (stream_at queue.streams t.place).under_way ≡ Some t.under_way → (new : SendQueueState) → Leaves t.place max t.waiting t.under_way queue new
      → CountsSsns history queue.streams queue.held → CountsSsns (with_slot (Some piece) history) new.streams new.held
  later_ssns some going new left c =
      record {
        turns = λ id from. turns left id (c.turns id (record { floor = from.floor; none = from.none }));
        closes = λ n f g at at' starts. elim (at_cases (n + 1) (Some piece) (Some g) history.log at') [
          | inr old ↦ c.closes n f g (before n f (let low = at_below (n + 1) (Some g) history.log old in omega (arith, low)) at) old starts
          | inl e ↦
              absurd (let same : piece ≡ g = (let both : Some piece ≡ Some g = e.1 in cc) in
              let zero' : piece.start ≡ 0 = ap (λ (x : Piece). x.start) same ∙ starts in
              let start = t.start in
              omega (arith, zero', start, some))
        ];
        rests = rests_so new left;
      }
    where
      turns : Leaves t.place max t.waiting t.under_way queue new → (id : ℕ) → CountsTurns id history.log queue.streams → CountsTurns id now new.streams
      turns (part open_end p held) id c' = later_turns (stream_at queue.streams t.place).messages (Some (progress_after max t.under_way)) new p part_goes part_ssn id some going c'
      turns (last all p held) id c' = later_turns (drop 1 (stream_at queue.streams t.place).messages) None new p last_goes (λ v is. absurd (cc)) id some going c'
