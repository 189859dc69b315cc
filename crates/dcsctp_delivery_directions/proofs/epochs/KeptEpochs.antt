-- Of the messages without limits that were queued since a reset of their stream was asked for, none is left out before one that
-- is sent: each was sent, or waits; or it was dropped as the next reset was asked for, and nothing after it is sent before that.
use Rattle.std.proofs.Common.{◌≡◌, ℕ, zero, suc, Bool, true, false, ◌<◌, ◌≤◌, List, [], ◌∷◌, length, take, drop, refl, sym, ◌∙◌, ap, arith, subst, inl, inr}
use Rattle.std.specs.Prelude.{◌⊎◌, ◌&&◌, Option, None, Some, slice_get, is_some, if◌then◌else◌}
use Rattle.dcsctp_spec.specs.types.declared.sending.Pause.{Pause}
use Rattle.dcsctp_spec.specs.types.declared.sending.Pause.TheVariants.{Pausing}
use Rattle.dcsctp_spec.specs.types.declared.sending.UnderWay.{UnderWay}
use Rattle.dcsctp_spec.specs.types.queues.SendStreams.{Waiting, Stream, front_of, stream_at}
use Rattle.dcsctp_spec.specs.queues.Incoming.{is_named}
use Rattle.dcsctp_spec.specs.queues.Items.{Item}
use Rattle.dcsctp_spec.specs.queues.OwnResets.{is_open_pause, count_under_way, prepared_all}
use Rattle.dcsctp_spec.specs.queues.SendQueue.{SendQueueState}
use Rattle.dcsctp_spec.specs.queues.Transfer.{Transfer, EndpointQueues}
use Rattle.dcsctp_delivery_directions.specs.sending.Places.{HasEntry, at_place}
use Rattle.dcsctp_delivery_directions.specs.sending.Log.{Message, Piece, History, IsLogOfPieces}
use Rattle.dcsctp_delivery_directions.specs.sending.Flushes.{InFlight, QueuesFollowLog}
use Rattle.dcsctp_delivery_directions.specs.sending.Losing.{StillWaits, IsKept}
use Rattle.dcsctp_delivery_directions.specs.sending.Numbers.{stream_named}
use Rattle.dcsctp_delivery_directions.specs.sending.Pieces.{AllBeyond, Ascend, unbegun, HoldsQueued}
use Rattle.dcsctp_delivery_directions.proofs.sending.HeldOn.{FreeQueuesOn}
use Rattle.dcsctp_delivery_directions.proofs.sending.Losing.{items_in, queued_of}
use Rattle.dcsctp_delivery_directions.proofs.sending.Places.{at_below}
use Rattle.dcsctp_delivery_directions.specs.epochs.Sending.{AllFrom, EpochBounds, asked_with, is_open, SendsByEpoch}
use Rattle.dcsctp_delivery_directions.proofs.epochs.Alike.{same_history, stays_by_epoch}
use Rattle.dcsctp_delivery_directions.proofs.epochs.Named.{named_or_unused, waits_named, from_each}
use Rattle.dcsctp_delivery_directions.proofs.epochs.Preparing.{IsPreparedAs, paused, left, preparing_named, nothing_left}

-- ---- messages without limits

pub record IsWithoutLimits (queued : List Message) (place : ℕ) : Type 0 where
  pub message : Message
  pub at : at_place place queued ≡ Some message
  pub free : message.is_limited ≡ false

limits_none : (queued : List Message) (place other : ℕ) (message : Message) → IsWithoutLimits queued place → place ≡ other → at_place other queued ≡ Some message → message.is_limited ≡ false
limits_none queued place other message p same at =
    let both : Some p.message ≡ Some message = sym p.at ∙ ap (λ (k : ℕ). at_place k queued) same ∙ at in
    let one : p.message ≡ message = cc in
    sym (ap (λ (m : Message). m.is_limited) one) ∙ p.free

pub free_without : (queued : List Message) (history : History) (first acknowledged : ℕ) (below : EndpointQueues) → QueuesFollowLog queued history first acknowledged below → FreeQueuesOn (IsWithoutLimits queued) below
free_without queued history first acknowledged below stands =
    record {
      wait = λ q w has p. (
          let was = queued_of queued (stream_at below.queue.streams q).id (stream_at below.queue.streams q).messages w (stands.queue_holds.wait q) has in
          was.is.limits (limits_none queued w.message_id w.message_id was.message p refl was.at)
          );
      fly = flies below.transfer stands.flight;
    }
  where
    nothing : (k : ℕ) (item : Item) → slice_get [] k ≡ Some item → (item.fragment.expires_at ≡ None) × (item.fragment.max_retransmissions ≡ None)
    nothing zero item at = absurd (cc)
    nothing (suc k) item at = absurd (cc)

    flies : (t : Option Transfer) → InFlight history first acknowledged t → (k : ℕ) (item : Item) → slice_get (items_in t) k ≡ Some item → IsWithoutLimits queued item.fragment.message_id → (item.fragment.expires_at ≡ None) × (item.fragment.max_retransmissions ≡ None)
    flies None none k item at p = nothing k item at
    flies (Some t) bears k item at p = (let n = bears.named k item at in n.limits (limits_none queued item.fragment.message_id n.piece.place n.piece.message p n.of (stands.cut.pieces n.number n.piece n.at).at))

-- ---- what is kept of an epoch

-- The bounds of a stream that halts before this place.
abbrev pub halting_at : ℕ → EpochBounds
halting_at place = record { newest = Some place; ended = 0 }

-- The message was dropped when a reset of its stream was asked for. The stream is paused since, and halts before it.
pub record IsDropped (count : ℕ) (history : History) (queue : SendQueueState) (id : ℕ) (asked : EpochBounds) (place : ℕ) : Type 0 where
  pub newest : ℕ
  pub newest_is : asked.newest ≡ Some newest
  pub before : place < newest
  pub shut : is_open id queue.streams ≡ false
  pub halts : SendsByEpoch count history queue id (halting_at place)

abbrev pub IsKeptOrDropped : List Message → History → SendQueueState → ℕ → EpochBounds → ℕ → Type 0
IsKeptOrDropped queued history queue id asked place = IsKept history.log queue.streams place ⊎ IsDropped (length queued) history queue id asked place

abbrev pub KeepsEpoch : List Message → History → SendQueueState → ℕ → EpochBounds → Type 0
KeepsEpoch queued history queue id asked =
    (place : ℕ) (message : Message) → at_place place queued ≡ Some message → message.stream ≡ id → message.is_limited ≡ false → asked.ended ≤ place → IsKeptOrDropped queued history queue id asked place

-- ---- what waits, by the number of its stream

module _ (queued : List Message) (history : History) (queue : SendQueueState) (id place : ℕ) (message : Message) (holds : HoldsQueued queued history.log queue.streams) (at : at_place place queued ≡ Some message) (on : message.stream ≡ id) where
  its_stream : (waits : StillWaits queue.streams place) → (stream_at queue.streams waits.q).id ≡ id
  its_stream waits =
      let w = queued_of queued (stream_at queue.streams waits.q).id (stream_at queue.streams waits.q).messages waits.waiting (holds.wait waits.q) waits.has in
      let both : Some w.message ≡ Some message = sym w.at ∙ ap (λ (k : ℕ). at_place k queued) waits.is ∙ at in
      let same : w.message ≡ message = cc in
      w.is.stream ∙ ap (λ (m : Message). m.stream) same ∙ on

  pub waits_on : (waits : StillWaits queue.streams place) → HasEntry waits.waiting (stream_named id queue.streams).messages
  waits_on waits = waits_named id waits.q queue.streams waits.waiting holds.distinct (its_stream waits) waits.has

still_named : (id place : ℕ) (streams : List Stream) (w : Waiting) → HasEntry w (stream_named id streams).messages → w.message_id ≡ place → StillWaits streams place
still_named id place streams w has is =
    elim (named_or_unused id streams) [
      | inl at ↦ record { q = at.q; waiting = w; has = subst (λ (s : Stream). HasEntry w s.messages) at.same has; is = is }
      | inr none ↦ absurd (subst (λ (s : Stream). HasEntry w s.messages) none has)
    ]

-- ---- a reset is asked for

take_or_drop : (k : ℕ) (l : List Waiting) (w : Waiting) → HasEntry w l → HasEntry w (take k l) ⊎ HasEntry w (drop k l)
take_or_drop zero l w has = inr has
take_or_drop (suc k) [] w has = absurd has
take_or_drop (suc k) (v ∷ l) w has =
    elim has [
      | inl e ↦ inl (inl e)
      | inr t ↦ elim (take_or_drop k l w t) [ inl early ↦ inl (inr early) | inr late ↦ inr late ]
    ]

beyond_of : (place : ℕ) (messages : List Waiting) (w : Waiting) → AllBeyond place messages → HasEntry w messages → place < w.message_id
beyond_of place [] w are has = absurd has
beyond_of place (v ∷ messages) w are has = elim has [ inl e ↦ subst (λ (x : Waiting). place < x.message_id) (sym e) are.0 | inr t ↦ beyond_of place messages w are.1 t ]

-- the message under way comes before the others
front_before : (u : Option UnderWay) (l : List Waiting) (v w : Waiting) → is_some u ≡ true → Ascend l → front_of (take (if is_some u then 1 else 0) l) ≡ Some v → HasEntry w (drop (if is_some u then 1 else 0) l) → v.message_id < w.message_id
front_before None l v w is up front has = absurd (cc)
front_before (Some u) [] v w is up front has = absurd has
front_before (Some u) (x ∷ l) v w is up front has = (let same : x ≡ v = cc in subst (λ (y : Waiting). y.message_id < w.message_id) same (beyond_of x.message_id l w up.0 has))

shut_pausing : (p : Pause) → p ≡ Pausing → is_open_pause p ≡ false
shut_pausing p is = ap is_open_pause is

module _ (ids : List ℕ) (queued : List Message) (queue : SendQueueState) (history : History) (id : ℕ) (asked : ℕ → EpochBounds) (cut : IsLogOfPieces queued history.log) (holds : HoldsQueued queued history.log queue.streams) where
  abbrev old : Stream
  old = stream_named id queue.streams

  abbrev new : Stream
  new = stream_named id (prepared_all ids queue).streams

  ascends : Ascend old.messages
  ascends = elim (named_or_unused id queue.streams) [
    | inl there ↦ subst (λ (s : Stream). Ascend s.messages) (sym there.same) (holds.ascend there.q)
    | inr none ↦ subst (λ (s : Stream). Ascend s.messages) (sym none) tt
  ]

  -- what isn't begun was queued after all that was sent
  beyond_sent : (n : ℕ) (f : Piece) → at_place n history.log ≡ Some (Some f) → f.message.stream ≡ id → AllBeyond f.place (unbegun old)
  beyond_sent n f at on = elim (named_or_unused id queue.streams) [
    | inl there ↦ subst (λ (s : Stream). AllBeyond f.place (unbegun s)) (sym there.same) (holds.beyond there.q n f at (on ∙ sym there.is))
    | inr none ↦ subst (λ (s : Stream). AllBeyond f.place (unbegun s)) (sym none) tt
  ]

  -- a message that isn't begun
  drops : (place : ℕ) (message : Message) → at_place place queued ≡ Some message → new.messages ≡ take (count_under_way old) old.messages → new.under_way ≡ old.under_way → (w : Waiting) → HasEntry w (unbegun old) → w.message_id ≡ place
      → SendsByEpoch (length queued) history (prepared_all ids queue) id (halting_at place)
  drops place message at messages way w has is =
      record {
        from = record { sent = λ n f at' on' current. omega arith; waits = from_each 0 new.messages (λ v has'. omega arith) };
        stops = λ shut. record {
          sent = λ n f at' on'. (let beyond = beyond_of f.place (unbegun old) w (beyond_sent n f at' on') has in omega (arith, beyond, is));
          going = λ v going front. (
              let under : is_some old.under_way ≡ true = ap is_some (sym way) ∙ going in
              let first = front_before old.under_way old.messages v w under ascends (ap front_of (sym messages) ∙ front) has in
              omega (arith, first, is)
              );
          rest = subst (λ (l : List Waiting). AllFrom place l) (sym (ap (λ (u : Option UnderWay). drop (if is_some u then 1 else 0) new.messages) way ∙ ap (λ (l : List Waiting). drop (count_under_way old) l) messages))
              (nothing_left place old.under_way old.messages);
        };
        newest = λ other same. (let one : place ≡ other = cc in let below = at_below place message queued at in (omega arith, omega (arith, one, below)));
        ended = omega arith;
      }

  pub preparing_keeps : KeepsEpoch queued history queue id (asked id) → KeepsEpoch queued history (prepared_all ids queue) id (asked_with ids queue.streams (length queued) asked id)
  preparing_keeps k place message at on free = go (preparing_named ids queue id)
    where
      and_false : (b : Bool) → (b && false) ≡ false
      and_false true = refl
      and_false false = refl

      go : IsPreparedAs (is_named ids id) old new → (asked_with ids queue.streams (length queued) asked id).ended ≤ place
          → IsKeptOrDropped queued history (prepared_all ids queue) id (asked_with ids queue.streams (length queued) asked id) place
      go (left is unmoves) low =
          let low' : (asked id).ended ≤ place = rw is at low in
          rw is (elim (k place message at on free low') [
            | inl kept ↦ inl (elim kept [
              | inl sent ↦ inl sent
              | inr waits ↦
                  inr (still_named id place (prepared_all ids queue).streams waits.waiting
                  (subst (λ (l : List Waiting). HasEntry waits.waiting l) (sym unmoves.messages) (waits_on queued history queue id place message holds at on waits)) waits.is)
            ])
            | inr d ↦ inr (record {
              newest = d.newest;
              newest_is = d.newest_is;
              before = d.before;
              shut = ap is_open_pause unmoves.pause ∙ d.shut;
              halts = stays_by_epoch history history (same_history history) queue (prepared_all ids queue) id unmoves (length queued) (length queued) (halting_at place) (omega arith) d.halts;
            })
          ])
      go (paused is messages way pause) low =
          let low' : (asked id).ended ≤ place = rw is at low in
          rw is (elim (k place message at on free low') [
            | inr d ↦ absurd (let no : true ≡ false = sym is ∙ ap (λ (b : Bool). is_named ids id && b) d.shut ∙ and_false (is_named ids id) in cc)
            | inl kept ↦ elim kept [
              | inl sent ↦ inl (inl sent)
              | inr waits ↦ elim (take_or_drop (count_under_way old) old.messages waits.waiting (waits_on queued history queue id place message holds at on waits)) [
                | inl early ↦ inl (inr (still_named id place (prepared_all ids queue).streams waits.waiting (subst (λ (l : List Waiting). HasEntry waits.waiting l) (sym messages) early) waits.is))
                | inr late ↦ inr (record {
                  newest = length queued;
                  newest_is = refl;
                  before = at_below place message queued at;
                  shut = ap is_open_pause pause;
                  halts = drops place message at messages way waits.waiting late waits.is;
                })
              ]
            ]
          ])
