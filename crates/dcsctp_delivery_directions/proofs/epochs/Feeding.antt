-- What a flush sends on a stream comes from what waits on it: from the message under way, and from
-- others only where the stream is open.
use Rattle.std.proofs.Common.{◌≡◌, ◌≢◌, ℕ, Bool, true, false, ◌<◌, arith, List, [], ◌∷◌, length, drop, refl, sym, ◌∙◌, ap, subst, inl, inr}
use Rattle.std.specs.Prelude.{◌⊎◌, Option, None, Some, is_some, if◌then◌else◌}
use Rattle.std.proofs.lemmas.Bool.Decides.{eqb_tells}
use Rattle.dcsctp_spec.specs.types.declared.ids.StreamId.{StreamId}
use Rattle.dcsctp_spec.specs.types.declared.sending.UnderWay.{UnderWay}
use Rattle.dcsctp_spec.specs.types.declared.sending.Pause.{Pause}
use Rattle.dcsctp_spec.specs.types.declared.sending.Pause.TheVariants.{Open, Pausing, HandedOut}
use Rattle.dcsctp_spec.specs.types.declared.sending.Turn.{Turn}
use Rattle.dcsctp_spec.specs.types.queues.SendStreams.{Waiting, Stream, stream_at, front_of, may_send_on, turn_of, unused_stream}
use Rattle.dcsctp_spec.specs.queues.SendQueue.{SendQueueState}
use Rattle.dcsctp_spec.specs.queues.Sending.{progress_after, next_progress, stream_held_after, released_queue, is_kept_whole, reserve_begun}
use Rattle.dcsctp_delivery_directions.specs.sending.Places.{HasEntry}
use Rattle.dcsctp_delivery_directions.specs.sending.Numbers.{stream_named}
use Rattle.dcsctp_delivery_directions.specs.sending.Pieces.{unbegun}
use Rattle.dcsctp_delivery_directions.proofs.sending.Fragments.{ChangesOne, each_changed, changes_distinct, changes_named}
use Rattle.dcsctp_delivery_directions.proofs.sending.WhatLeaves.{Produces, Leaves, part, last}
use Rattle.dcsctp_delivery_directions.proofs.sending.Places.{decide}
use Rattle.dcsctp_delivery_directions.proofs.sending.ProducedHeld.{held_on}
use Rattle.dcsctp_delivery_directions.proofs.sending.StreamsNamed.{found_at}
use Rattle.dcsctp_delivery_directions.proofs.sending.WhatWaits.{front_has}
use Rattle.dcsctp_delivery_directions.specs.epochs.Sending.{AllFrom}
use Rattle.dcsctp_delivery_directions.proofs.epochs.Moving.{IsLike, AreLike}

has_dropped : (l : List Waiting) (w : Waiting) → HasEntry w (drop 1 l) → HasEntry w l
has_dropped [] w has = has
has_dropped (v ∷ l) w has = inr has

from_dropped : (a : ℕ) (l : List Waiting) → AllFrom a l → AllFrom a (drop 1 l)
from_dropped a [] are = tt
from_dropped a (w ∷ l) are = are.1

-- what isn't begun, by what is under way
pub unbegun_same : (old new : Stream) → new.under_way ≡ old.under_way → new.messages ≡ old.messages → unbegun new ≡ unbegun old
unbegun_same old new way same =
    ap (λ (u : Option UnderWay). drop (if is_some u then 1 else 0) new.messages) way ∙ ap (λ (l : List Waiting). drop (if is_some old.under_way then 1 else 0) l) same

-- A stream that has its turn is open, or goes on with a message.
pub record IsOpenOrGoing (s : Stream) : Type 0 where
  pub may : (s.pause ≡ Open) ⊎ (is_some s.under_way ≡ true)

pub turn_runs : (s : Stream) (turn : Turn) → turn_of s ≡ Some turn → IsOpenOrGoing s
turn_runs s turn is = record { may = go s.messages s.pause refl (sends (may_send_on s.under_way s.pause s.messages) is) }
  where
    sends : (b : Bool) → (if b then Some (record { priority = s.priority; last_turn = s.last_turn; stream_id = record { 0 = s.id } }) else None) ≡ Some turn → b ≡ true
    sends true e = refl
    sends false e = absurd (cc)

    go : (messages : List Waiting) (p : Pause) → s.pause ≡ p → may_send_on s.under_way p messages ≡ true → (s.pause ≡ Open) ⊎ (is_some s.under_way ≡ true)
    go [] p same e = absurd (cc)
    go (w ∷ messages) Open same e = inl same
    go (w ∷ messages) Pausing same e = inr e
    go (w ∷ messages) HandedOut same e = inr e

-- ---- what is under way

-- Numbers of streams are distinct, a message under way is of its stream, and the stream that is held has one.
pub record KnowsWays (queue : SendQueueState) : Type 0 where
  pub distinct : (p q : ℕ) → p < length queue.streams → q < length queue.streams → (stream_at queue.streams p).id ≡ (stream_at queue.streams q).id → p ≡ q
  pub named : (q : ℕ) (u : UnderWay) → (stream_at queue.streams q).under_way ≡ Some u → (stream_at queue.streams q).id ≡ u.stream_id.0
  pub held : (other : ℕ) → queue.held ≡ held_on other → is_some (stream_named other queue.streams).under_way ≡ true

pub progress_named : (message : Waiting) (s : Stream) → ((u : UnderWay) → s.under_way ≡ Some u → s.id ≡ u.stream_id.0) → s.id ≡ (next_progress message s).stream_id.0
progress_named message s named = go s.under_way refl
  where
    go : (u : Option UnderWay) → s.under_way ≡ u → s.id ≡ (next_progress message s).stream_id.0
    go None is = rw is refl
    go (Some u) is = rw is (named u is)

one_number : (a b : ℕ) → held_on a ≡ held_on b → a ≡ b
one_number a b same = ap number same
  where
    number : Option StreamId → ℕ
    number None = 0
    number (Some s) = s.0

-- a stream that is held still is another one
pub released_other : (id reserve other : ℕ) (queue : SendQueueState) → (released_queue id reserve queue).held ≡ held_on other → (queue.held ≡ held_on other) × (other ≢ id)
released_other id reserve other queue is = go queue.held refl
  where
    go : (held : Option StreamId) → queue.held ≡ held → (queue.held ≡ held_on other) × (other ≢ id)
    go None e = absurd (let none : ◌≡◌ {A = Option StreamId} None (held_on other) = rw e at is in cc)
    go (Some h) e =
        elim (eqb_tells h.0 id) [
          | inl t ↦ absurd (let none : ◌≡◌ {A = Option StreamId} None (held_on other) = rw t.0 at rw e at is in cc)
          | inr t ↦
              (let some : held_on h.0 ≡ held_on other = rw t.0 at rw e at is in
              (e ∙ some, λ same. t.1 (one_number h.0 other some ∙ same)))
        ]

module _ (place : ℕ) (old new : SendQueueState) (within : place < length old.streams) (one : ChangesOne place old.streams new.streams)
    (named_here : (u : UnderWay) → (stream_at new.streams place).under_way ≡ Some u → (stream_at new.streams place).id ≡ u.stream_id.0)
    (held_here : (other : ℕ) → new.held ≡ held_on other → (other ≡ (stream_at old.streams place).id → is_some (stream_at new.streams place).under_way ≡ true) × (other ≢ (stream_at old.streams place).id → old.held ≡ held_on other)) where
  pub changed_ways : KnowsWays old → KnowsWays new
  changed_ways ways =
      record {
        distinct = changes_distinct place old.streams new.streams one ways.distinct;
        named = each_changed (λ (s : Stream). (u : UnderWay) → s.under_way ≡ Some u → s.id ≡ u.stream_id.0) place old.streams new.streams one named_here ways.named;
        held = λ other is. elim (decide other (stream_at old.streams place).id) [
          | inl at ↦
              subst (λ (s : Stream). is_some s.under_way ≡ true) (sym (ap (λ (k : ℕ). stream_named k new.streams) at ∙ changes_named place old.streams new.streams one within ways.distinct)) ((held_here other is).0 at)
          | inr ne ↦ subst (λ (s : Stream). is_some s.under_way ≡ true) (sym (one.named other ne)) (ways.held other ((held_here other is).1 ne))
        ];
      }

-- the stream at a place, by its number
pub named_there : (place : ℕ) (queue : SendQueueState) → KnowsWays queue → place < length queue.streams → stream_named (stream_at queue.streams place).id queue.streams ≡ stream_at queue.streams place
named_there place queue ways within = found_at (unused_stream 0 0 0) place queue.streams within ways.distinct

pub like_ways : (old new : SendQueueState) → new.held ≡ old.held → AreLike old.streams new.streams → KnowsWays old → KnowsWays new
like_ways old new same like ways =
    record {
      distinct = λ p q low low' ids. (
          let sizes = like.sizes in
          ways.distinct p q (omega (arith, low, sizes)) (omega (arith, low', sizes)) (sym (like.each p).id ∙ ids ∙ (like.each q).id)
          );
      named = λ q u is. (like.each q).id ∙ ways.named q u (sym (like.each q).under_way ∙ is);
      held = λ other is. ap is_some (like.ways.each other) ∙ ways.held other (sym same ∙ is);
    }

-- ---- what may be sent

module _ (P W : ℕ → Type 0) (a id : ℕ) where
  -- `P` are the places of what may be sent on the stream, and `W` those of what waits. What isn't begun was queued at `a` or later.
  pub record FeedsStream (s : Stream) : Type 0 where
    pub going : (w : Waiting) → s.id ≡ id → is_some s.under_way ≡ true → front_of s.messages ≡ Some w → P w.message_id
    pub starts : (w : Waiting) → s.id ≡ id → s.pause ≡ Open → HasEntry w s.messages → P w.message_id
    pub waits : (w : Waiting) → s.id ≡ id → HasEntry w s.messages → W w.message_id
    pub rest : s.id ≡ id → AllFrom a (unbegun s)

  -- Each stream feeds so.
  abbrev pub FeedsStreams : List Stream → Type 0
  FeedsStreams streams = (q : ℕ) → FeedsStream (stream_at streams q)

  like_at : (old new : Stream) → IsLike old new → FeedsStream old → FeedsStream new
  like_at old new like f =
      record {
        going = λ w here goes front. f.going w (sym like.id ∙ here) (ap is_some (sym like.under_way) ∙ goes) (ap front_of (sym like.messages) ∙ front);
        starts = λ w here opened has. f.starts w (sym like.id ∙ here) (like.opens opened) (subst (λ (l : List Waiting). HasEntry w l) like.messages has);
        waits = λ w here has. f.waits w (sym like.id ∙ here) (subst (λ (l : List Waiting). HasEntry w l) like.messages has);
        rest = λ here. subst (λ (l : List Waiting). AllFrom a l) (sym (unbegun_same old new like.under_way like.messages)) (f.rest (sym like.id ∙ here));
      }

  pub like_feeds : (old new : List Stream) → AreLike old new → FeedsStreams old → FeedsStreams new
  like_feeds old new like f q = like_at (stream_at old q) (stream_at new q) (like.each q) (f q)

  -- what isn't begun, without the oldest message
  dropped_rest : (s : Stream) → AllFrom a (unbegun s) → AllFrom a (drop 1 s.messages)
  dropped_rest s are = go (is_some s.under_way) are
    where
      go : (b : Bool) → AllFrom a (drop (if b then 1 else 0) s.messages) → AllFrom a (drop 1 s.messages)
      go true are' = are'
      go false are' = from_dropped a s.messages are'

  -- The oldest message of a stream leaves.
  lost_at : (old new : Stream) → new.id ≡ old.id → new.messages ≡ drop 1 old.messages → new.under_way ≡ None → new.pause ≡ old.pause → FeedsStream old → FeedsStream new
  lost_at old new ids left idle pause f =
      record {
        going = λ w here goes front. absurd (let clash : false ≡ true = sym (ap is_some idle) ∙ goes in cc);
        starts = λ w here opened has. f.starts w (sym ids ∙ here) (sym pause ∙ opened) (had w has);
        waits = λ w here has. f.waits w (sym ids ∙ here) (had w has);
        rest = λ here. subst (λ (l : List Waiting). AllFrom a l) (sym (ap (λ (u : Option UnderWay). drop (if is_some u then 1 else 0) new.messages) idle ∙ left)) (dropped_rest old (f.rest (sym ids ∙ here)));
      }
    where
      had : (w : Waiting) → HasEntry w new.messages → HasEntry w old.messages
      had w has = has_dropped old.messages w (subst (λ (l : List Waiting). HasEntry w l) left has)

  -- It goes on, and may be sent.
  part_at : (old new : Stream) → new.id ≡ old.id → new.messages ≡ old.messages → is_some new.under_way ≡ true → new.pause ≡ old.pause → ((w : Waiting) → old.id ≡ id → front_of old.messages ≡ Some w → P w.message_id) → FeedsStream old → FeedsStream new
  part_at old new ids same goes pause may f =
      record {
        going = λ w here goes' front. may w (sym ids ∙ here) (ap front_of (sym same) ∙ front);
        starts = λ w here opened has. f.starts w (sym ids ∙ here) (sym pause ∙ opened) (subst (λ (l : List Waiting). HasEntry w l) same has);
        waits = λ w here has. f.waits w (sym ids ∙ here) (subst (λ (l : List Waiting). HasEntry w l) same has);
        rest = λ here. subst (λ (l : List Waiting). AllFrom a l) (sym (ap (λ (b : Bool). drop (if b then 1 else 0) new.messages) goes ∙ ap (λ (l : List Waiting). drop 1 l) same)) (dropped_rest old (f.rest (sym ids ∙ here)));
      }

  pub lost_feeds : (place : ℕ) (old new : List Stream) → ChangesOne place old new → (stream_at new place).messages ≡ drop 1 (stream_at old place).messages → (stream_at new place).under_way ≡ None → (stream_at new place).pause ≡ (stream_at old place).pause
      → FeedsStreams old → FeedsStreams new
  lost_feeds place old new one left idle pause f = each_changed FeedsStream place old new one (lost_at (stream_at old place) (stream_at new place) one.id left idle pause (f place)) f

  -- The oldest message of a stream that runs may be sent.
  runs_may : (s : Stream) → IsOpenOrGoing s → FeedsStream s → (w : Waiting) → s.id ≡ id → front_of s.messages ≡ Some w → P w.message_id
  runs_may s runs f w here front =
      elim runs.may [
        | inl opened ↦ f.starts w here opened (front_has s.messages w front)
        | inr goes ↦ f.going w here goes front
      ]

  -- ---- a queue

  -- It is known what is under way, and what each stream feeds.
  pub record FeedsQueue (queue : SendQueueState) : Type 0 where
    pub ways : KnowsWays queue
    pub feeds : FeedsStreams queue.streams

  module _ (place max : ℕ) (message : Waiting) (under_way : UnderWay) (old new : SendQueueState) (within : place < length old.streams) (runs : IsOpenOrGoing (stream_at old.streams place)) (fed : FeedsQueue old) (own : (stream_at old.streams place).id ≡ under_way.stream_id.0) where
    pub produced_may : front_of (stream_at old.streams place).messages ≡ Some message → under_way.stream_id.0 ≡ id → P message.message_id
    produced_may front on = runs_may (stream_at old.streams place) runs (fed.feeds place) message (own ∙ on) front

    part_fed : Produces place message under_way (stream_at old.streams place).messages (Some (progress_after max under_way)) old new → new.held ≡ stream_held_after under_way.stream_id message old → FeedsQueue new
    part_fed p held =
        record {
          ways = changed_ways place old new within p.one
              (λ u is. (
              let both : Some (progress_after max under_way) ≡ Some u = sym p.progress_is ∙ is in
              let same : progress_after max under_way ≡ u = cc in
              p.one.id ∙ own ∙ ap (λ (x : UnderWay). x.stream_id.0) same
              ))
              (λ other is. (λ at. ap is_some p.progress_is, λ ne. absurd (ne (held_then (is_kept_whole message old) other (sym held ∙ is)))))
              fed.ways;
          feeds = each_changed FeedsStream place old.streams new.streams p.one
              (part_at (stream_at old.streams place) (stream_at new.streams place) p.one.id p.messages_are (ap is_some p.progress_is) p.pause (runs_may (stream_at old.streams place) runs (fed.feeds place)) (fed.feeds place)) fed.feeds;
        }
      where
        held_then : (b : Bool) (other : ℕ) → (if b then Some under_way.stream_id else None) ≡ held_on other → other ≡ (stream_at old.streams place).id
        held_then true other e = sym (one_number under_way.stream_id.0 other e) ∙ sym own
        held_then false other e = absurd (cc)

    last_fed : Produces place message under_way (drop 1 (stream_at old.streams place).messages) None old new → new.held ≡ (released_queue under_way.stream_id.0 (reserve_begun (length message.payload) under_way) old).held → FeedsQueue new
    last_fed p held =
        record {
          ways = changed_ways place old new within p.one (λ u is. absurd (let none : None ≡ Some u = sym p.progress_is ∙ is in cc))
              (λ other is. (let still = released_other under_way.stream_id.0 (reserve_begun (length message.payload) under_way) other old (sym held ∙ is) in (λ at. absurd (still.1 (at ∙ own)), λ ne. still.0))) fed.ways;
          feeds = lost_feeds place old.streams new.streams p.one p.messages_are p.progress_is p.pause fed.feeds;
        }

    -- The rest is fed as before.
    pub produced_fed : Leaves place max message under_way old new → FeedsQueue new
    produced_fed (part more p held) = part_fed p held
    produced_fed (last all p held) = last_fed p held
