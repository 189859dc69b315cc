-- The stream of a number: where it stands among the others, and what waits on it.
use Rattle.std.proofs.Common.{◌≡◌, ℕ, zero, suc, true, false, ◌<◌, ◌≤◌, List, [], ◌∷◌, length, drop, refl, sym, ◌∙◌, ap, arith, subst, inl, inr}
use Rattle.std.specs.Prelude.{◌⊎◌, None, Some, is_some, if◌then◌else◌}
use Rattle.std.specs.List.{AllByRecursion}
use Rattle.std.proofs.lemmas.Bool.Decides.{eqb_tells}
use Rattle.dcsctp_spec.specs.types.declared.sending.Pause.{Pause}
use Rattle.dcsctp_spec.specs.types.declared.sending.Pause.TheVariants.{Open, Pausing, HandedOut}
use Rattle.dcsctp_spec.specs.types.queues.SendStreams.{Waiting, Stream, front_of, stream_at, unused_stream}
use Rattle.dcsctp_spec.specs.queues.OwnResets.{is_open_pause}
use Rattle.dcsctp_spec.specs.queues.SendQueue.{SendQueueState, used_streams}
use Rattle.dcsctp_delivery_directions.specs.sending.Places.{HasEntry}
use Rattle.dcsctp_delivery_directions.specs.sending.Losing.{IsOpenOn}
use Rattle.dcsctp_delivery_directions.specs.sending.Numbers.{stream_named}
use Rattle.dcsctp_delivery_directions.specs.sending.Pieces.{unbegun}
use Rattle.dcsctp_delivery_directions.proofs.sending.Streams.{there_or_empty}
use Rattle.dcsctp_delivery_directions.proofs.sending.StreamsNamed.{found_at, found_used}
use Rattle.dcsctp_delivery_directions.proofs.sending.WhatWaits.{front_has}
use Rattle.dcsctp_delivery_directions.specs.epochs.Sending.{AllFrom}
use Rattle.dcsctp_delivery_directions.proofs.epochs.Feeding.{FeedsStreams}

-- numbers are distinct
abbrev pub AreApart : List Stream → Type 0
AreApart streams = (p q : ℕ) → p < length streams → q < length streams → (stream_at streams p).id ≡ (stream_at streams q).id → p ≡ q

-- It is the one at its place,
pub named_at : (id q : ℕ) (streams : List Stream) → AreApart streams → q < length streams → (stream_at streams q).id ≡ id → stream_named id streams ≡ stream_at streams q
named_at id q streams apart within is = subst (λ (k : ℕ). stream_named k streams ≡ stream_at streams q) is (found_at (unused_stream 0 0 0) q streams within apart)

-- and it has one, or was never used.
pub record StandsAt (id : ℕ) (streams : List Stream) : Type 0 where
  pub q : ℕ
  pub within : q < length streams
  pub is : (stream_at streams q).id ≡ id
  pub same : stream_named id streams ≡ stream_at streams q

pub named_or_unused : (id : ℕ) (streams : List Stream) → StandsAt id streams ⊎ (stream_named id streams ≡ unused_stream 0 0 0)
named_or_unused id [] = inr refl
named_or_unused id (s ∷ streams) =
    elim (eqb_tells s.id id) [
      | inl e ↦ inl (record { q = 0; within = omega arith; is = e.1; same = rw e.0 refl })
      | inr e ↦
          elim (named_or_unused id streams) [
            | inl at ↦ inl (record { q = suc at.q; within = (let within = at.within in omega (arith, within)); is = at.is; same = rw e.0 at.same })
            | inr none ↦ inr (rw e.0 none)
          ]
    ]

-- What waits at a place waits on it.
pub waits_named : (id q : ℕ) (streams : List Stream) (w : Waiting) → AreApart streams → (stream_at streams q).id ≡ id → HasEntry w (stream_at streams q).messages → HasEntry w (stream_named id streams).messages
waits_named id q streams w apart is has =
    elim (there_or_empty streams q) [
      | inl within ↦ subst (λ (s : Stream). HasEntry w s.messages) (sym (named_at id q streams apart within is)) has
      | inr empty ↦ absurd (subst (λ (l : List Waiting). HasEntry w l) empty has)
    ]

pub front_named : (id q : ℕ) (streams : List Stream) (w : Waiting) → AreApart streams → (stream_at streams q).id ≡ id → front_of (stream_at streams q).messages ≡ Some w → front_of (stream_named id streams).messages ≡ Some w
front_named id q streams w apart is front =
    elim (there_or_empty streams q) [
      | inl within ↦ ap (λ (s : Stream). front_of s.messages) (named_at id q streams apart within is) ∙ front
      | inr empty ↦ absurd (let no : None ≡ Some w = sym (ap front_of empty) ∙ front in cc)
    ]

pub from_has : (a : ℕ) (l : List Waiting) (w : Waiting) → AllFrom a l → HasEntry w l → a ≤ w.message_id
from_has a [] w are has = absurd has
from_has a (v ∷ l) w are has = elim has [ inl e ↦ subst (λ (x : Waiting). a ≤ x.message_id) (sym e) are.0 | inr t ↦ from_has a l w are.1 t ]

pub from_each : (a : ℕ) (l : List Waiting) → ((w : Waiting) → HasEntry w l → a ≤ w.message_id) → AllFrom a l
from_each a [] each = tt
from_each a (w ∷ l) each = (each w (inl refl), from_each a l (λ v has. each v (inr has)))

from_zero : (l : List Waiting) → AllFrom 0 l
from_zero l = from_each 0 l (λ w has. omega arith)

-- ---- what may be sent

pub from_feeds : (a id : ℕ) (streams : List Stream) → AreApart streams → AllFrom a (stream_named id streams).messages → FeedsStreams (λ place. a ≤ place) (λ place. a ≤ place) 0 id streams
from_feeds a id streams apart are q =
    record {
      going = λ w here goes front. from_has a (stream_named id streams).messages w are (waits_named id q streams w apart here (front_has (stream_at streams q).messages w front));
      starts = λ w here opened has. from_has a (stream_named id streams).messages w are (waits_named id q streams w apart here has);
      waits = λ w here has. from_has a (stream_named id streams).messages w are (waits_named id q streams w apart here has);
      rest = λ here. from_zero (unbegun (stream_at streams q));
    }

pub feeds_from : (a id : ℕ) (streams : List Stream) → FeedsStreams (λ place. a ≤ place) (λ place. a ≤ place) 0 id streams → AllFrom a (stream_named id streams).messages
feeds_from a id streams f =
    elim (named_or_unused id streams) [
      | inl at ↦ subst (λ (s : Stream). AllFrom a s.messages) (sym at.same) (from_each a (stream_at streams at.q).messages (λ w has. (f at.q).waits w at.is has))
      | inr none ↦ subst (λ (s : Stream). AllFrom a s.messages) (sym none) tt
    ]

abbrev pub AnyPlace : ℕ → Type 0
AnyPlace place = Unit {0}

pub stop_feeds : (a id : ℕ) (streams : List Stream) → AreApart streams → is_open_pause (stream_named id streams).pause ≡ false
    → ((w : Waiting) → is_some (stream_named id streams).under_way ≡ true → front_of (stream_named id streams).messages ≡ Some w → w.message_id < a)
    → AllFrom a (unbegun (stream_named id streams)) → FeedsStreams (λ place. place < a) AnyPlace a id streams
stop_feeds a id streams apart paused going are q =
    elim (there_or_empty streams q) [
      | inl within ↦
          record {
            going = λ w here goes front. (let same = named_at id q streams apart within here in going w (ap (λ (s : Stream). is_some s.under_way) same ∙ goes) (ap (λ (s : Stream). front_of s.messages) same ∙ front));
            starts = λ w here opened has. absurd (let no : true ≡ false = sym (ap is_open_pause (ap (λ (s : Stream). s.pause) (named_at id q streams apart within here) ∙ opened)) ∙ paused in cc);
            waits = λ w here has. tt;
            rest = λ here. subst (λ (s : Stream). AllFrom a (unbegun s)) (named_at id q streams apart within here) are;
          }
      | inr empty ↦
          record {
            going = λ w here goes front. absurd (let no : None ≡ Some w = sym (ap front_of empty) ∙ front in cc);
            starts = λ w here opened has. absurd (subst (λ (l : List Waiting). HasEntry w l) empty has);
            waits = λ w here has. tt;
            rest = λ here. subst (λ (l : List Waiting). AllFrom a (drop (if is_some (stream_at streams q).under_way then 1 else 0) l)) (sym empty) (none (if is_some (stream_at streams q).under_way then 1 else 0));
          }
    ]
  where
    none : (k : ℕ) → AllFrom a (drop {A = Waiting} k [])
    none zero = tt
    none (suc k) = tt

module _ (a id : ℕ) (streams : List Stream) (f : FeedsStreams (λ place. place < a) AnyPlace a id streams) where
  pub feeds_going : (w : Waiting) → is_some (stream_named id streams).under_way ≡ true → front_of (stream_named id streams).messages ≡ Some w → w.message_id < a
  feeds_going w is front =
      elim (named_or_unused id streams) [
        | inl at ↦ (f at.q).going w at.is (ap (λ (s : Stream). is_some s.under_way) (sym at.same) ∙ is) (ap (λ (s : Stream). front_of s.messages) (sym at.same) ∙ front)
        | inr none ↦ absurd (let no : None ≡ Some w = sym (ap (λ (s : Stream). front_of s.messages) none) ∙ front in cc)
      ]

  pub feeds_rest : AllFrom a (unbegun (stream_named id streams))
  feeds_rest =
      elim (named_or_unused id streams) [
        | inl at ↦ subst (λ (s : Stream). AllFrom a (unbegun s)) (sym at.same) ((f at.q).rest at.is)
        | inr none ↦ subst (λ (s : Stream). AllFrom a (unbegun s)) (sym none) tt
      ]

-- ---- a stream that is open

each_at : (Q : Stream → Type 0) (l : List Stream) → ((k : ℕ) → k < length l → Q (stream_at l k)) → AllByRecursion Q l
each_at Q [] each = tt
each_at Q (s ∷ l) each = (each 0 (omega arith), each_at Q l (λ k less. each (suc k) (omega (arith, less))))

opened : (p : Pause) → is_open_pause p ≡ true → p ≡ Open
opened Open is = refl
opened Pausing is = absurd (cc)
opened HandedOut is = absurd (cc)

pub named_open : (id : ℕ) (streams : List Stream) → AreApart streams → is_open_pause (stream_named id streams).pause ≡ true → IsOpenOn id streams
named_open id streams apart is =
    each_at (λ (s : Stream). s.id ≡ id → s.pause ≡ Open) streams (λ k less on. opened (stream_at streams k).pause (ap (λ (s : Stream). is_open_pause s.pause) (sym (named_at id k streams apart less on)) ∙ is))

pub open_named : (id : ℕ) (streams : List Stream) → IsOpenOn id streams → is_open_pause (stream_named id streams).pause ≡ true
open_named id [] are = refl
open_named id (s ∷ streams) are =
    elim (eqb_tells s.id id) [
      | inl e ↦ rw e.0 (ap is_open_pause (are.0 e.1))
      | inr e ↦ rw e.0 (open_named id streams are.1)
    ]

-- ---- a stream that is used for the first time

-- The same waits and is under way, and the pause stays.
pub record IsUnmoved (old new : Stream) : Type 0 where
  pub messages : new.messages ≡ old.messages
  pub under_way : new.under_way ≡ old.under_way
  pub pause : new.pause ≡ old.pause

pub unmoved : (s : Stream) → IsUnmoved s s
unmoved s = record { messages = refl; under_way = refl; pause = refl }

pub used_unmoved : (queue : SendQueueState) (other id : ℕ) → IsUnmoved (stream_named id queue.streams) (stream_named id (used_streams queue other))
used_unmoved queue other id = found_used IsUnmoved id queue other unmoved (λ s t are. record { messages = are.none_then ∙ sym are.none; under_way = are.idle_then ∙ sym are.idle; pause = are.pause })
