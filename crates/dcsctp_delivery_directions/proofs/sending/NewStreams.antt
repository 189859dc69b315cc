-- A stream that is used for the first time.
use Rattle.std.proofs.Common.{◌≡◌, ◌≢◌, ◌==◌, ℕ, zero, suc, Bool, true, false, ◌<◌, ◌+◌, ◌≤◌, ◌^◌, List, [], ◌∷◌, length, drop, refl, sym, ◌∙◌, ap, arith, subst, inl, inr}
use Rattle.std.specs.Prelude.{◌⊎◌, ◌||◌, Option, None, Some, is_some, nat_lt, if◌then◌else◌}
use Rattle.std.proofs.lemmas.Bool.Decides.{eqb_tells, leb_tells}
use Rattle.dcsctp_spec.specs.types.declared.sending.UnderWay.{UnderWay}
use Rattle.dcsctp_spec.specs.types.queues.SendStreams.{Waiting, Stream, progress_size, stream_at, unused_stream}
use Rattle.dcsctp_spec.specs.queues.SendQueue.{SendQueueState, with_stream, is_used, used_streams, under_way_size}
use Rattle.dcsctp_delivery_directions.specs.sending.Places.{at_place}
use Rattle.dcsctp_delivery_directions.specs.sending.Log.{Message, Piece, Slot}
use Rattle.dcsctp_delivery_directions.specs.sending.Pieces.{AllQueued, AllBeyond, Ascend, unbegun, Going, HoldsQueued}
use Rattle.dcsctp_delivery_directions.specs.sending.Weights.{weight}
use Rattle.dcsctp_delivery_directions.proofs.sending.Streams.{none_beyond}
use Rattle.dcsctp_delivery_directions.proofs.sending.StreamWeights.{size_first}
use Rattle.dcsctp_delivery_directions.proofs.sending.Weights.{weight_inserted}

-- ---- a stream that is used for the first time

-- the streams with one more at this place
record Inserted (s : Stream) (old new : List Stream) : Type 0 where
  place : ℕ
  within : place ≤ length old
  sizes : length new ≡ length old + 1
  before : (q : ℕ) → q < place → stream_at new q ≡ stream_at old q
  here : stream_at new place ≡ s
  behind : (q : ℕ) → place ≤ q → stream_at new (suc q) ≡ stream_at old q

inserted : (s : Stream) (streams : List Stream) → Inserted s streams (with_stream s streams)
inserted s [] = record { place = 0; within = omega arith; sizes = refl; before = λ q less. absurd (omega arith); here = refl; behind = λ q le. refl }
inserted s (first ∷ streams) = go (nat_lt first.id s.id) (inserted s streams)
  where
    go : (b : Bool) → Inserted s streams (with_stream s streams) → Inserted s (first ∷ streams) (if b then first ∷ with_stream s streams else s ∷ first ∷ streams)
    go false rest = record { place = 0; within = omega arith; sizes = omega arith; before = λ q less. absurd (omega arith); here = refl; behind = λ q le. refl }
    go true rest =
        record {
          place = suc rest.place;
          within = omega (arith, rest.within);
          sizes = omega (arith, rest.sizes);
          before = earlier;
          here = rest.here;
          behind = later;
        }
      where
        earlier : (q : ℕ) → q < suc rest.place → stream_at (first ∷ with_stream s streams) q ≡ stream_at (first ∷ streams) q
        earlier zero less = refl
        earlier (suc q) less = rest.before q (omega arith)

        later : (q : ℕ) → suc rest.place ≤ q → stream_at (first ∷ with_stream s streams) (suc q) ≡ stream_at (first ∷ streams) q
        later zero le = absurd (omega arith)
        later (suc q) le = rest.behind q (omega arith)

-- which stream is at a place then: the new one, or an earlier one
data At (s : Stream) (old new : List Stream) (place q : ℕ) : Type 0 where
  new_one : q ≡ place → stream_at new q ≡ s → At s old new place q
  old_one : (k : ℕ) → stream_at new q ≡ stream_at old k → ((q < place) × (k ≡ q)) ⊎ ((place < q) × (k + 1 ≡ q)) → At s old new place q

stands_at : (s : Stream) (old new : List Stream) (i : Inserted s old new) (q : ℕ) → At s old new i.place q
stands_at s old new i q =
    elim (leb_tells (suc q) i.place) [
      | inl e ↦ old_one q (i.before q e.1) (inl (e.1, refl))
      | inr e ↦
          elim (eqb_tells q i.place) [
            | inl same ↦ new_one same.1 (ap (stream_at new) same.1 ∙ i.here)
            | inr other ↦ past q (let lt : i.place < suc q = e.1 in let ne : q ≢ i.place = other.1 in omega arith)
          ]
    ]
  where
    past : (q : ℕ) → i.place < q → At s old new i.place q
    past zero less = absurd (omega arith)
    past (suc q) less = old_one q (i.behind q (omega arith)) (inr (less, omega arith))

or_false : (a b : Bool) → (a || b) ≡ false → (a ≡ false) × (b ≡ false)
or_false true b e = absurd (cc)
or_false false b e = (refl, e)

-- a stream that isn't used is none of these
not_there : (id : ℕ) (streams : List Stream) → is_used id streams ≡ false → (q : ℕ) → q < length streams → (stream_at streams q).id ≢ id
not_there id [] none q below = absurd (omega arith)
not_there id (s ∷ streams) none zero below =
    elim (eqb_tells s.id id) [
      | inl e ↦ (let clash : true ≡ false = sym e.0 ∙ (or_false (s.id == id) (is_used id streams) none).0 in absurd (cc))
      | inr e ↦ e.1
    ]
not_there id (s ∷ streams) none (suc q) below = not_there id streams (or_false (s.id == id) (is_used id streams) none).1 q (omega arith)

pub empty_unbegun : (place : ℕ) (s : Stream) → s.messages ≡ [] → AllBeyond place (unbegun s)
empty_unbegun place s none = go (is_some s.under_way)
  where
    go : (b : Bool) → AllBeyond place (drop (if b then 1 else 0) s.messages)
    go true = subst (λ (l : List Waiting). AllBeyond place (drop 1 l)) (sym none) tt
    go false = none_beyond place s.messages none

-- what was sent of messages under way
pub size_inserted : (s : Stream) (streams : List Stream) → s.under_way ≡ None → under_way_size (with_stream s streams) ≡ under_way_size streams
size_inserted s [] idle = (let light : progress_size s.under_way ≡ 0 = ap progress_size idle in let one = size_first s [] in omega (arith, light, one))
size_inserted s (first ∷ streams) idle = go (nat_lt first.id s.id) (size_inserted s streams idle)
  where
    light : progress_size s.under_way ≡ 0
    light = ap progress_size idle

    go : (b : Bool) → under_way_size (with_stream s streams) ≡ under_way_size streams → under_way_size (if b then first ∷ with_stream s streams else s ∷ first ∷ streams) ≡ under_way_size (first ∷ streams)
    go true rest = (let before = size_first first streams in let after = size_first first (with_stream s streams) in omega (arith, rest, before, after))
    go false rest = (let after = size_first s (first ∷ streams) in omega (arith, light, after))

-- a new stream without messages
module _ (queued : List Message) (log : List Slot) (s : Stream) (old new : List Stream) (i : Inserted s old new) (none : s.messages ≡ []) (idle : s.under_way ≡ None) (fresh : (q : ℕ) → q < length old → (stream_at old q).id ≢ s.id) where
  inserted_hold : s.id < 2 ^ 16 → weight new ≡ weight old → under_way_size new ≡ under_way_size old → HoldsQueued queued log old → HoldsQueued queued log new
  inserted_hold fits same_weight same_size queue_holds =
      record {
        wait = wait;
        ascend = ascend;
        beyond = beyond;
        distinct = distinct;
        small = small;
        going = going;
        room = (let room = queue_holds.room in record { whole = omega (arith, room.whole, same_weight); count = omega (arith, room.count, same_weight, same_size) });
      }
    where
      wait : (q : ℕ) → AllQueued queued (stream_at new q).id (stream_at new q).messages
      wait q =
          elim (stands_at s old new i q) [
            | new_one at e ↦ subst (λ (t : Stream). AllQueued queued t.id t.messages) (sym e) (subst (λ (l : List Waiting). AllQueued queued s.id l) (sym none) tt)
            | old_one k e at ↦ subst (λ (t : Stream). AllQueued queued t.id t.messages) (sym e) (queue_holds.wait k)
          ]

      ascend : (q : ℕ) → Ascend (stream_at new q).messages
      ascend q =
          elim (stands_at s old new i q) [
            | new_one at e ↦ subst (λ (t : Stream). Ascend t.messages) (sym e) (subst (λ (l : List Waiting). Ascend l) (sym none) tt)
            | old_one k e at ↦ subst (λ (t : Stream). Ascend t.messages) (sym e) (queue_holds.ascend k)
          ]

      beyond : (q n : ℕ) (f : Piece) → at_place n log ≡ Some (Some f) → f.message.stream ≡ (stream_at new q).id → AllBeyond f.place (unbegun (stream_at new q))
      beyond q n f at of =
          elim (stands_at s old new i q) [
            | new_one here e ↦ empty_unbegun f.place (stream_at new q) (ap (λ (t : Stream). t.messages) e ∙ none)
            | old_one k e here ↦ subst (λ (t : Stream). AllBeyond f.place (unbegun t)) (sym e) (queue_holds.beyond k n f at (of ∙ ap (λ (t : Stream). t.id) e))
          ]

      going : (q : ℕ) → Going queued log (stream_at new q) (stream_at new q).under_way
      going q =
          elim (stands_at s old new i q) [
            | new_one at e ↦ subst (λ (u : Option UnderWay). Going queued log (stream_at new q) u) (sym (ap (λ (t : Stream). t.under_way) e ∙ idle)) tt
            | old_one k e at ↦ subst (λ (t : Stream). Going queued log t t.under_way) (sym e) (queue_holds.going k)
          ]

      small : (q : ℕ) → (stream_at new q).id < 2 ^ 16
      small q =
          elim (stands_at s old new i q) [
            | new_one at e ↦ subst (λ (t : Stream). t.id < 2 ^ 16) (sym e) fits
            | old_one k e at ↦ subst (λ (t : Stream). t.id < 2 ^ 16) (sym e) (queue_holds.small k)
          ]

      distinct : (p q : ℕ) → p < length new → q < length new → (stream_at new p).id ≡ (stream_at new q).id → p ≡ q
      distinct p q below below' same =
          elim (stands_at s old new i p) [
            | new_one at e ↦
                elim (stands_at s old new i q) [
                  | new_one at' e' ↦ at ∙ sym at'
                  | old_one k e' at' ↦
                      absurd (fresh k (inside k q below' at') (ap (λ (t : Stream). t.id) (sym e') ∙ sym same ∙ ap (λ (t : Stream). t.id) e))
                ]
            | old_one j e at ↦
                elim (stands_at s old new i q) [
                  | new_one at' e' ↦ absurd (fresh j (inside j p below at) (ap (λ (t : Stream). t.id) (sym e) ∙ same ∙ ap (λ (t : Stream). t.id) e'))
                  | old_one k e' at' ↦
                      (let both : j ≡ k = queue_holds.distinct j k (inside j p below at) (inside k q below' at') (ap (λ (t : Stream). t.id) (sym e) ∙ same ∙ ap (λ (t : Stream). t.id) e') in
                      same_place j k p q both at at')
                ]
          ]
        where
          inside : (k q : ℕ) → q < length new → ((q < i.place) × (k ≡ q)) ⊎ ((i.place < q) × (k + 1 ≡ q)) → k < length old
          inside k q below at = elim at [ inl e ↦ omega (arith, e.0, e.1, i.within) | inr e ↦ omega (arith, e.1, i.sizes) ]

          same_place : (j k p q : ℕ) → j ≡ k → ((p < i.place) × (j ≡ p)) ⊎ ((i.place < p) × (j + 1 ≡ p)) → ((q < i.place) × (k ≡ q)) ⊎ ((i.place < q) × (k + 1 ≡ q)) → p ≡ q
          same_place j k p q both at at' =
              elim at [
                | inl e ↦ elim at' [ inl e' ↦ omega (arith, e.1, e'.1, both) | inr e' ↦ absurd (omega (arith, e.0, e.1, e'.0, e'.1, both)) ]
                | inr e ↦ elim at' [ inl e' ↦ absurd (omega (arith, e.0, e.1, e'.0, e'.1, both)) | inr e' ↦ omega (arith, e.1, e'.1, both) ]
              ]

pub used_hold : (queued : List Message) (log : List Slot) (queue : SendQueueState) (id : ℕ) → id < 2 ^ 16 → HoldsQueued queued log queue.streams → HoldsQueued queued log (used_streams queue id)
used_hold queued log queue id fits queue_holds = go (is_used id queue.streams) refl
  where
    s : Stream
    s = unused_stream id queue.default_priority queue.default_threshold

    go : (b : Bool) → is_used id queue.streams ≡ b → HoldsQueued queued log (if b then queue.streams else with_stream s queue.streams)
    go true is = queue_holds
    go false is =
        inserted_hold queued log s queue.streams (with_stream s queue.streams) (inserted s queue.streams) refl refl (not_there id queue.streams is) fits (weight_inserted s queue.streams refl) (size_inserted s queue.streams refl) queue_holds
