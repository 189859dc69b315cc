-- Streams by their numbers.
use Rattle.std.proofs.Common.{◌≡◌, ◌≢◌, ◌==◌, ℕ, zero, suc, Bool, true, false, ◌<◌, List, [], ◌∷◌, length, map, refl, sym, ◌∙◌, ap, arith, subst, inl, inr}
use Rattle.std.specs.Prelude.{◌||◌, ◌⊎◌, None, is_some, nat_lt, slice_set, if◌then◌else◌}
use Rattle.std.proofs.lemmas.Bool.Decides.{eqb_tells}
use Rattle.dcsctp_spec.specs.types.queues.SendStreams.{Stream, stream_at, unused_stream, next_numbers}
use Rattle.dcsctp_spec.specs.queues.SendQueue.{SendQueueState, stream_found, with_stream, is_used, used_streams}
use Rattle.dcsctp_delivery_directions.specs.sending.Numbers.{stream_named}

-- Neither stream was ever used.
pub record AreUnused (s t : Stream) : Type 0 where
  pub unordered : next_numbers true s ≡ next_numbers true t
  pub ordered : next_numbers false s ≡ next_numbers false t
  pub none : s.messages ≡ []
  pub none_then : t.messages ≡ []
  pub pause : t.pause ≡ s.pause
  pub idle : s.under_way ≡ None
  pub idle_then : t.under_way ≡ None

-- Whatever holds of each stream and what becomes of it, holds of the one that is found.
module _ (P : Stream → Stream → Type 0) (id : ℕ) where
  pub found_mapped : (d : Stream) (f : Stream → Stream) → ((s : Stream) → (f s).id ≡ s.id) → P d d → ((s : Stream) → s.id ≡ id → P s (f s)) → (streams : List Stream) → P (stream_found d id streams) (stream_found d id (map f streams))
  found_mapped d f same none each [] = none
  found_mapped d f same none each (s ∷ streams) =
      elim (eqb_tells s.id id) [
        | inl e ↦ rw e.0 (rw (ap (λ (k : ℕ). k == id) (same s) ∙ e.0) (each s e.1))
        | inr e ↦ rw e.0 (rw (ap (λ (k : ℕ). k == id) (same s) ∙ e.0) (found_mapped d f same none each streams))
      ]

  pub found_set : (d : Stream) (new : Stream) → ((s : Stream) → P s s) → (place : ℕ) (streams : List Stream) → new.id ≡ (stream_at streams place).id → (new.id ≡ id → P (stream_at streams place) new)
      → P (stream_found d id streams) (stream_found d id (slice_set streams place new))
  found_set d new each zero [] is there = each d
  found_set d new each (suc place) [] is there = each d
  found_set d new each zero (s ∷ streams) is there =
      elim (eqb_tells s.id id) [
        | inl e ↦ rw e.0 (rw (ap (λ (k : ℕ). k == id) is ∙ e.0) (there (is ∙ e.1)))
        | inr e ↦ rw e.0 (rw (ap (λ (k : ℕ). k == id) is ∙ e.0) (each (stream_found d id streams)))
      ]
  found_set d new each (suc place) (s ∷ streams) is there =
      elim (eqb_tells s.id id) [
        | inl e ↦ rw e.0 (each s)
        | inr e ↦ rw e.0 (found_set d new each place streams is there)
      ]

  found_inserted : (d : Stream) (new : Stream) → ((s : Stream) → P s s) → P d new → (streams : List Stream) → is_used new.id streams ≡ false → P (stream_found d id streams) (stream_found d id (with_stream new streams))
  found_inserted d new each fresh [] none =
      elim (eqb_tells new.id id) [
        | inl e ↦ rw e.0 fresh
        | inr e ↦ rw e.0 (each d)
      ]
  found_inserted d new each fresh (s ∷ streams) none = go (nat_lt s.id new.id) (λ missing'. found_inserted d new each fresh streams missing')
    where
      apart : (a b : Bool) → (a || b) ≡ false → (a ≡ false) × (b ≡ false)
      apart true b e = absurd (cc)
      apart false b e = (refl, e)

      other : s.id ≢ new.id
      other = λ same. elim (eqb_tells s.id new.id) [
        | inl e ↦ (let clash : true ≡ false = sym e.0 ∙ (apart (s.id == new.id) (is_used new.id streams) none).0 in absurd (cc))
        | inr e ↦ e.1 same
      ]

      missing : (l : List Stream) → is_used id l ≡ false → stream_found d id l ≡ d
      missing [] e = refl
      missing (t ∷ l) e = rw (apart (t.id == id) (is_used id l) e).0 (missing l (apart (t.id == id) (is_used id l) e).1)

      go : (b : Bool) → (is_used new.id streams ≡ false → P (stream_found d id streams) (stream_found d id (with_stream new streams))) → P (stream_found d id (s ∷ streams)) (stream_found d id (if b then s ∷ with_stream new streams else new ∷ s ∷ streams))
      go true rest =
          elim (eqb_tells s.id id) [
            | inl e ↦ rw e.0 (each s)
            | inr e ↦ rw e.0 (rest (apart (s.id == new.id) (is_used new.id streams) none).1)
          ]
      go false rest =
          elim (eqb_tells new.id id) [
            | inl e ↦ rw e.0 (subst (λ (x : Stream). P x new) (sym (missing (s ∷ streams) (subst (λ (k : ℕ). is_used k (s ∷ streams) ≡ false) e.1 none))) fresh)
            | inr e ↦ rw e.0 (each (stream_found d id (s ∷ streams)))
          ]

  pub found_used : (queue : SendQueueState) (other : ℕ) → ((s : Stream) → P s s) → ((s t : Stream) → AreUnused s t → P s t)
      → P (stream_named id queue.streams) (stream_named id (used_streams queue other))
  found_used queue other each fresh = go (is_used other queue.streams) refl
    where
      go : (b : Bool) → is_used other queue.streams ≡ b
          → P (stream_named id queue.streams) (stream_named id (if b then queue.streams else with_stream (unused_stream other queue.default_priority queue.default_threshold) queue.streams))
      go true e = each (stream_named id queue.streams)
      go false e = found_inserted (unused_stream 0 0 0) (unused_stream other queue.default_priority queue.default_threshold) each (fresh (unused_stream 0 0 0) (unused_stream other queue.default_priority queue.default_threshold)
          (record { unordered = refl; ordered = refl; none = refl; none_then = refl; pause = refl; idle = refl; idle_then = refl })) queue.streams e

-- the first stream with a number is the one at this place, if numbers are distinct
pub found_at : (d : Stream) (place : ℕ) (streams : List Stream) → place < length streams
    → ((p q : ℕ) → p < length streams → q < length streams → (stream_at streams p).id ≡ (stream_at streams q).id → p ≡ q)
    → stream_found d (stream_at streams place).id streams ≡ stream_at streams place
found_at d place [] within distinct = absurd (omega arith)
found_at d zero (s ∷ streams) within distinct = elim (eqb_tells s.id s.id) [ inl e ↦ rw e.0 refl | inr e ↦ absurd (e.1 refl) ]
found_at d (suc place) (s ∷ streams) within distinct =
    elim (eqb_tells s.id (stream_at streams place).id) [
      | inl e ↦ (let clash : zero ≡ suc place = distinct zero (suc place) (omega arith) within e.1 in absurd (omega arith))
      | inr e ↦ rw e.0 (found_at d place streams (omega arith) (λ p q below below' same. (let is : suc p ≡ suc q = distinct (suc p) (suc q) (omega arith) (omega arith) same in omega arith)))
    ]

-- the stream that is found is at some place, or is the default
pub found_place : (d : Stream) (id : ℕ) (streams : List Stream) → ((q : ℕ) × (q < length streams) × ((stream_at streams q).id ≡ id) × (stream_found d id streams ≡ stream_at streams q)) ⊎ (stream_found d id streams ≡ d)
found_place d id [] = inr refl
found_place d id (s ∷ streams) =
    elim (eqb_tells s.id id) [
      | inl e ↦ inl (zero, omega arith, e.1, rw e.0 refl)
      | inr e ↦
          elim (found_place d id streams) [
            | inl t ↦ (let (q, within, is, same) = t in inl (suc q, omega (arith, within), is, rw e.0 same))
            | inr none ↦ inr (rw e.0 none)
          ]
    ]

-- a stream with a message under way is at some place
pub named_place : (id : ℕ) (streams : List Stream) → is_some (stream_named id streams).under_way ≡ true → (q : ℕ) × (q < length streams) × ((stream_at streams q).id ≡ id) × (stream_named id streams ≡ stream_at streams q)
named_place id streams some =
    elim (found_place (unused_stream 0 0 0) id streams) [
      | inl t ↦ t
      | inr none ↦ (let clash : false ≡ true = sym (ap (λ (s : Stream). is_some s.under_way) none) ∙ some in absurd (cc))
    ]

-- what streams of no list have in common, the one that is found has
pub found_default : {A : Type 0} (its : Stream → A) (d e : Stream) → its d ≡ its e → (id : ℕ) (streams : List Stream) → its (stream_found d id streams) ≡ its (stream_found e id streams)
found_default its d e same id [] = same
found_default its d e same id (s ∷ streams) =
    elim (eqb_tells s.id id) [
      | inl t ↦ rw t.0 refl
      | inr t ↦ rw t.0 (found_default its d e same id streams)
    ]

-- each stream is changed, so the one that is found is
pub found_map : (d : Stream) (f : Stream → Stream) → ((s : Stream) → (f s).id ≡ s.id) → f d ≡ d → (id : ℕ) (streams : List Stream) → stream_found d id (map f streams) ≡ f (stream_found d id streams)
found_map d f same none id [] = sym none
found_map d f same none id (s ∷ streams) =
    elim (eqb_tells s.id id) [
      | inl e ↦ rw e.0 (rw (ap (λ (k : ℕ). k == id) (same s) ∙ e.0) refl)
      | inr e ↦ rw e.0 (rw (ap (λ (k : ℕ). k == id) (same s) ∙ e.0) (found_map d f same none id streams))
    ]

-- what each stream keeps, the one at a place keeps
pub at_mapped : {A : Type 0} (its : Stream → A) (f : Stream → Stream) → ((s : Stream) → its (f s) ≡ its s) → (streams : List Stream) (q : ℕ) → its (stream_at (map f streams) q) ≡ its (stream_at streams q)
at_mapped its f same [] zero = refl
at_mapped its f same [] (suc q) = refl
at_mapped its f same (s ∷ streams) zero = same s
at_mapped its f same (s ∷ streams) (suc q) = at_mapped its f same streams q

pub size_mapped : (f : Stream → Stream) (streams : List Stream) → length (map f streams) ≡ length streams
size_mapped f [] = refl
size_mapped f (s ∷ streams) = ap suc (size_mapped f streams)
