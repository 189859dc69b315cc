-- Which stream comes next.
use Rattle.std.proofs.Common.{◌≡◌, ◌==◌, ℕ, zero, suc, ◌-◌, ◌+◌, ◌<◌, Bool, true, false, not, if◌then◌else◌, Option, None, Some, Err, ◌⊎◌, inl, inr, List, [], ◌∷◌, length, get_or, refl, sym, ap, subst, ◌∙◌, arith}
use Rattle.std.specs.List.{list_any}
use Rattle.std.specs.Prelude.{nat_lt, is_some}
use borrow.Author.Tests.{ltb-true, ltb-false}
use Rattle.dcsctp_api.specs.types.declared.sending.Turn.{Turn}
use Rattle.dcsctp_api.specs.types.declared.sending.Pause.{Pause}
use Rattle.dcsctp_api.specs.types.declared.sending.Pause.TheVariants.{Open, Pausing, HandedOut}
use Rattle.dcsctp_api.specs.types.queues.SendStreams.{comes_after, with_turn, with_optional_turn, Stream, committed_stream, rolled_back, stream_at, turn_of, turns_of, IsNext, IsAscending}
use Rattle.dcsctp_send_queue.specs.Turns.{NoneAfter, IsOrdered}
use Rattle.dcsctp_send_queue.specs.Ranking.{IsRanked, IsFound}
use Rattle.dcsctp_send_queue.proofs.TurnLemmas.{itself}
use Rattle.dcsctp_send_queue.proofs.StreamLemmas.{IsBelow-at, turn_of-id, IsOrdered-turns_of}

abbrev pub In : Turn → List Turn → Type 0
In t [] = ⊥
In t (x ∷ xs) = (x ≡ t) ⊎ In t xs

pub in_at : (t u x : Turn) (xs : List Turn) (b : Bool) → ((u ≡ t) ⊎ In t xs → In t (with_turn u xs)) → (u ≡ t) ⊎ ((x ≡ t) ⊎ In t xs) → In t (if b then x ∷ with_turn u xs else u ∷ x ∷ xs)
in_at t u x xs true ih (inl e) = inr (ih (inl e))
in_at t u x xs true ih (inr (inl e)) = inl e
in_at t u x xs true ih (inr (inr m)) = inr (ih (inr m))
in_at t u x xs false ih (inl e) = inl e
in_at t u x xs false ih (inr m) = inr m

pub In-with_turn : (t u : Turn) (turns : List Turn) → (u ≡ t) ⊎ In t turns → In t (with_turn u turns)
In-with_turn t u [] m = m
In-with_turn t u (x ∷ xs) m = in_at t u x xs (comes_after x u) (In-with_turn t u xs) m

pub out_at : (t u x : Turn) (xs : List Turn) (b : Bool) → (In t (with_turn u xs) → (u ≡ t) ⊎ In t xs) → In t (if b then x ∷ with_turn u xs else u ∷ x ∷ xs) → (u ≡ t) ⊎ ((x ≡ t) ⊎ In t xs)
out_at t u x xs true ih (inl e) = inr (inl e)
out_at t u x xs true ih (inr m) = elim (ih m) as (λ z. (u ≡ t) ⊎ ((x ≡ t) ⊎ In t xs)) [ inl e ↦ inl e | inr n ↦ inr (inr n) ]
out_at t u x xs false ih (inl e) = inl e
out_at t u x xs false ih (inr m) = inr m

pub In-out : (t u : Turn) (turns : List Turn) → In t (with_turn u turns) → (u ≡ t) ⊎ In t turns
In-out t u [] m = m
In-out t u (x ∷ xs) m = out_at t u x xs (comes_after x u) (In-out t u xs) m

pub in_turns : (t : Turn) (turn : Option Turn) (turns : List Turn) → turn ≡ Some t → In t (with_optional_turn turn turns)
in_turns t None turns e = cc
in_turns t (Some u) turns e = In-with_turn t u turns (inl (cc))

pub still_in : (t : Turn) (turn : Option Turn) (turns : List Turn) → In t turns → In t (with_optional_turn turn turns)
still_in t None turns m = m
still_in t (Some u) turns m = In-with_turn t u turns (inr m)

-- each stream's turn is one of the turns
pub In-turns_of : (streams : List Stream) (k : ℕ) (t : Turn) → k < length streams → turn_of (stream_at streams k) ≡ Some t → In t (turns_of streams)
In-turns_of [] k t lt e = absurd (omega arith)
In-turns_of (x ∷ xs) zero t lt e = in_turns t (turn_of x) (turns_of xs) e
In-turns_of (x ∷ xs) (suc k) t lt e = still_in t (turn_of x) (turns_of xs) (In-turns_of xs k t (omega arith) e)

-- a turn is that of a stream
pub record IsTurnAt (streams : List Stream) (t : Turn) : Type 0 where
  pub place : ℕ
  pub within : place < length streams
  pub is : turn_of (stream_at streams place) ≡ Some t

pub later_turn : (x : Stream) (xs : List Stream) (t : Turn) → IsTurnAt xs t → IsTurnAt (x ∷ xs) t
later_turn x xs t h = record { place = suc h.place; within = let w = h.within in omega (arith, w); is = h.is }

pub turn_in : (x : Stream) (xs : List Stream) (t : Turn) (turn : Option Turn) → turn_of x ≡ turn → (In t (turns_of xs) → IsTurnAt xs t) → In t (with_optional_turn turn (turns_of xs)) → IsTurnAt (x ∷ xs) t
turn_in x xs t None e ih m = later_turn x xs t (ih m)
turn_in x xs t (Some u) e ih m =
    elim (In-out t u (turns_of xs) m) as (λ z. IsTurnAt (x ∷ xs) t) [
      | inl same ↦ record { place = 0; within = omega arith; is = e ∙ ap (λ v. Some v) same }
      | inr n ↦ later_turn x xs t (ih n)
    ]

pub turn_at : (streams : List Stream) (t : Turn) → In t (turns_of streams) → IsTurnAt streams t
turn_at [] t m = elim m [ ]
turn_at (x ∷ xs) t m = turn_in x xs t (turn_of x) refl (turn_at xs t) m

pub In-get_or : (turns : List Turn) (k : ℕ) (d : Turn) → k < length turns → In (get_or turns k d) turns
In-get_or [] k d lt = absurd (omega arith)
In-get_or (x ∷ xs) zero d lt = inl refl
In-get_or (x ∷ xs) (suc k) d lt = inr (In-get_or xs k d (omega arith))

pub after_none : (x t other : Turn) (xs : List Turn) → NoneAfter x xs → In t xs → other ≡ x → comes_after t other ≡ false
after_none x t other [] none m e = elim m [ ]
after_none x t other (y ∷ ys) none (inl same) e = rw (e, ← same) none.0
after_none x t other (y ∷ ys) none (inr m) e = after_none x t other ys none.1 m e

-- the last turn comes after none
pub last_is_first : (turns : List Turn) (k : ℕ) (t d other : Turn) → IsOrdered turns → k + 1 ≡ length turns → t ≡ get_or turns k d → In other turns → comes_after t other ≡ false
last_is_first [] k t d other ordered is e m = absurd (omega arith)
last_is_first (x ∷ []) zero t d other ordered is e (inl same) = rw (e, ← same) (itself x)
last_is_first (x ∷ []) zero t d other ordered is e (inr m) = elim m [ ]
last_is_first (x ∷ []) (suc k) t d other ordered is e m = absurd (omega arith)
last_is_first (x ∷ (y ∷ ys)) zero t d other ordered is e m = absurd (omega arith)
last_is_first (x ∷ (y ∷ ys)) (suc k) t d other ordered is e (inl same) =
    after_none x t other (y ∷ ys) ordered.0 (let P : Turn → Type 0 = λ z. In z (y ∷ ys) in subst P (sym e) (In-get_or (y ∷ ys) k d (omega arith))) (sym same)
last_is_first (x ∷ (y ∷ ys)) (suc k) t d other ordered is e (inr m) = last_is_first (y ∷ ys) k t d other ordered.1 (omega arith) e m

-- streams of one number have one place
pub same_place : (streams : List Stream) (j k : ℕ) → IsAscending streams → j < length streams → k < length streams → (stream_at streams j).id ≡ (stream_at streams k).id → j ≡ k
same_place [] j k ascending lj lk e = absurd (omega arith)
same_place (x ∷ xs) zero zero ascending lj lk e = refl
same_place (x ∷ xs) zero (suc k) ascending lj lk e = let b = IsBelow-at x.id xs k ascending.0 (omega arith) in absurd (omega (arith, b, e))
same_place (x ∷ xs) (suc j) zero ascending lj lk e = let b = IsBelow-at x.id xs j ascending.0 (omega arith) in absurd (omega (arith, b, e))
same_place (x ∷ xs) (suc j) (suc k) ascending lj lk e = let r = same_place xs j k ascending.1 (omega arith) (omega arith) e in omega (arith, r)

pub absent_by : (streams : List Stream) (id p k n : ℕ) → IsFound streams id (Err p) → k < length streams → (stream_at streams k).id ≡ id → (b : Bool) → nat_lt k p ≡ b → ⊥
absent_by streams id p k n lost lt e true h = let less = lost.1 k (ltb-true _ _ h) in omega (arith, less, e)
absent_by streams id p k n lost lt e false h = let less = lost.2 k (ltb-false _ _ h) lt in omega (arith, less, e)

-- a search that ended without a stream passed none of its number
pub absent_at : (streams : List Stream) (id p k : ℕ) → IsFound streams id (Err p) → k < length streams → (stream_at streams k).id ≡ id → ⊥
absent_at streams id p k lost lt e = absent_by streams id p k 0 lost lt e (nat_lt k p) refl

-- what is last among the turns is the first in turn
pub next_at : (streams : List Stream) (turns : List Turn) (room p : ℕ) (t : Turn) → IsRanked streams turns room → 0 < length turns → t ≡ get_or turns (length turns - 1) t
    → p < length streams → (stream_at streams p).id ≡ t.stream_id.0 → IsNext streams p
next_at streams turns room p t ranked some e within same =
    let inside : t ≡ get_or (turns_of streams) (length (turns_of streams) - 1) t = rw ranked.are at e in
    let more : 0 < length (turns_of streams) = rw ranked.are at some in
    let P : Turn → Type 0 = λ z. In z (turns_of streams) in
    let member : In t (turns_of streams) = subst P (sym inside) (In-get_or (turns_of streams) (length (turns_of streams) - 1) t (omega arith)) in
    let found = turn_at streams t member in
    let number = turn_of-id (stream_at streams found.place) t found.is in
    let place : found.place ≡ p = same_place streams found.place p ranked.ascending found.within within (sym number ∙ sym same) in
    record {
      turn = t;
      within = within;
      is = ap (λ k. turn_of (stream_at streams k)) (sym place) ∙ found.is;
      first = λ k other lt is. last_is_first (turns_of streams) (length (turns_of streams) - 1) t t other (IsOrdered-turns_of streams) (omega arith) inside (In-turns_of streams k other lt is);
    }

-- a turn's stream is found
pub not_lost : (streams : List Stream) (turns : List Turn) (room p : ℕ) (t : Turn) → IsRanked streams turns room → 0 < length turns → t ≡ get_or turns (length turns - 1) t
    → IsFound streams t.stream_id.0 (Err p) → ⊥
not_lost streams turns room p t ranked some e lost =
    let inside : t ≡ get_or (turns_of streams) (length (turns_of streams) - 1) t = rw ranked.are at e in
    let more : 0 < length (turns_of streams) = rw ranked.are at some in
    let P : Turn → Type 0 = λ z. In z (turns_of streams) in
    let member : In t (turns_of streams) = subst P (sym inside) (In-get_or (turns_of streams) (length (turns_of streams) - 1) t (omega arith)) in
    let found = turn_at streams t member in
    let number = turn_of-id (stream_at streams found.place) t found.is in
    absent_at streams t.stream_id.0 p found.place lost found.within (sym number)

pub committed_if : (pause : Pause) (s : Stream) → s.pause ≡ pause → (committed_stream s).id ≡ s.id
committed_if Open s e = rw e refl
committed_if Pausing s e = rw e refl
committed_if HandedOut s e = rw e refl

pub committed_stream-id : (s : Stream) → (committed_stream s).id ≡ s.id
committed_stream-id s = committed_if s.pause s refl

pub rolled_back_if : (pause : Pause) (s : Stream) → s.pause ≡ pause → (rolled_back s).id ≡ s.id
rolled_back_if Open s e = rw e refl
rolled_back_if Pausing s e = rw e refl
rolled_back_if HandedOut s e = rw e refl

pub rolled_back-id : (s : Stream) → (rolled_back s).id ≡ s.id
rolled_back-id s = rolled_back_if s.pause s refl

pub in_not_empty : (t : Turn) (turns : List Turn) → In t turns → turns ≡ [] → ⊥
in_not_empty t [] m e = m
in_not_empty t (x ∷ xs) m e = cc

pub any_turn_by : (x : Stream) (xs : List Stream) (turn : Option Turn) → turn_of x ≡ turn → (list_any (λ s. is_some (turn_of s)) xs ≡ false → turns_of xs ≡ []) → list_any (λ s. is_some (turn_of s)) (x ∷ xs) ≡ false → turns_of (x ∷ xs) ≡ []
any_turn_by x xs None e ih h = rw e (ih (rw e at h))
any_turn_by x xs (Some t) e ih h = let g = rw e at h in cc

-- where no stream has its turn, there are none
pub no_turns : (streams : List Stream) → list_any (λ s. is_some (turn_of s)) streams ≡ false → turns_of streams ≡ []
no_turns [] h = refl
no_turns (x ∷ xs) h = any_turn_by x xs (turn_of x) refl (no_turns xs) h

pub some_turn_by : (x : Stream) (xs : List Stream) (turn : Option Turn) → turn_of x ≡ turn → (list_any (λ s. is_some (turn_of s)) xs ≡ true → (t : Turn) × In t (turns_of xs)) → list_any (λ s. is_some (turn_of s)) (x ∷ xs) ≡ true → (t : Turn) × In t (turns_of (x ∷ xs))
some_turn_by x xs None e ih h = let m = ih (rw e at h) in (m.0, still_in m.0 (turn_of x) (turns_of xs) m.1)
some_turn_by x xs (Some t) e ih h = (t, in_turns t (turn_of x) (turns_of xs) e)

pub some_turn : (streams : List Stream) → list_any (λ s. is_some (turn_of s)) streams ≡ true → (t : Turn) × In t (turns_of streams)
some_turn [] h = absurd (cc)
some_turn (x ∷ xs) h = some_turn_by x xs (turn_of x) refl (some_turn xs) h

-- where a stream has its turn, there is one
pub some_turns : (streams : List Stream) → list_any (λ s. is_some (turn_of s)) streams ≡ true → turns_of streams ≡ [] → ⊥
some_turns streams h e = let m = some_turn streams h in in_not_empty m.0 (turns_of streams) m.1 e

-- Whether there are turns says whether a stream may begin a message.
pub has_any_by : (streams : List Stream) (turns : List Turn) (b c : Bool) → turns ≡ turns_of streams → b ≡ (length turns == 0) → list_any (λ s. is_some (turn_of s)) streams ≡ c → not b ≡ c
has_any_by streams [] b true are empty h = absurd (some_turns streams h (sym are))
has_any_by streams [] b false are empty h = ap not empty
has_any_by streams (turn ∷ turns) false true are empty h = refl
has_any_by streams (turn ∷ turns) true true are empty h = absurd (grind arith)
has_any_by streams (turn ∷ turns) b false are empty h = absurd (cc (are, no_turns streams h))

pub has_any : (streams : List Stream) (turns : List Turn) (b : Bool) → turns ≡ turns_of streams → b ≡ (length turns == 0) → not b ≡ list_any (λ s. is_some (turn_of s)) streams
has_any streams turns b are empty = has_any_by streams turns b (list_any (λ s. is_some (turn_of s)) streams) are empty refl

pub none_any : (streams : List Stream) → turns_of streams ≡ [] → false ≡ list_any (λ s. is_some (turn_of s)) streams
none_any streams none = has_any streams [] true (sym none) refl
