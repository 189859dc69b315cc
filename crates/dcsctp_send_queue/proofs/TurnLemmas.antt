-- Turns in order.
use Rattle.std.proofs.Common.{◌≡◌, ◌≢◌, ℕ, zero, suc, below_more, ◌-◌, ◌+◌, ◌<◌, ◌≤◌, Bool, true, false, if◌then◌else◌, List, [], ◌∷◌, length, get_or, refl, sym, ap, arith}
use Rattle.std.proofs.lemmas.Bool.Decides.{nat_tests}
use Rattle.std.specs.List.{insert, remove}
use Rattle.dcsctp_api.specs.types.declared.sending.Turn.{Turn}
use Rattle.dcsctp_api.specs.types.queues.SendStreams.{comes_after, with_turn}
use Rattle.dcsctp_send_queue.specs.Turns.{NoneAfter, IsOrdered, IsTurnPlace}

-- no two come after each other
pub not_both_after : (a b : Turn) → comes_after a b ≡ true → comes_after b a ≡ false
not_both_after a b h = grind (arith, nat_tests)

-- what comes after one comes after all that don't
pub comes_after-trans : (z y t : Turn) → comes_after z t ≡ true → comes_after y t ≡ false → comes_after z y ≡ true
comes_after-trans z y t h g = grind (arith, nat_tests)

-- of two streams one comes after the other
pub same_turn : (a b : Turn) → comes_after a b ≡ false → comes_after b a ≡ false → a.stream_id.0 ≡ b.stream_id.0
same_turn a b h g = grind (arith, nat_tests)

NoneAfter-at : (turn : Turn) (turns : List Turn) (k : ℕ) (d : Turn) → NoneAfter turn turns → k < length turns → comes_after (get_or turns k d) turn ≡ false
NoneAfter-at turn [] k d none lt = absurd (omega arith)
NoneAfter-at turn (other ∷ turns) zero d none lt = none.0
NoneAfter-at turn (other ∷ turns) (suc k) d none lt = NoneAfter-at turn turns k d none.1 (omega arith)

-- no later turn comes after an earlier one
pub ordered_at : (turns : List Turn) (i j : ℕ) (d : Turn) → IsOrdered turns → i < j → j < length turns → comes_after (get_or turns j d) (get_or turns i d) ≡ false
ordered_at [] i j d ordered lt within = absurd (omega arith)
ordered_at (turn ∷ turns) zero zero d ordered lt within = absurd (omega arith)
ordered_at (turn ∷ turns) zero (suc j) d ordered lt within = NoneAfter-at turn turns j d ordered.0 (omega arith)
ordered_at (turn ∷ turns) (suc i) zero d ordered lt within = absurd (omega arith)
ordered_at (turn ∷ turns) (suc i) (suc j) d ordered lt within = ordered_at turns i j d ordered.1 (omega arith) (omega arith)

below_by : (z y t : Turn) (b : Bool) → comes_after z t ≡ true → comes_after z y ≡ false → comes_after y t ≡ b → b ≡ true
below_by z y t true h g e = refl
below_by z y t false h g e = let c = comes_after-trans z y t h e in cc

-- what comes before a turn that is asked after another is so too
pub below_too : (turns : List Turn) (t d : Turn) (m : ℕ) → IsOrdered turns → m < length turns → comes_after (get_or turns m d) t ≡ true → (k : ℕ) → k < m → comes_after (get_or turns k d) t ≡ true
below_too turns t d m ordered within h k lt =
    let e : comes_after (get_or turns k d) t ≡ comes_after (get_or turns k d) t = refl in
    let g = ordered_at turns k m d ordered lt within in
    let r = below_by (get_or turns m d) (get_or turns k d) t (comes_after (get_or turns k d) t) h g e in r

above_by : (z y t : Turn) (b : Bool) → comes_after z t ≡ false → comes_after y z ≡ false → comes_after y t ≡ b → b ≡ false
above_by z y t false h g e = refl
above_by z y t true h g e = let c = comes_after-trans y z t e h in cc

-- if a turn of the list doesn't come after another turn, neither does any later one
pub above_too : (turns : List Turn) (t d : Turn) (m : ℕ) → IsOrdered turns → comes_after (get_or turns m d) t ≡ false → (k : ℕ) → m < k → k < length turns → comes_after (get_or turns k d) t ≡ false
above_too turns t d m ordered h k lt within =
    let g = ordered_at turns m k d ordered lt within in
    above_by (get_or turns m d) (get_or turns k d) t (comes_after (get_or turns k d) t) h g refl

rest_is_place : (x t : Turn) (xs : List Turn) (p : ℕ) → IsTurnPlace (x ∷ xs) t (suc p) → IsTurnPlace xs t p
rest_is_place x t xs p h = record {
  bound = let b = h.bound in omega arith;
  below = λ k lt. h.below (suc k) (omega arith);
  above = λ k le lt. h.above (suc k) (omega arith) (omega arith);
}

pub insert-with_turn : (turns : List Turn) (t : Turn) (p : ℕ) → IsTurnPlace turns t p → insert turns p t ≡ with_turn t turns
insert-with_turn [] t zero h = refl
insert-with_turn [] t (suc p) h = absurd (let b = h.bound in omega arith)
insert-with_turn (x ∷ xs) t zero h = let e : comes_after x t ≡ false = h.above zero (omega arith) (omega arith) in rw e refl
insert-with_turn (x ∷ xs) t (suc p) h =
    let e : comes_after x t ≡ true = h.below zero (omega arith) in
    rw e (ap (λ ts. x ∷ ts) (insert-with_turn xs t p (rest_is_place x t xs p h)))

not_after_itself : (t : Turn) → comes_after t t ≡ true → ⊥
not_after_itself t h = let e = not_both_after t t h in cc

within_at : (x t : Turn) (xs : List Turn) (b : Bool) (p : ℕ) → ((q : ℕ) → IsTurnPlace (with_turn t xs) t q → q < length (with_turn t xs)) → IsTurnPlace (if b then x ∷ with_turn t xs else t ∷ x ∷ xs) t p → p < length (if b then x ∷ with_turn t xs else t ∷ x ∷ xs)
within_at x t xs true zero ih h = omega arith
within_at x t xs true (suc p) ih h = let lt = ih p (rest_is_place x t (with_turn t xs) p h) in omega arith
within_at x t xs false zero ih h = omega arith
within_at x t xs false (suc p) ih h = absurd (not_after_itself t (h.below zero (omega arith)))

-- the place of a turn that is in is one of the list
pub place_within : (others : List Turn) (t : Turn) (p : ℕ) → IsTurnPlace (with_turn t others) t p → p < length (with_turn t others)
place_within [] t zero h = omega arith
place_within [] t (suc p) h = absurd (not_after_itself t (h.below zero (omega arith)))
place_within (x ∷ xs) t p h = within_at x t xs (comes_after x t) p (place_within xs t) h

remove_at : (x t : Turn) (xs : List Turn) (b : Bool) (p : ℕ) → comes_after x t ≡ b → ((q : ℕ) → IsTurnPlace (with_turn t xs) t q → remove (with_turn t xs) q ≡ xs) → IsTurnPlace (if b then x ∷ with_turn t xs else t ∷ x ∷ xs) t p → remove (if b then x ∷ with_turn t xs else t ∷ x ∷ xs) p ≡ x ∷ xs
remove_at x t xs true zero e ih h = let f : comes_after x t ≡ false = h.above zero (omega arith) (omega arith) in cc
remove_at x t xs true (suc p) e ih h = ap (λ ts. x ∷ ts) (ih p (rest_is_place x t (with_turn t xs) p h))
remove_at x t xs false zero e ih h = refl
remove_at x t xs false (suc p) e ih h = absurd (not_after_itself t (h.below zero (omega arith)))

pub remove-with_turn : (others : List Turn) (t : Turn) (p : ℕ) → IsTurnPlace (with_turn t others) t p → remove (with_turn t others) p ≡ others
remove-with_turn [] t zero h = refl
remove-with_turn [] t (suc p) h = absurd (not_after_itself t (h.below zero (omega arith)))
remove-with_turn (x ∷ xs) t p h = remove_at x t xs (comes_after x t) p refl (remove-with_turn xs t) h

none_after_at : (y x t : Turn) (xs : List Turn) (b : Bool) → comes_after x t ≡ b → comes_after t y ≡ false → comes_after x y ≡ false → NoneAfter y (with_turn t xs) → NoneAfter y xs → NoneAfter y (if b then x ∷ with_turn t xs else t ∷ x ∷ xs)
none_after_at y x t xs true e h g more rest = (g, more)
none_after_at y x t xs false e h g more rest = (h, (g, rest))

NoneAfter-with_turn : (y t : Turn) (turns : List Turn) → comes_after t y ≡ false → NoneAfter y turns → NoneAfter y (with_turn t turns)
NoneAfter-with_turn y t [] h none = (h, tt)
NoneAfter-with_turn y t (x ∷ xs) h none = none_after_at y x t xs (comes_after x t) refl h none.0 (NoneAfter-with_turn y t xs h none.1) none.1

-- what isn't asked after one that isn't asked after a third isn't asked after that
not_after-trans : (z y t : Turn) (b : Bool) → comes_after z y ≡ false → comes_after y t ≡ false → comes_after z t ≡ b → b ≡ false
not_after-trans z y t false h g e = refl
not_after-trans z y t true h g e = let c = comes_after-trans z y t e g in cc

NoneAfter-trans : (y t : Turn) (turns : List Turn) → comes_after y t ≡ false → NoneAfter y turns → NoneAfter t turns
NoneAfter-trans y t [] h none = tt
NoneAfter-trans y t (x ∷ xs) h none = (not_after-trans x y t (comes_after x t) none.0 h refl, NoneAfter-trans y t xs h none.1)

ordered_with : (x t : Turn) (xs : List Turn) (b : Bool) → comes_after x t ≡ b → NoneAfter x xs → IsOrdered xs → IsOrdered (with_turn t xs) → IsOrdered (if b then x ∷ with_turn t xs else t ∷ x ∷ xs)
ordered_with x t xs true e none ordered more = (NoneAfter-with_turn x t xs (not_both_after x t e) none, more)
ordered_with x t xs false e none ordered more = ((e, NoneAfter-trans x t xs e none), (none, ordered))

pub IsOrdered-with_turn : (turns : List Turn) (t : Turn) → IsOrdered turns → IsOrdered (with_turn t turns)
IsOrdered-with_turn [] t ordered = (tt, tt)
IsOrdered-with_turn (x ∷ xs) t ordered = ordered_with x t xs (comes_after x t) refl ordered.0 ordered.1 (IsOrdered-with_turn xs t ordered.1)

both_by : (a b y : Turn) (ys : List Turn) (ya yb ab ba : Bool) → comes_after y a ≡ ya → comes_after y b ≡ yb → comes_after a b ≡ ab → comes_after b a ≡ ba → a.stream_id.0 ≢ b.stream_id.0 → with_turn a (with_turn b ys) ≡ with_turn b (with_turn a ys) → with_turn a (with_turn b (y ∷ ys)) ≡ with_turn b (with_turn a (y ∷ ys))
both_by a b y ys true true ab ba eya eyb eab eba apart ih = simp (eya, eyb) (ap (λ ts. y ∷ ts) ih)
both_by a b y ys true false ab true eya eyb eab eba apart ih = simp (eya, eyb, eba)
both_by a b y ys true false ab false eya eyb eab eba apart ih = let c = comes_after-trans y b a eya eba in absurd (cc)
both_by a b y ys false true true ba eya eyb eab eba apart ih = simp (eya, eyb, eab)
both_by a b y ys false true false ba eya eyb eab eba apart ih = let c = comes_after-trans y a b eyb eab in absurd (cc)
both_by a b y ys false false true true eya eyb eab eba apart ih = let c = not_both_after a b eab in absurd (cc)
both_by a b y ys false false true false eya eyb eab eba apart ih = simp (eya, eyb, eab, eba)
both_by a b y ys false false false true eya eyb eab eba apart ih = simp (eya, eyb, eab, eba)
both_by a b y ys false false false false eya eyb eab eba apart ih = absurd (apart (same_turn a b eab eba))

both_alone : (a b : Turn) (ab ba : Bool) → comes_after a b ≡ ab → comes_after b a ≡ ba → a.stream_id.0 ≢ b.stream_id.0 → with_turn a (b ∷ []) ≡ with_turn b (a ∷ [])
both_alone a b true true eab eba apart = let c = not_both_after a b eab in absurd (cc)
both_alone a b true false eab eba apart = simp (eab, eba)
both_alone a b false true eab eba apart = simp (eab, eba)
both_alone a b false false eab eba apart = absurd (apart (same_turn a b eab eba))

-- turns of two streams may be added in any order
pub with_turn-with_turn : (turns : List Turn) (a b : Turn) → a.stream_id.0 ≢ b.stream_id.0 → with_turn a (with_turn b turns) ≡ with_turn b (with_turn a turns)
with_turn-with_turn [] a b apart = both_alone a b (comes_after a b) (comes_after b a) refl refl apart
with_turn-with_turn (y ∷ ys) a b apart =
    both_by a b y ys (comes_after y a) (comes_after y b) (comes_after a b) (comes_after b a) refl refl refl refl apart (with_turn-with_turn ys a b apart)

any_default : (turns : List Turn) (k : ℕ) (d e : Turn) → k < length turns → get_or turns k d ≡ get_or turns k e
any_default [] k d e lt = absurd (omega arith)
any_default (x ∷ xs) zero d e lt = refl
any_default (x ∷ xs) (suc k) d e lt = any_default xs k d e (omega arith)

-- up to a turn that comes after another, all do
pub through : (turns : List Turn) (t d e : Turn) (m : ℕ) → IsOrdered turns → m < length turns → true ≡ comes_after (get_or turns m e) t → (k : ℕ) → k < m + 1 → comes_after (get_or turns k d) t ≡ true
through turns t d e m ordered within h =
    let same = any_default turns m d e within in
    let here : comes_after (get_or turns m d) t ≡ true = rw same (sym h) in
    below_more (λ k. comes_after (get_or turns k d) t ≡ true) m (below_too turns t d m ordered within here) here

from_by : (turns : List Turn) (t d : Turn) (m n k : ℕ) → IsOrdered turns → comes_after (get_or turns m d) t ≡ false → k ≡ m + n → k < length turns → comes_after (get_or turns k d) t ≡ false
from_by turns t d m zero k ordered h is within = let same : k ≡ m = omega arith in rw same h
from_by turns t d m (suc n) k ordered h is within = above_too turns t d m ordered h k (omega arith) within

-- from a turn on that doesn't come after another, none does
pub from_on : (turns : List Turn) (t d e : Turn) (m : ℕ) → IsOrdered turns → m < length turns → false ≡ comes_after (get_or turns m e) t → (k : ℕ) → m ≤ k → k < length turns → comes_after (get_or turns k d) t ≡ false
from_on turns t d e m ordered inside h k le within =
    let same = any_default turns m d e inside in
    let here : comes_after (get_or turns m d) t ≡ false = rw same (sym h) in
    from_by turns t d m (k - m) k ordered here (omega arith) within

itself_by : (t : Turn) (b : Bool) → comes_after t t ≡ b → b ≡ false
itself_by t true e = absurd (not_after_itself t e)
itself_by t false e = refl

-- no turn comes after itself
pub itself : (t : Turn) → comes_after t t ≡ false
itself t = itself_by t (comes_after t t) refl
