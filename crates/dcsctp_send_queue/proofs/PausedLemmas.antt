-- Numbers in order.
use Rattle.std.proofs.Common.{◌≡◌, ℕ, zero, suc, below_more, ◌-◌, ◌+◌, ◌<◌, ◌≤◌, nat_lt, Bool, true, false, if◌then◌else◌, List, [], ◌∷◌, length, get_or, refl, ap, arith}
use Rattle.std.proofs.lemmas.Bool.Decides.{nat_tests}
use Rattle.std.specs.List.{insert, remove}
use Rattle.dcsctp_api.specs.types.declared.ids.StreamId.{StreamId}
use Rattle.dcsctp_send_queue.specs.Pausing.{NoneLess, AreIdsAscending, with_id, with_id_if, IsIdPlace}

pub less_true : (a b : ℕ) → a < b → nat_lt a b ≡ true
less_true a b h = grind (arith, nat_tests)

pub less_false : (a b : ℕ) → b ≤ a → nat_lt a b ≡ false
less_false a b h = grind (arith, nat_tests)

pub true_less : (a b : ℕ) → nat_lt a b ≡ true → a < b
true_less a b h = grind (arith, nat_tests)

pub false_less : (a b : ℕ) → nat_lt a b ≡ false → b ≤ a
false_less a b h = grind (arith, nat_tests)

any_id : (ids : List StreamId) (k : ℕ) (d e : StreamId) → k < length ids → get_or ids k d ≡ get_or ids k e
any_id [] k d e lt = absurd (omega arith)
any_id (x ∷ xs) zero d e lt = refl
any_id (x ∷ xs) (suc k) d e lt = any_id xs k d e (omega arith)

NoneLess-at : (id : StreamId) (ids : List StreamId) (k : ℕ) (d : StreamId) → NoneLess id ids → k < length ids → id.0 ≤ (get_or ids k d).0
NoneLess-at id [] k d none lt = absurd (omega arith)
NoneLess-at id (x ∷ xs) zero d none lt = none.0
NoneLess-at id (x ∷ xs) (suc k) d none lt = NoneLess-at id xs k d none.1 (omega arith)

ids_at : (ids : List StreamId) (i j : ℕ) (d : StreamId) → AreIdsAscending ids → i < j → j < length ids → (get_or ids i d).0 ≤ (get_or ids j d).0
ids_at [] i j d ascending lt within = absurd (omega arith)
ids_at (x ∷ xs) zero zero d ascending lt within = absurd (omega arith)
ids_at (x ∷ xs) zero (suc j) d ascending lt within = NoneLess-at x xs j d ascending.0 (omega arith)
ids_at (x ∷ xs) (suc i) zero d ascending lt within = absurd (omega arith)
ids_at (x ∷ xs) (suc i) (suc j) d ascending lt within = ids_at xs i j d ascending.1 (omega arith) (omega arith)

-- up to a number that is less than another, all are
pub less_through : (ids : List StreamId) (d e : StreamId) (m n : ℕ) → AreIdsAscending ids → m < length ids → (get_or ids m e).0 < n → (k : ℕ) → k < m + 1 → (get_or ids k d).0 < n
less_through ids d e m n ascending within h =
    let same = ap (λ (id : StreamId). id.0) (any_id ids m d e within) in
    below_more (λ k. (get_or ids k d).0 < n) m (λ k lt. let le = ids_at ids k m d ascending lt within in omega (arith, le, same, h)) (omega (arith, same, h))

from_by : (ids : List StreamId) (d : StreamId) (m more k n : ℕ) → AreIdsAscending ids → n ≤ (get_or ids m d).0 → k ≡ m + more → k < length ids → n ≤ (get_or ids k d).0
from_by ids d m zero k n ascending h is within = let same : k ≡ m = omega arith in rw same h
from_by ids d m (suc more) k n ascending h is within = let le = ids_at ids m k d ascending (omega arith) within in omega (arith, le, h)

-- from a number on that isn't less than another, none is
pub not_less_from : (ids : List StreamId) (d e : StreamId) (m n : ℕ) → AreIdsAscending ids → m < length ids → n ≤ (get_or ids m e).0 → (k : ℕ) → m ≤ k → k < length ids → n ≤ (get_or ids k d).0
not_less_from ids d e m n ascending inside h k le within =
    let same = ap (λ (id : StreamId). id.0) (any_id ids m d e inside) in
    from_by ids d m (k - m) k n ascending (omega (arith, same, h)) (omega arith) within

rest_is_place : (x id : StreamId) (xs : List StreamId) (p : ℕ) → IsIdPlace (x ∷ xs) id (suc p) → IsIdPlace xs id p
rest_is_place x id xs p h = record {
  bound = let b = h.bound in omega arith;
  below = λ k lt. h.below (suc k) (omega arith);
  above = λ k le lt. h.above (suc k) (omega arith) (omega arith);
}

-- a number is put in at its place
pub insert-with_id : (ids : List StreamId) (id : StreamId) (p : ℕ) → IsIdPlace ids id p → insert ids p id ≡ with_id id ids
insert-with_id [] id zero h = refl
insert-with_id [] id (suc p) h = absurd (let b = h.bound in omega arith)
insert-with_id (x ∷ xs) id zero h = let e = less_false x.0 id.0 (h.above zero (omega arith) (omega arith)) in rw e refl
insert-with_id (x ∷ xs) id (suc p) h =
    let e = less_true x.0 id.0 (h.below zero (omega arith)) in
    rw e (ap (λ ts. x ∷ ts) (insert-with_id xs id p (rest_is_place x id xs p h)))

within_at : (x id : StreamId) (xs : List StreamId) (b : Bool) (p : ℕ) → ((q : ℕ) → IsIdPlace (with_id id xs) id q → q < length (with_id id xs))
    → IsIdPlace (if b then x ∷ with_id id xs else id ∷ x ∷ xs) id p → p < length (if b then x ∷ with_id id xs else id ∷ x ∷ xs)
within_at x id xs true zero ih h = omega arith
within_at x id xs true (suc p) ih h = let lt = ih p (rest_is_place x id (with_id id xs) p h) in omega arith
within_at x id xs false zero ih h = omega arith
within_at x id xs false (suc p) ih h = absurd (let lt = h.below zero (omega arith) in omega (arith, lt))

-- the place of a number that is in is one of the list
pub id_within : (others : List StreamId) (id : StreamId) (p : ℕ) → IsIdPlace (with_id id others) id p → p < length (with_id id others)
id_within [] id zero h = omega arith
id_within [] id (suc p) h = absurd (let lt = h.below zero (omega arith) in omega (arith, lt))
id_within (x ∷ xs) id p h = within_at x id xs (nat_lt x.0 id.0) p (id_within xs id) h

remove_at : (x id : StreamId) (xs : List StreamId) (b : Bool) (p : ℕ) → nat_lt x.0 id.0 ≡ b → ((q : ℕ) → IsIdPlace (with_id id xs) id q → remove (with_id id xs) q ≡ xs)
    → IsIdPlace (if b then x ∷ with_id id xs else id ∷ x ∷ xs) id p → remove (if b then x ∷ with_id id xs else id ∷ x ∷ xs) p ≡ x ∷ xs
remove_at x id xs true zero e ih h = let le = h.above zero (omega arith) (omega arith) in let lt = true_less x.0 id.0 e in absurd (omega (arith, le, lt))
remove_at x id xs true (suc p) e ih h = ap (λ ts. x ∷ ts) (ih p (rest_is_place x id (with_id id xs) p h))
remove_at x id xs false zero e ih h = refl
remove_at x id xs false (suc p) e ih h = absurd (let lt = h.below zero (omega arith) in omega (arith, lt))

-- a number is taken out from its place
pub remove-with_id : (others : List StreamId) (id : StreamId) (p : ℕ) → IsIdPlace (with_id id others) id p → remove (with_id id others) p ≡ others
remove-with_id [] id zero h = refl
remove-with_id [] id (suc p) h = absurd (let lt = h.below zero (omega arith) in omega (arith, lt))
remove-with_id (x ∷ xs) id p h = remove_at x id xs (nat_lt x.0 id.0) p refl (remove-with_id xs id) h

NoneLess-with : (y x id : StreamId) (xs : List StreamId) (b : Bool) → y.0 ≤ id.0 → y.0 ≤ x.0 → NoneLess y (with_id id xs) → NoneLess y xs → NoneLess y (if b then x ∷ with_id id xs else id ∷ x ∷ xs)
NoneLess-with y x id xs true le h more rest = (h, more)
NoneLess-with y x id xs false le h more rest = (le, (h, rest))

NoneLess-with_id : (y id : StreamId) (ids : List StreamId) → y.0 ≤ id.0 → NoneLess y ids → NoneLess y (with_id id ids)
NoneLess-with_id y id [] le none = (le, tt)
NoneLess-with_id y id (x ∷ xs) le none = NoneLess-with y x id xs (nat_lt x.0 id.0) le none.0 (NoneLess-with_id y id xs le none.1) none.1

pub NoneLess-from : (x y : StreamId) (ids : List StreamId) → y.0 ≤ x.0 → NoneLess x ids → NoneLess y ids
NoneLess-from x y [] le none = tt
NoneLess-from x y (z ∷ zs) le none = let h = none.0 in (omega (arith, le, h), NoneLess-from x y zs le none.1)

ascending_with : (x id : StreamId) (xs : List StreamId) (b : Bool) → nat_lt x.0 id.0 ≡ b → NoneLess x xs → AreIdsAscending xs → AreIdsAscending (with_id id xs) → AreIdsAscending (if b then x ∷ with_id id xs else id ∷ x ∷ xs)
ascending_with x id xs true e none ascending more = let lt = true_less x.0 id.0 e in (NoneLess-with_id x id xs (omega (arith, lt)) none, more)
ascending_with x id xs false e none ascending more = let le = false_less x.0 id.0 e in ((le, NoneLess-from x id xs le none), (none, ascending))

pub AreIdsAscending-with_id : (ids : List StreamId) (id : StreamId) → AreIdsAscending ids → AreIdsAscending (with_id id ids)
AreIdsAscending-with_id [] id ascending = (tt, tt)
AreIdsAscending-with_id (x ∷ xs) id ascending = ascending_with x id xs (nat_lt x.0 id.0) refl ascending.0 ascending.1 (AreIdsAscending-with_id xs id ascending.1)

pub AreIdsAscending-with_id_if : (is_in : Bool) (ids : List StreamId) (id : StreamId) → AreIdsAscending ids → AreIdsAscending (with_id_if is_in id ids)
AreIdsAscending-with_id_if true ids id ascending = AreIdsAscending-with_id ids id ascending
AreIdsAscending-with_id_if false ids id ascending = ascending

-- a number that isn't greater than any comes first
pub with_id-first : (ids : List StreamId) (id : StreamId) → NoneLess id ids → with_id id ids ≡ id ∷ ids
with_id-first [] id none = refl
with_id-first (x ∷ xs) id none = let e = less_false x.0 id.0 none.0 in rw e refl

-- a number comes after one that is less
pub with_id_if-behind : (is_in : Bool) (x id : StreamId) (ids : List StreamId) → x.0 < id.0 → x ∷ with_id_if is_in id ids ≡ with_id_if is_in id (x ∷ ids)
with_id_if-behind true x id ids lt = let e = less_true x.0 id.0 lt in rw e refl
with_id_if-behind false x id ids lt = refl

longer_by : (x id : StreamId) (xs : List StreamId) (b : Bool) → 0 < length (with_id id xs) → length (if b then x ∷ with_id id xs else id ∷ x ∷ xs) ≡ 1 → x ∷ xs ≡ []
longer_by x id xs true some one = absurd (omega (arith, some, one))
longer_by x id xs false some one = absurd (omega (arith, one))

some_with_id : (ids : List StreamId) (id : StreamId) → 0 < length (with_id id ids)
some_with_id [] id = omega arith
some_with_id (x ∷ xs) id = go (nat_lt x.0 id.0)
  where
    go : (b : Bool) → 0 < length (if b then x ∷ with_id id xs else id ∷ x ∷ xs)
    go true = omega arith
    go false = omega arith

-- beside a number that is the only one there is none
pub only_id : (others : List StreamId) (id : StreamId) → length (with_id id others) ≡ 1 → others ≡ []
only_id [] id one = refl
only_id (x ∷ xs) id one = longer_by x id xs (nat_lt x.0 id.0) (some_with_id xs id) one
