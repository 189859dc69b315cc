-- Queues, and their streams by number.
use Rattle.std.proofs.Common.{◌≡◌, ◌≢◌, ◌==◌, nat_lt, ℕ, zero, suc, ◌<◌, ◌≤◌, true, false, Ok, Err, ◌⊎◌, inl, inr, List, [], ◌∷◌, length, set, refl, sym, ap, arith}
use Rattle.std.proofs.lemmas.Bool.Decides.{nat_tests}
use Rattle.std.specs.List.{insert}
use Rattle.dcsctp_api.specs.types.queues.SendStreams.{Stream, stream_at, IsBelow, IsAscending}
use Rattle.dcsctp_send_queue.specs.Ranking.{IsFound}
use Rattle.dcsctp_api.specs.spec.queues.SendQueue.{stream_changed, with_stream, is_used, stream_found}

pub same_test : (a b : ℕ) → a ≡ b → (a == b) ≡ true
same_test a b e = grind (arith, nat_tests)

pub other_test : (a b : ℕ) → a ≢ b → (a == b) ≡ false
other_test a b e = grind (arith, nat_tests)

pub less_test : (a b : ℕ) → a < b → nat_lt a b ≡ true
less_test a b e = grind (arith, nat_tests)

pub not_less_test : (a b : ℕ) → b ≤ a → nat_lt a b ≡ false
not_less_test a b e = grind (arith, nat_tests)

pub changed-none : (id : ℕ) (f : Stream → Stream) (streams : List Stream) → ((k : ℕ) → k < length streams → id < (stream_at streams k).id) → stream_changed id f streams ≡ streams
changed-none id f [] h = refl
changed-none id f (x ∷ xs) h =
    let e = other_test x.id id (let b = h zero (omega arith) in omega (arith, b)) in
    rw e (ap (λ ts. x ∷ ts) (changed-none id f xs (λ k lt. h (suc k) (omega arith))))

pub IsBelow-out : (id : ℕ) (streams : List Stream) → IsBelow id streams → (k : ℕ) → k < length streams → id < (stream_at streams k).id
IsBelow-out id [] below k lt = absurd (omega arith)
IsBelow-out id (x ∷ xs) below zero lt = below.0
IsBelow-out id (x ∷ xs) below (suc k) lt = IsBelow-out id xs below.1 k (omega arith)

-- a change at the place of a stream is one by its number
pub changed_at : (streams : List Stream) (p id : ℕ) (f : Stream → Stream) → IsAscending streams → IsFound streams id (Ok p) → set streams p (f (stream_at streams p)) ≡ stream_changed id f streams
changed_at [] p id f ascending found = absurd (let b = found.0 in omega arith)
changed_at (x ∷ xs) zero id f ascending found =
    let e = same_test x.id id found.1 in
    let rest = changed-none id f xs (λ k lt. let b = IsBelow-out x.id xs ascending.0 k lt in let s = found.1 in omega (arith, b, s)) in
    rw e (ap (λ ts. f x ∷ ts) (sym rest))
changed_at (x ∷ xs) (suc p) id f ascending found =
    let within = found.0 in
    let e = other_test x.id id (let b = IsBelow-out x.id xs ascending.0 p (omega arith) in let s = found.1 in omega (arith, b, s)) in
    rw e (ap (λ ts. x ∷ ts) (changed_at xs p id f ascending.1 (omega arith, found.1)))

pub used_found : (streams : List Stream) (p id : ℕ) → IsAscending streams → IsFound streams id (Ok p) → is_used id streams ≡ true
used_found [] p id ascending found = absurd (let b = found.0 in omega arith)
used_found (x ∷ xs) zero id ascending found = let e = same_test x.id id found.1 in rw e refl
used_found (x ∷ xs) (suc p) id ascending found =
    let within = found.0 in
    let e = other_test x.id id (let b = IsBelow-out x.id xs ascending.0 p (omega arith) in let s = found.1 in omega (arith, b, s)) in
    rw e (used_found xs p id ascending.1 (omega arith, found.1))

pub lost_after : (x : Stream) (xs : List Stream) (p id : ℕ) → IsFound (x ∷ xs) id (Err (suc p)) → IsFound xs id (Err p)
lost_after x xs p id lost = (let b = lost.0 in omega arith, (λ k lt. lost.1 (suc k) (omega arith)), (λ k on lt. lost.2 (suc k) (omega arith) (omega arith)))

pub lost_all : (x : Stream) (xs : List Stream) (id : ℕ) → IsFound (x ∷ xs) id (Err zero) → IsFound xs id (Err zero)
lost_all x xs id lost = (omega arith, (λ k lt. absurd (omega arith)), (λ k on lt. lost.2 (suc k) (omega arith) (omega arith)))

pub used_lost : (streams : List Stream) (p id : ℕ) → IsFound streams id (Err p) → is_used id streams ≡ false
used_lost [] p id lost = refl
used_lost (x ∷ xs) zero id lost =
    let e = other_test x.id id (let b = lost.2 zero (omega arith) (omega arith) in omega (arith, b)) in
    rw e (used_lost xs zero id (lost_all x xs id lost))
used_lost (x ∷ xs) (suc p) id lost =
    let e = other_test x.id id (let b = lost.1 zero (omega arith) in omega (arith, b)) in
    rw e (used_lost xs p id (lost_after x xs p id lost))

-- a changed stream that is put in
pub changed_insert : (streams : List Stream) (p id : ℕ) (u : Stream) (f : Stream → Stream) → IsFound streams id (Err p) → u.id ≡ id → insert streams p (f u) ≡ stream_changed id f (with_stream u streams)
changed_insert [] zero id u f lost is = let e = same_test u.id id is in rw e refl
changed_insert [] (suc p) id u f lost is = absurd (let b = lost.0 in omega arith)
changed_insert (x ∷ xs) zero id u f lost is =
    let b = lost.2 zero (omega arith) (omega arith) in
    let e = same_test u.id id is in
    let g = not_less_test x.id u.id (omega (arith, b, is)) in
    let rest = changed-none id f (x ∷ xs) (λ k lt. lost.2 k (omega arith) lt) in
    rw (g, e) (ap (λ ts. f u ∷ ts) (sym rest))
changed_insert (x ∷ xs) (suc p) id u f lost is =
    let b = lost.1 zero (omega arith) in
    let e = other_test x.id id (omega (arith, b)) in
    let g = less_test x.id u.id (omega (arith, b, is)) in
    rw (g, e) (ap (λ ts. x ∷ ts) (changed_insert xs p id u f (lost_after x xs p id lost) is))

pub stream_found-at : (default : Stream) (streams : List Stream) (p id : ℕ) → IsAscending streams → IsFound streams id (Ok p) → stream_found default id streams ≡ stream_at streams p
stream_found-at default [] p id ascending found = absurd (let b = found.0 in omega arith)
stream_found-at default (x ∷ xs) zero id ascending found = let e = same_test x.id id found.1 in rw e refl
stream_found-at default (x ∷ xs) (suc p) id ascending found =
    let within = found.0 in
    let e = other_test x.id id (let b = IsBelow-out x.id xs ascending.0 p (omega arith) in let s = found.1 in omega (arith, b, s)) in
    rw e (stream_found-at default xs p id ascending.1 (omega arith, found.1))

pub stream_found-none : (default : Stream) (streams : List Stream) (p id : ℕ) → IsFound streams id (Err p) → stream_found default id streams ≡ default
stream_found-none default [] p id lost = refl
stream_found-none default (x ∷ xs) zero id lost =
    let e = other_test x.id id (let b = lost.2 zero (omega arith) (omega arith) in omega (arith, b)) in
    rw e (stream_found-none default xs zero id (lost_all x xs id lost))
stream_found-none default (x ∷ xs) (suc p) id lost =
    let e = other_test x.id id (let b = lost.1 zero (omega arith) in omega (arith, b)) in
    rw e (stream_found-none default xs p id (lost_after x xs p id lost))

-- what a stream is after another was changed, or it
pub stream_at-either : (streams : List Stream) (p k : ℕ) (s : Stream) → k < length streams → ((k ≡ p) × (stream_at (set streams p s) k ≡ s)) ⊎ (stream_at (set streams p s) k ≡ stream_at streams k)
stream_at-either [] p k s lt = absurd (omega arith)
stream_at-either (x ∷ xs) zero zero s lt = inl (refl, refl)
stream_at-either (x ∷ xs) zero (suc k) s lt = inr refl
stream_at-either (x ∷ xs) (suc p) zero s lt = inr refl
stream_at-either (x ∷ xs) (suc p) (suc k) s lt =
    elim (stream_at-either xs p k s (omega arith)) as (λ z. ((suc k ≡ suc p) × (stream_at (set xs p s) k ≡ s)) ⊎ (stream_at (set xs p s) k ≡ stream_at xs k)) [
      | inl h ↦ inl (ap (λ n. suc n) h.0, h.1)
      | inr h ↦ inr h
    ]

-- a stream that is changed twice
pub set-set : (streams : List Stream) (p : ℕ) (a b : Stream) → set (set streams p a) p b ≡ set streams p b
set-set [] p a b = refl
set-set (x ∷ xs) zero a b = refl
set-set (x ∷ xs) (suc p) a b = ap (λ ts. x ∷ ts) (set-set xs p a b)
