-- Numbers of requests, and their places.
use Rattle.std.proofs.Common.{◌≡◌, ℕ, ◌<◌, ◌≤◌, ◌^◌, suc, List, [], ◌∷◌, length, sym, ◌∙◌, ap, subst, arith, inl, inr}
use Rattle.dcsctp_spec_lemmas.specs.spec.Reconfiguration.{RequestedReset, renewed_reset}
use Rattle.dcsctp_spec_lemmas.specs.spec.association.FlushChanges.{next_number}
use Rattle.dcsctp_spec_lemmas.specs.spec.endpoint.BegunResets.{BegunReset}
use Rattle.dcsctp_delivery_directions.specs.sending.Places as places
use Rattle.dcsctp_delivery_sockets.specs.turns.Asking.{AreNumbered}
use Rattle.dcsctp_delivery_sockets.specs.associations.Answered.{request_numbered, WantsSame, WantFrom}

pub same_place : (first i j : ℕ) → request_numbered first i ≡ request_numbered first j → i < 2 ^ 32 → j < 2 ^ 32 → i ≡ j
same_place first i j is one two = omega (arith, is, one, two)

pub next_place : (first n : ℕ) → next_number (request_numbered first n) ≡ request_numbered first (suc n)
next_place first n = omega arith

pub newest_number : (first : ℕ) (newest : BegunReset) (earlier requests : List BegunReset) → requests ≡ newest ∷ earlier → AreNumbered first requests → newest.number ≡ request_numbered first (length earlier)
newest_number first newest earlier requests is numbered = (subst (AreNumbered first) is numbered).0

pub number_among : (first : ℕ) (requests : List BegunReset) (begun : BegunReset) → AreNumbered first requests → places.HasEntry begun requests → (place : ℕ) × (place < length requests) × (begun.number ≡ request_numbered first place)
number_among first [] begun numbered has = absurd has
number_among first (newest ∷ earlier) begun numbered (inl e) = (length earlier, omega arith, ap (λ (b : BegunReset). b.number) e ∙ numbered.0)
number_among first (newest ∷ earlier) begun numbered (inr has) =
    let r = number_among first earlier begun numbered.1 has in (r.0, omega (arith, r.1), r.2)

pub is_newest : (first : ℕ) (newest : BegunReset) (earlier requests : List BegunReset) (begun : BegunReset) → requests ≡ newest ∷ earlier → AreNumbered first requests → length requests < 2 ^ 32
    → places.HasEntry begun requests → begun.number ≡ newest.number → begun ≡ newest
is_newest first newest earlier requests begun is numbered few has same = go (subst (places.HasEntry begun) is has) (subst (AreNumbered first) is numbered) (subst (λ (l : List BegunReset). length l < 2 ^ 32) is few)
  where
    go : places.HasEntry begun (newest ∷ earlier) → AreNumbered first (newest ∷ earlier) → suc (length earlier) < 2 ^ 32 → begun ≡ newest
    go (inl e) n f = e
    go (inr h) n f =
        let r = number_among first earlier begun n.1 h in
        let here : r.0 ≡ length earlier = same_place first r.0 (length earlier) (sym r.2 ∙ same ∙ n.0) (omega (arith, r.1, f)) (omega (arith, f)) in absurd (omega (arith, here, r.1))

-- the number after the newest
pub number_behind : (first : ℕ) (newest : BegunReset) (earlier requests : List BegunReset) → requests ≡ newest ∷ earlier → AreNumbered first requests → next_number newest.number ≡ request_numbered first (length requests)
number_behind first newest earlier requests is numbered =
    ap next_number (newest_number first newest earlier requests is numbered) ∙ next_place first (length earlier) ∙ ap (λ (l : List BegunReset). request_numbered first (length l)) (sym is)

-- ---- what requests want

-- There are none from there on.
pub want_beyond : (place : ℕ) (reset : RequestedReset) (requests : List BegunReset) → length requests ≤ place → WantFrom place reset requests
want_beyond place reset [] beyond = tt
want_beyond place reset (begun ∷ earlier) beyond = (λ at. absurd (omega (arith, at, beyond)), want_beyond place reset earlier (omega (arith, beyond)))

pub want_later : (place later : ℕ) (reset : RequestedReset) (requests : List BegunReset) → place ≤ later → WantFrom place reset requests → WantFrom later reset requests
want_later place later reset [] le want = tt
want_later place later reset (begun ∷ earlier) le want = (λ at. want.0 (omega (arith, at, le)), want_later place later reset earlier le want.1)

-- Whether it says that it is new is all the same.
pub want_renewed : (place : ℕ) (reset : RequestedReset) (requests : List BegunReset) → WantFrom place reset requests → WantFrom place (renewed_reset reset) requests
want_renewed place reset [] want = tt
want_renewed place reset (begun ∷ earlier) want = (want.0, want_renewed place reset earlier want.1)

-- So the one at this place wants it.
pub wanted_at : (first place : ℕ) (reset : RequestedReset) (requests : List BegunReset) (begun : BegunReset) → AreNumbered first requests → length requests < 2 ^ 32 → places.HasEntry begun requests → place < 2 ^ 32
    → begun.number ≡ request_numbered first place → WantFrom place reset requests → WantsSame begun.reset reset
wanted_at first place reset [] begun numbered few has small at want = absurd has
wanted_at first place reset (newest ∷ earlier) begun numbered few (inl e) small at want =
    let here : length earlier ≡ place = same_place first (length earlier) place (sym numbered.0 ∙ sym (ap (λ (b : BegunReset). b.number) e) ∙ at) (omega (arith, few)) small in
    ap (λ (b : BegunReset). renewed_reset b.reset) e ∙ want.0 (omega (arith, here))
wanted_at first place reset (newest ∷ earlier) begun numbered few (inr has) small at want = wanted_at first place reset earlier begun numbered.1 (omega (arith, few)) has small at want.1
