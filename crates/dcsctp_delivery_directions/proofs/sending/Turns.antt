-- How many ordered messages of a stream were begun.
use Rattle.std.proofs.Common.{◌≡◌, ◌==◌, ℕ, suc, Bool, true, false, ◌<◌, ◌+◌, ◌%◌, ◌^◌, List, [], ◌∷◌, ◌++◌, length, refl, sym, ◌∙◌, ap, arith, subst, inl, inr}
use Rattle.std.specs.Prelude.{◌&&◌, not, None, Some, if◌then◌else◌}
use Rattle.std.proofs.lemmas.Bool.{eq-eqb}
use Rattle.std.proofs.lemmas.Bool.Decides.{eqb_tells}
use Rattle.dcsctp_spec.specs.types.declared.sending.UnderWay.{UnderWay}
use Rattle.dcsctp_spec.specs.types.queues.SendStreams.{Stream}
use Rattle.dcsctp_delivery_directions.specs.sending.Places.{at_place}
use Rattle.dcsctp_delivery_directions.specs.sending.Log.{Piece, Slot}
use Rattle.dcsctp_delivery_directions.specs.sending.Turns.{begun_on, turn_of_tsn, IsSsnOfTurn}
use Rattle.dcsctp_delivery_directions.specs.sending.Numbers.{stream_named, GoesInTurn, CountsTurns}
use Rattle.dcsctp_delivery_directions.proofs.sending.Places.{at_below, at_cases, at_new, at_stays}

pub turn_new : (id : ℕ) (slot : Slot) (log : List Slot) → turn_of_tsn id (length log) (slot ∷ log) ≡ begun_on id (slot ∷ log)
turn_new id slot log = rw (eq-eqb (length log) (length log) refl) refl

pub turn_old : (id n : ℕ) (slot : Slot) (log : List Slot) → n < length log → turn_of_tsn id n (slot ∷ log) ≡ turn_of_tsn id n log
turn_old id n slot log below = elim (eqb_tells n (length log)) [ inl e ↦ (let is : n ≡ length log = e.1 in absurd (omega arith)) | inr e ↦ rw e.0 refl ]

pub turn_more : (id n : ℕ) (more log : List Slot) → n < length log → turn_of_tsn id n (more ++ log) ≡ turn_of_tsn id n log
turn_more id n [] log below = refl
turn_more id n (slot ∷ more) log below = turn_old id n slot (more ++ log) (longer more) ∙ turn_more id n more log below
  where
    longer : (l : List Slot) → n < length (l ++ log)
    longer [] = below
    longer (s ∷ l) = (let rest = longer l in omega (arith, rest))

-- ---- does a piece begin a message?

pub starts_none : (id : ℕ) (piece : Piece) (log : List Slot) → 0 < piece.start → begun_on id (Some piece ∷ log) ≡ begun_on id log
starts_none id piece log inside = elim (eqb_tells piece.start 0) [ inl e ↦ absurd (let none : piece.start ≡ 0 = e.1 in omega (arith, none, inside)) | inr e ↦ rw e.0 refl ]

pub starts_one : (id : ℕ) (piece : Piece) (log : List Slot) → piece.start ≡ 0 → piece.message.stream ≡ id → piece.message.is_unordered ≡ false → begun_on id (Some piece ∷ log) ≡ begun_on id log + 1
starts_one id piece log start on ordered = rw (eq-eqb piece.start 0 start) (rw (eq-eqb piece.message.stream id on) (rw ordered (omega arith)))

pub starts_else : (id : ℕ) (piece : Piece) (log : List Slot) → (piece.message.stream ≡ id → ⊥) → begun_on id (Some piece ∷ log) ≡ begun_on id log
starts_else id piece log other = elim (eqb_tells piece.message.stream id) [ inl e ↦ absurd (other e.1) | inr e ↦ rw e.0 (go (piece.start == 0)) ]
  where
    go : (b : Bool) → (if b && false && not piece.message.is_unordered then suc (begun_on id log) else begun_on id log) ≡ begun_on id log
    go true = refl
    go false = refl

pub starts_apart : (id : ℕ) (piece : Piece) (log : List Slot) → piece.message.is_unordered ≡ true → begun_on id (Some piece ∷ log) ≡ begun_on id log
starts_apart id piece log unordered = rw unordered (go (piece.start == 0) (piece.message.stream == id))
  where
    go : (a b : Bool) → (if a && b && false then suc (begun_on id log) else begun_on id log) ≡ begun_on id log
    go true true = refl
    go true false = refl
    go false b = refl

-- none was begun on a stream of which nothing was sent
pub none_begun : (id : ℕ) (log : List Slot) → ((n : ℕ) (f : Piece) → at_place n log ≡ Some (Some f) → f.message.stream ≡ id → ⊥) → begun_on id log ≡ 0
none_begun id [] unsent = refl
none_begun id (None ∷ log) unsent = none_begun id log (λ n f at. unsent n f (at_stays n None (Some f) log at))
none_begun id (Some piece ∷ log) unsent =
    starts_else id piece log (unsent (length log) piece (at_new (Some piece) log)) ∙ none_begun id log (λ n f at. unsent n f (at_stays n (Some piece) (Some f) log at))

-- ---- one more piece

pub turns_with : (id : ℕ) (log : List Slot) (piece : Piece) (old new : List Stream) → CountsTurns id log old
    → (stream_named id new).next_ssn % 2 ^ 16 ≡ begun_on id (Some piece ∷ log) % 2 ^ 16
    → (piece.message.stream ≡ id → piece.message.is_unordered ≡ false → IsSsnOfTurn piece.ssn (begun_on id (Some piece ∷ log)))
    → ((w : UnderWay) → (stream_named id new).under_way ≡ Some w → GoesInTurn id (Some piece ∷ log) new w)
    → CountsTurns id (Some piece ∷ log) new
turns_with id log piece old new c next its goes =
    record {
      next = next;
      sent = λ n f at on ordered. elim (at_cases n (Some piece) (Some f) log at) [
        | inl e ↦
            (let same : piece ≡ f = (let both : Some piece ≡ Some f = e.1 in cc) in
            let here : turn_of_tsn id n (Some piece ∷ log) ≡ begun_on id (Some piece ∷ log) = ap (λ (k : ℕ). turn_of_tsn id k (Some piece ∷ log)) e.0 ∙ turn_new id (Some piece) log in
            let turn = its (ap (λ (g : Piece). g.message.stream) same ∙ on) (ap (λ (g : Piece). g.message.is_unordered) same ∙ ordered) in
            subst (λ (k : ℕ). IsSsnOfTurn f.ssn k) (sym here) (subst (λ (g : Piece). IsSsnOfTurn g.ssn (begun_on id (Some piece ∷ log))) same turn))
        | inr old' ↦ subst (λ (k : ℕ). IsSsnOfTurn f.ssn k) (sym (turn_old id n (Some piece) log (at_below n (Some f) log old'))) (c.sent n f old' on ordered)
      ];
      going = goes;
    }
