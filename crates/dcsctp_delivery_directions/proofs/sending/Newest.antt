-- The newest piece of a stream.
use Rattle.std.proofs.Common.{◌≡◌, ℕ, ◌<◌, ◌≤◌, ◌+◌, List, [], ◌∷◌, length, refl, sym, ◌∙◌, ap, arith, inl, inr, Option}
use Rattle.std.specs.Prelude.{None, Some}
use Rattle.std.proofs.lemmas.Bool.{eq-eqb}
use Rattle.std.proofs.lemmas.Bool.Decides.{eqb_tells, leb_tells}
use Rattle.dcsctp_delivery_directions.specs.sending.Places.{at_place}
use Rattle.dcsctp_delivery_directions.specs.sending.Log.{Piece, Slot, newest, newest_on, IsNewestOn, IsEndOrClosed}
use Rattle.dcsctp_delivery_directions.proofs.sending.Places.{at_new, at_cases, at_below, at_stays}

pub newest_here : (id : ℕ) (piece : Piece) (log : List Slot) → piece.message.stream ≡ id → newest_on id (Some piece ∷ log) ≡ Some piece
newest_here id piece log on = rw (eq-eqb piece.message.stream id on) refl

pub newest_else : (id : ℕ) (piece : Piece) (log : List Slot) → (piece.message.stream ≡ id → ⊥) → newest_on id (Some piece ∷ log) ≡ newest_on id log
newest_else id piece log other = elim (eqb_tells piece.message.stream id) [ inl e ↦ absurd (other e.1) | inr e ↦ rw e.0 refl ]

-- where it lies: no piece of the stream comes after it
pub record IsNewestPiece (id : ℕ) (log : List Slot) (piece : Piece) : Type 0 where
  pub number : ℕ
  pub at : at_place number log ≡ Some (Some piece)
  pub on : piece.message.stream ≡ id
  pub last : (n : ℕ) (f : Piece) → at_place n log ≡ Some (Some f) → f.message.stream ≡ id → n ≤ number

pub newest_found : (id : ℕ) (log : List Slot) (piece : Piece) → newest_on id log ≡ Some piece → IsNewestPiece id log piece
newest_found id [] piece is = absurd (cc)
newest_found id (None ∷ log) piece is =
    let found = newest_found id log piece is in
    record {
      number = found.number;
      at = at_stays found.number None (Some piece) log found.at;
      on = found.on;
      last = λ n f at on. elim (at_cases n None (Some f) log at) [ inl e ↦ absurd (let clash : None ≡ Some f = e.1 in cc) | inr old ↦ found.last n f old on ];
    }
newest_found id (Some first ∷ log) piece is =
    elim (eqb_tells first.message.stream id) [
      | inl e ↦
          (let both : Some first ≡ Some piece = sym (newest_here id first log e.1) ∙ is in
          let same : first ≡ piece = cc in
          record {
            number = length log;
            at = at_new (Some first) log ∙ ap (λ (g : Piece). Some (Some g)) same;
            on = ap (λ (g : Piece). g.message.stream) (sym same) ∙ e.1;
            last = λ n f at on. (let low = at_below n (Some f) (Some first ∷ log) at in omega (arith, low));
          })
      | inr e ↦
          (let found = newest_found id log piece (sym (newest_else id first log e.1) ∙ is) in
          record {
            number = found.number;
            at = at_stays found.number (Some first) (Some piece) log found.at;
            on = found.on;
            last = λ n f at on. elim (at_cases n (Some first) (Some f) log at) [
              | inl t ↦ absurd (let same : first ≡ f = (let both : Some first ≡ Some f = t.1 in cc) in e.1 (ap (λ (g : Piece). g.message.stream) same ∙ on))
              | inr old ↦ found.last n f old on
            ];
          })
    ]

pub newest_none : (id : ℕ) (log : List Slot) → newest_on id log ≡ None → (n : ℕ) (f : Piece) → at_place n log ≡ Some (Some f) → f.message.stream ≡ id → ⊥
newest_none id [] is n f at on = absurd (cc)
newest_none id (None ∷ log) is n f at on = elim (at_cases n None (Some f) log at) [ inl e ↦ absurd (let clash : None ≡ Some f = e.1 in cc) | inr old ↦ newest_none id log is n f old on ]
newest_none id (Some first ∷ log) is n f at on =
    elim (eqb_tells first.message.stream id) [
      | inl e ↦ absurd (let clash : Some first ≡ None = sym (newest_here id first log e.1) ∙ is in cc)
      | inr e ↦ elim (at_cases n (Some first) (Some f) log at) [
        | inl t ↦ absurd (let same : first ≡ f = (let both : Some first ≡ Some f = t.1 in cc) in e.1 (ap (λ (g : Piece). g.message.stream) same ∙ on))
        | inr old ↦ newest_none id log (sym (newest_else id first log e.1) ∙ is) n f old on
      ]
    ]

-- What the newest TSN carries, if one was assigned, is the newest piece of the stream.
pub newest_last : (id : ℕ) (log : List Slot) → IsNewestOn id log → 0 < length log → (piece : Piece) × (newest_on id log ≡ Some piece) × (newest log ≡ Some (Some piece))
newest_last id [] on some = absurd (omega arith)
newest_last id (None ∷ log) on some = absurd on
newest_last id (Some piece ∷ log) on some = (piece, newest_here id piece log on, refl)

pub newest_lies : (log : List Slot) (piece : Piece) (n : ℕ) → newest log ≡ Some (Some piece) → n + 1 ≡ length log → at_place n log ≡ Some (Some piece)
newest_lies [] piece n is last = absurd (cc)
newest_lies (slot ∷ log) piece n is last =
    let same : slot ≡ Some piece = cc in
    let here : n ≡ length log = omega (arith, last) in
    ap (λ (k : ℕ). at_place k (slot ∷ log)) here ∙ at_new slot log ∙ ap Some same

pub is_newest : (n : ℕ) (f : Piece) (log : List Slot) → n + 1 ≡ length log → at_place n log ≡ Some (Some f) → newest log ≡ Some (Some f)
is_newest n f [] is at = absurd (cc)
is_newest n f (slot ∷ log) is at = elim (at_cases n slot (Some f) log at) [ inl e ↦ ap Some e.1 | inr old ↦ absurd (let low = at_below n (Some f) log old in omega (arith, low, is)) ]

-- a piece after which none of its stream comes is the newest of that
pub newest_from : (id : ℕ) (log : List Slot) (m : ℕ) (f : Piece) → at_place m log ≡ Some (Some f) → f.message.stream ≡ id
    → ((k : ℕ) (h : Piece) → m < k → at_place k log ≡ Some (Some h) → h.message.stream ≡ id → ⊥) → newest_on id log ≡ Some f
newest_from id log m f at on none = go (newest_on id log) refl
  where
    go : (o : Option Piece) → newest_on id log ≡ o → newest_on id log ≡ Some f
    go None is = absurd (newest_none id log is m f at on)
    go (Some g) is =
        let found = newest_found id log g is in
        let up : m ≤ found.number = found.last m f at on in
        elim (leb_tells found.number m) [
          | inl low ↦
              (let here : m ≡ found.number = omega (arith, up, low.1) in
              let both : Some (Some f) ≡ Some (Some g) = sym at ∙ ap (λ (k : ℕ). at_place k log) here ∙ found.at in
              is ∙ (cc))
          | inr high ↦ absurd (none found.number g high.1 found.at found.on)
        ]

-- what is closed stays so
pub closed_stays : (slot : Slot) (log : List Slot) (f : Piece) → IsEndOrClosed log f → IsEndOrClosed (slot ∷ log) f
closed_stays slot log f (inl end) = inl end
closed_stays slot log f (inr c) = inr (record { offset = c.offset; at = at_stays c.offset slot (Some f) log c.at; end = at_stays (c.offset + 1) slot None log c.end; limited = c.limited })
