-- How many ordered messages of a stream were begun up to a TSN.
use Rattle.std.proofs.Common.{◌≡◌, ℕ, zero, suc, Bool, true, false, ◌<◌, ◌≤◌, ◌+◌, ◌-◌, List, [], ◌∷◌, length, refl, sym, ◌∙◌, ap, arith, subst, inl, inr}
use Rattle.std.specs.Prelude.{◌==◌, ◌&&◌, not, None, Some, if◌then◌else◌}
use Rattle.std.proofs.lemmas.Bool.{eqb-true}
use Rattle.std.proofs.lemmas.Bool.Decides.{eqb_tells, leb_tells}
use Rattle.dcsctp_delivery_directions.specs.sending.Places.{at_place}
use Rattle.dcsctp_delivery_directions.specs.sending.Log.{Piece, Slot}
use Rattle.dcsctp_delivery_directions.specs.sending.Turns.{begins_on, begun_on, turn_of_tsn}
use Rattle.dcsctp_delivery_directions.proofs.sending.Places.{at_below, at_cases, at_old}
use Rattle.dcsctp_delivery_directions.proofs.sending.Turns.{turn_new, turn_old}
use Rattle.dcsctp_delivery_directions.proofs.receiving.Joining.{both}
use Rattle.dcsctp_delivery_directions.specs.order.Plain.{CarriesOrdered}

-- each TSN that was assigned carries something
pub at_there : (n : ℕ) (log : List Slot) → n < length log → (slot : Slot) × (at_place n log ≡ Some slot)
at_there n [] below = absurd (omega (arith, below))
at_there n (slot ∷ log) below = elim (eqb_tells n (length log)) [
  | inl e ↦ (slot, rw e.0 refl)
  | inr e ↦ (let ne : n ≡ length log → ⊥ = e.1 in let rest = at_there n log (omega (arith, below, ne)) in (rest.0, rw e.0 rest.1))
]

-- ---- one TSN after another

after : Bool → ℕ → ℕ
after b turn = if b then suc turn else turn

-- the first
turn_first : (id : ℕ) (slot : Slot) (log : List Slot) → at_place 0 log ≡ Some slot → turn_of_tsn id 0 log ≡ after (begins_on id slot) 0
unfolding after
turn_first id slot [] at = absurd (cc)
turn_first id slot (s ∷ []) at = (let same : s ≡ slot = cc in ap (λ (x : Slot). if begins_on id x then suc 0 else 0) same)
turn_first id slot (s ∷ t ∷ log) at =
    turn_old id 0 s (t ∷ log) (omega arith) ∙ turn_first id slot (t ∷ log) (sym (at_old 0 s (t ∷ log) (omega arith)) ∙ at)

newest_turn : (id n : ℕ) (log : List Slot) → n + 1 ≡ length log → turn_of_tsn id n log ≡ begun_on id log
newest_turn id n [] is = absurd (omega (arith, is))
newest_turn id n (s ∷ log) is = ap (λ (k : ℕ). turn_of_tsn id k (s ∷ log)) (let same : n ≡ length log = omega (arith, is) in same) ∙ turn_new id s log

-- and each other one
turn_next : (id n : ℕ) (slot : Slot) (log : List Slot) → at_place (n + 1) log ≡ Some slot → turn_of_tsn id (n + 1) log ≡ after (begins_on id slot) (turn_of_tsn id n log)
unfolding after
turn_next id n slot [] at = absurd (cc)
turn_next id n slot (s ∷ log) at =
    elim (at_cases (n + 1) s slot log at) [
      | inl e ↦
          (let last : n + 1 ≡ length log = e.0 in
          let same : s ≡ slot = e.1 in
          ap (λ (k : ℕ). turn_of_tsn id k (s ∷ log)) last ∙ turn_new id s log ∙ ap (λ (x : Slot). if begins_on id x then suc (begun_on id log) else begun_on id log) same
          ∙ ap (λ (k : ℕ). if begins_on id slot then suc k else k) (sym (newest_turn id n log last) ∙ sym (turn_old id n s log (omega (arith, last)))))
      | inr old ↦
          (let low = at_below (n + 1) slot log old in
          turn_old id (n + 1) s log low ∙ turn_next id n slot log old ∙ ap (λ (k : ℕ). if begins_on id slot then suc k else k) (sym (turn_old id n s log (omega (arith, low)))))
    ]

up_one : (b : Bool) (k : ℕ) → (k ≤ after b k) × (after b k ≤ k + 1)
unfolding after
up_one true k = (omega arith, omega arith)
up_one false k = (omega arith, omega arith)

pub turn_step : (id n : ℕ) (log : List Slot) → n + 1 < length log → (turn_of_tsn id n log ≤ turn_of_tsn id (n + 1) log) × (turn_of_tsn id (n + 1) log ≤ turn_of_tsn id n log + 1)
turn_step id n log below =
    let (slot, at) = at_there (n + 1) log below in
    let next = turn_next id n slot log at in
    let up = up_one (begins_on id slot) (turn_of_tsn id n log) in
    (let low = up.0 in omega (arith, next, low), let high = up.1 in omega (arith, next, high))

pub turn_up : (id m n : ℕ) (log : List Slot) → m ≤ n → n < length log → (turn_of_tsn id m log ≤ turn_of_tsn id n log) × (turn_of_tsn id n log ≤ turn_of_tsn id m log + (n - m))
turn_up id m zero log le below = (let same : m ≡ 0 = omega (arith, le) in (rw same (omega arith), rw same (omega arith)))
turn_up id m (suc n) log le below =
    elim (eqb_tells m (suc n)) [
      | inl e ↦ (let same : m ≡ suc n = e.1 in (rw same (omega arith), rw same (omega arith)))
      | inr e ↦
          (let ne : m ≡ suc n → ⊥ = e.1 in
          let rest = turn_up id m n log (omega (arith, le, ne)) (omega (arith, below)) in
          let step = turn_step id n log (omega (arith, below)) in
          let is : n + 1 ≡ suc n = omega arith in
          let low : turn_of_tsn id n log ≤ turn_of_tsn id (suc n) log = subst (λ (k : ℕ). turn_of_tsn id n log ≤ turn_of_tsn id k log) is step.0 in
          let high : turn_of_tsn id (suc n) log ≤ turn_of_tsn id n log + 1 = subst (λ (k : ℕ). turn_of_tsn id k log ≤ turn_of_tsn id n log + 1) is step.1 in
          let a = rest.0 in
          let b = rest.1 in
          (omega (arith, a, low), omega (arith, b, high, le, ne)))
    ]

pub turn_few : (id n : ℕ) (log : List Slot) → n < length log → turn_of_tsn id n log ≤ n + 1
turn_few id n log below =
    let (slot, at) = at_there 0 log (omega (arith, below)) in
    let first = turn_first id slot log at in
    let one = up_one (begins_on id slot) 0 in
    let up = turn_up id 0 n log (omega arith) below in
    let high = one.1 in
    let climb = up.1 in
    omega (arith, first, high, climb)

-- ---- a later piece of a message

goes_on : (id : ℕ) (f : Piece) → 0 < f.start → begins_on id (Some f) ≡ false
goes_on id f inside = elim (eqb_tells f.start 0) [ inl e ↦ absurd (let none : f.start ≡ 0 = e.1 in omega (arith, none, inside)) | inr e ↦ rw e.0 refl ]

pub turn_inside : (id n : ℕ) (f : Piece) (log : List Slot) → at_place (n + 1) log ≡ Some (Some f) → 0 < f.start → turn_of_tsn id (n + 1) log ≡ turn_of_tsn id n log
unfolding after
turn_inside id n f log at inside = turn_next id n (Some f) log at ∙ ap (λ (b : Bool). if b then suc (turn_of_tsn id n log) else turn_of_tsn id n log) (goes_on id f inside)

pub turn_none : (id : ℕ) (f : Piece) (log : List Slot) → at_place 0 log ≡ Some (Some f) → 0 < f.start → turn_of_tsn id 0 log ≡ 0
unfolding after
turn_none id f log at inside = turn_first id (Some f) log at ∙ ap (λ (b : Bool). if b then suc 0 else 0) (goes_on id f inside)

-- ---- the first piece of a message

-- The TSN carries the first piece of an ordered message of the stream.
pub record IsFirstAt (log : List Slot) (id n : ℕ) : Type 0 where
  pub piece : Piece
  pub is : CarriesOrdered log id n piece
  pub start : piece.start ≡ 0

not_true : (b : Bool) → not b ≡ true → b ≡ false
not_true true e = absurd (cc)
not_true false e = refl

first_of : (log : List Slot) (id n : ℕ) (slot : Slot) → at_place n log ≡ Some slot → begins_on id slot ≡ true → IsFirstAt log id n
first_of log id n None at e = absurd (cc)
first_of log id n (Some piece) at e =
    let (front, ordered) = both ((piece.start == 0) && (piece.message.stream == id)) (not piece.message.is_unordered) e in
    let (start, on) = both (piece.start == 0) (piece.message.stream == id) front in
    record { piece = piece; is = record { at = at; stream = eqb-true piece.message.stream id on; ordered = not_true piece.message.is_unordered ordered }; start = eqb-true piece.start 0 start }

-- it is counted
first_counts : (log : List Slot) (id n : ℕ) (f : IsFirstAt log id (n + 1)) → turn_of_tsn id (n + 1) log ≡ turn_of_tsn id n log + 1
unfolding after
first_counts log id n f =
    turn_next id n (Some f.piece) log f.is.at ∙ go (begins_on id (Some f.piece)) (begins f.piece f.start f.is.stream f.is.ordered)
  where
    begins : (g : Piece) → g.start ≡ 0 → g.message.stream ≡ id → g.message.is_unordered ≡ false → begins_on id (Some g) ≡ true
    begins g start on ordered =
        elim (eqb_tells g.start 0) [
          | inr e ↦ absurd (e.1 start)
          | inl e ↦ elim (eqb_tells g.message.stream id) [
            | inr e' ↦ absurd (e'.1 on)
            | inl e' ↦ rw e.0 (rw e'.0 (rw ordered refl))
          ]
        ]

    go : (b : Bool) → b ≡ true → (if b then suc (turn_of_tsn id n log) else turn_of_tsn id n log) ≡ turn_of_tsn id n log + 1
    go true e = omega arith
    go false e = absurd (cc)

-- what comes before it has a lower count
pub first_above : (log : List Slot) (id m n : ℕ) → IsFirstAt log id n → m < n → turn_of_tsn id m log < turn_of_tsn id n log
first_above log id m zero f less = absurd (omega (arith, less))
first_above log id m (suc n) f less =
    let is : n + 1 ≡ suc n = omega arith in
    let below = at_below (suc n) (Some f.piece) log f.is.at in
    let counts = first_counts log id n (subst (λ (k : ℕ). IsFirstAt log id k) (sym is) f) in
    let counts' : turn_of_tsn id (suc n) log ≡ turn_of_tsn id n log + 1 = ap (λ (k : ℕ). turn_of_tsn id k log) (sym is) ∙ counts in
    let up = turn_up id m n log (omega (arith, less)) (omega (arith, below)) in
    let low = up.0 in
    omega (arith, counts', low)

pub one_first : (log : List Slot) (id m n : ℕ) → IsFirstAt log id m → IsFirstAt log id n → turn_of_tsn id m log ≡ turn_of_tsn id n log → m ≡ n
one_first log id m n f g same = elim (leb_tells m n) [
  | inl e ↦ elim (leb_tells n m) [
    | inl e' ↦ (let a : m ≤ n = e.1 in let b : n ≤ m = e'.1 in omega (arith, a, b))
    | inr e' ↦ absurd (let less : m < n = e'.1 in let up = first_above log id m n g less in omega (arith, up, same))
  ]
  | inr e ↦ absurd (let less : n < m = e.1 in let up = first_above log id n m f less in omega (arith, up, same))
]

-- Each count up to that of a TSN is one of a first piece.
pub record FirstOf (log : List Slot) (id turn n : ℕ) : Type 0 where
  pub offset : ℕ
  pub first : IsFirstAt log id offset
  pub is : turn_of_tsn id offset log ≡ turn
  pub up_to : offset ≤ n

pub first_with : (log : List Slot) (id turn n : ℕ) → n < length log → 0 < turn → turn ≤ turn_of_tsn id n log → FirstOf log id turn n
unfolding after
first_with log id turn zero below some up =
    let (slot, at) = at_there 0 log below in
    go slot at (turn_first id slot log at)
  where
    go : (slot : Slot) → at_place 0 log ≡ Some slot → turn_of_tsn id 0 log ≡ after (begins_on id slot) 0 → FirstOf log id turn 0
    go slot at first = by (begins_on id slot) refl
      where
        by : (c : Bool) → begins_on id slot ≡ c → FirstOf log id turn 0
        by true e =
            let one : turn_of_tsn id 0 log ≡ 1 = first ∙ ap (λ (c : Bool). if c then suc 0 else 0) e in
            record { offset = 0; first = first_of log id 0 slot at e; is = omega (arith, one, some, up); up_to = omega arith }
        by false e = absurd (let none : turn_of_tsn id 0 log ≡ 0 = first ∙ ap (λ (c : Bool). if c then suc 0 else 0) e in omega (arith, none, some, up))
first_with log id turn (suc n) below some up =
    elim (leb_tells turn (turn_of_tsn id n log)) [
      | inl e ↦ (let rest = first_with log id turn n (omega (arith, below)) some e.1 in record { offset = rest.offset; first = rest.first; is = rest.is; up_to = (let low = rest.up_to in omega (arith, low)) })
      | inr e ↦
          (let more : turn_of_tsn id n log < turn = e.1 in
          let is : n + 1 ≡ suc n = omega arith in
          let (slot, at) = at_there (suc n) log below in
          let next : turn_of_tsn id (suc n) log ≡ after (begins_on id slot) (turn_of_tsn id n log) = ap (λ (k : ℕ). turn_of_tsn id k log) (sym is) ∙ turn_next id n slot log (ap (λ (k : ℕ). at_place k log) is ∙ at) in
          here more slot at next)
    ]
  where
    here : turn_of_tsn id n log < turn → (slot : Slot) → at_place (suc n) log ≡ Some slot → turn_of_tsn id (suc n) log ≡ after (begins_on id slot) (turn_of_tsn id n log) → FirstOf log id turn (suc n)
    here more slot at next = by (begins_on id slot) refl
      where
        by : (c : Bool) → begins_on id slot ≡ c → FirstOf log id turn (suc n)
        by true e =
            let one : turn_of_tsn id (suc n) log ≡ suc (turn_of_tsn id n log) = next ∙ ap (λ (c : Bool). if c then suc (turn_of_tsn id n log) else turn_of_tsn id n log) e in
            record { offset = suc n; first = first_of log id (suc n) slot at e; is = omega (arith, one, more, up); up_to = omega arith }
        by false e = absurd (let none : turn_of_tsn id (suc n) log ≡ turn_of_tsn id n log = next ∙ ap (λ (c : Bool). if c then suc (turn_of_tsn id n log) else turn_of_tsn id n log) e in omega (arith, none, more, up))
