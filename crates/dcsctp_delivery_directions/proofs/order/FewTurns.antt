-- Where few ordered messages are queued on each stream, few are begun. None goes on after its end.
use Rattle.std.proofs.Common.{◌≡◌, ◌==◌, ℕ, zero, suc, Bool, true, false, ◌<◌, ◌≤◌, ◌+◌, ◌-◌, ◌^◌, List, [], ◌∷◌, length, refl, sym, ◌∙◌, ap, arith, subst, inl, inr}
use Rattle.std.specs.Prelude.{◌&&◌, ◌⊎◌, not, nat_lt, None, Some, if◌then◌else◌}
use Rattle.std.proofs.lemmas.Bool.{eqb-true}
use Rattle.std.proofs.lemmas.Bool.Decides.{nat_tests, eqb_tells, leb_tells}
use Rattle.dcsctp_delivery_directions.specs.sending.Places.{at_place}
use Rattle.dcsctp_delivery_directions.specs.sending.Log.{Message, Piece, Slot, IsEndSlot, History, IsLogOfPieces, is_end}
use Rattle.dcsctp_delivery_directions.specs.sending.Turns.{turn_of_tsn}
use Rattle.dcsctp_delivery_directions.proofs.sending.Places.{at_below, at_cases}
use Rattle.dcsctp_delivery_directions.specs.order.Plain.{CountsPlain, CarriesOrdered}
use Rattle.dcsctp_delivery_directions.specs.order.PlainDirections.{ordered_on, FewOnEachStream}
use Rattle.dcsctp_delivery_directions.proofs.order.PlainTurns.{turn_up, first_above, first_with}
use Rattle.dcsctp_delivery_directions.proofs.order.PlainRows.{row_of, later_turn}

-- ---- how many of a stream were queued before a place

is_on : ℕ → Message → Bool
is_on id message = (message.stream == id) && not message.is_unordered

more_if : Bool → ℕ → ℕ
more_if b k = if b then suc k else k

before : ℕ → ℕ → List Message → ℕ
before id place [] = 0
before id place (message ∷ earlier) = more_if (nat_lt (length earlier) place && is_on id message) (before id place earlier)

more_less : (a b : Bool) (j k : ℕ) → (a ≡ true → b ≡ true) → j ≤ k → more_if a j ≤ more_if b k
unfolding more_if
more_less true true j k up le = omega (arith, le)
more_less true false j k up le = absurd (let clash : false ≡ true = up refl in cc)
more_less false true j k up le = omega (arith, le)
more_less false false j k up le = le

lower : (n p q : ℕ) (b : Bool) → p ≤ q → (nat_lt n p && b) ≡ true → (nat_lt n q && b) ≡ true
lower n p q true le e = grind (arith, nat_tests, le, e)
lower n p q false le e = absurd (go (nat_lt n p) e)
  where
    go : (a : Bool) → (a && false) ≡ true → ⊥
    go true e' = absurd (cc)
    go false e' = absurd (cc)

before_up : (id p q : ℕ) (queued : List Message) → p ≤ q → before id p queued ≤ before id q queued
unfolding before
before_up id p q [] le = omega arith
before_up id p q (m ∷ queued) le =
    more_less (nat_lt (length queued) p && is_on id m) (nat_lt (length queued) q && is_on id m) (before id p queued) (before id q queued) (lower (length queued) p q (is_on id m) le) (before_up id p q queued le)

both_on : (a b : Bool) → (a && b) ≡ true → b ≡ true
both_on true b e = e
both_on false b e = absurd (cc)

before_all : (id p : ℕ) (queued : List Message) → before id p queued ≤ ordered_on id queued
unfolding before is_on more_if
before_all id p [] = omega arith
before_all id p (m ∷ queued) = more_less (nat_lt (length queued) p && is_on id m) (is_on id m) (before id p queued) (ordered_on id queued) (both_on (nat_lt (length queued) p) (is_on id m)) (before_all id p queued)

-- one of the stream counts
before_one : (id place : ℕ) (message : Message) (queued : List Message) → at_place place queued ≡ Some message → is_on id message ≡ true → before id place queued + 1 ≤ before id (place + 1) queued
unfolding before more_if
before_one id place message [] at on = absurd (cc)
before_one id place message (m ∷ queued) at on =
    elim (at_cases place m message queued at) [
      | inl e ↦
          (let last : place ≡ length queued = e.0 in
          let here : is_on id m ≡ true = ap (is_on id) e.1 ∙ on in
          let not_yet : nat_lt (length queued) place ≡ false = grind (arith, nat_tests, last) in
          let soon : nat_lt (length queued) (place + 1) ≡ true = grind (arith, nat_tests, last) in
          let up = before_up id place (place + 1) queued (omega arith) in
          here_counts (nat_lt (length queued) place) (nat_lt (length queued) (place + 1)) (is_on id m) (before id place queued) (before id (place + 1) queued) not_yet soon here up)
      | inr old ↦
          (let low = at_below place message queued old in
          let a : nat_lt (length queued) place ≡ false = grind (arith, nat_tests, low) in
          let b : nat_lt (length queued) (place + 1) ≡ false = grind (arith, nat_tests, low) in
          let rest = before_one id place message queued old on in
          others (nat_lt (length queued) place) (nat_lt (length queued) (place + 1)) (is_on id m) (before id place queued) (before id (place + 1) queued) a b rest)
    ]
  where
    here_counts : (a b c : Bool) (j k : ℕ) → a ≡ false → b ≡ true → c ≡ true → j ≤ k → more_if (a && c) j + 1 ≤ more_if (b && c) k
    here_counts true b c j k is is' on' le = absurd (cc)
    here_counts false false c j k is is' on' le = absurd (cc)
    here_counts false true false j k is is' on' le = absurd (cc)
    here_counts false true true j k is is' on' le = omega (arith, le)

    others : (a b c : Bool) (j k : ℕ) → a ≡ false → b ≡ false → j + 1 ≤ k → more_if (a && c) j + 1 ≤ more_if (b && c) k
    others true b c j k is is' le = absurd (cc)
    others false true c j k is is' le = absurd (cc)
    others false false c j k is is' le = le

-- ---- how many were begun

-- The SSNs of the log count its messages, of which fewer than 2^15 were begun on each stream.
pub record CountsFew (history : History) : Type 0 where
  pub plain : (id : ℕ) → CountsPlain id history
  pub low : (id n : ℕ) (f : Piece) → CarriesOrdered history.log id n f → turn_of_tsn id n history.log < 2 ^ 15

module _ (queued : List Message) (history : History) (cut : IsLogOfPieces queued history.log) (id : ℕ) (counts : CountsPlain id history) where
  on_stream : (n : ℕ) (f : Piece) → CarriesOrdered history.log id n f → is_on id f.message ≡ true
  unfolding is_on
  on_stream n f is = elim (eqb_tells f.message.stream id) [
    | inl e ↦ rw e.0 (rw is.ordered refl)
    | inr e ↦ absurd (e.1 is.stream)
  ]

  -- each message that was begun up to this one was queued up to it
  turn_queued : (turn n : ℕ) (f : Piece) → CarriesOrdered history.log id n f → turn_of_tsn id n history.log ≡ turn → turn ≤ before id (f.place + 1) queued
  turn_queued zero n f is same = omega arith
  turn_queued (suc turn) n f is same =
      let one = before_one id f.place f.message queued (cut.pieces n f is.at).at (on_stream n f is) in
      elim (eqb_tells turn 0) [
        | inl e ↦ (let none : turn ≡ 0 = e.1 in omega (arith, one, none))
        | inr e ↦
            (let ne : turn ≡ 0 → ⊥ = e.1 in
            let b = first_with history.log id turn n (at_below n (Some f) history.log is.at) (omega (arith, ne)) (omega (arith, same)) in
            let turn_is = b.is in
            let rest = turn_queued turn b.offset b.first.piece b.first.is b.is in
            let less = later_turn queued history cut id counts b.offset n b.first.piece f b.first.is is (omega (arith, turn_is, same)) in
            let up = before_up id (b.first.piece.place + 1) f.place queued (omega (arith, less)) in
            omega (arith, rest, up, one))
      ]

  begins_few : ordered_on id queued < 2 ^ 15 → (n : ℕ) (f : Piece) → CarriesOrdered history.log id n f → turn_of_tsn id n history.log < 2 ^ 15
  begins_few few n f is =
      let up = turn_queued (turn_of_tsn id n history.log) n f is refl in
      let all = before_all id (f.place + 1) queued in
      omega (arith, up, all, few)

pub counts_few : (queued : List Message) (history : History) → IsLogOfPieces queued history.log → ((id : ℕ) → CountsPlain id history) → FewOnEachStream queued → CountsFew history
counts_few queued history cut counts few = record { plain = counts; low = λ id. begins_few queued history cut id (counts id) (few id) }

-- ---- messages that have ended

-- The messages of the stream that were begun up to this count have ended.
pub record IsClosed (log : List Slot) (id turn : ℕ) : Type 0 where
  pub offset : ℕ
  pub slot : Slot
  pub at : at_place offset log ≡ Some slot
  pub ends : IsEndSlot slot ⊎ (2 ^ 31 ≤ offset + 2)
  pub reached : turn ≤ turn_of_tsn id offset log

module _ (queued : List Message) (history : History) (cut : IsLogOfPieces queued history.log) (counts : (id : ℕ) → CountsPlain id history) where
  -- their TSNs come before that
  pub none_after : (id turn n : ℕ) (f : Piece) (c : IsClosed history.log id turn) → CarriesOrdered history.log id n f → turn_of_tsn id n history.log ≤ turn → n ≤ c.offset
  none_after id turn n f c is low =
      elim (leb_tells n c.offset) [
        | inl e ↦ e.1
        | inr e ↦ absurd (elim c.ends [
          | inl ends ↦ gone_on e.1 ends
          | inr last ↦ (let after : c.offset < n = e.1 in let below = at_below n (Some f) history.log is.at in let few = (counts 0).few in omega (arith, after, below, few, last))
        ])
      ]
    where
      gone_on : c.offset < n → IsEndSlot c.slot → ⊥
      gone_on after ends =
          let up = (turn_up id c.offset n history.log (omega (arith, after)) (at_below n (Some f) history.log is.at)).0 in
          let reached = c.reached in
          let row = row_of queued history cut id (counts id) n f is in
          let turn_is = row.turn in
          let from : row.from ≤ c.offset = elim (leb_tells row.from c.offset) [
            | inl t ↦ t.1
            | inr t ↦ absurd (let above = first_above history.log id c.offset row.from row.first t.1 in omega (arith, above, turn_is, up, reached, low))
          ] in
          let next = row.inside (c.offset + 1) (omega (arith, from)) (omega (arith, after)) in
          let kind : next.piece.is_interleaved ≡ false = (counts 0).kinds (c.offset + 1) next.piece next.at in
          let b = cut.rows (c.offset + 1) next.piece next.at next.inside (inl (inl kind, omega arith)) in
          let here : b.earlier ≡ c.offset = (let near = b.near (inl kind) in omega (arith, near)) in
          let at : at_place c.offset history.log ≡ Some (Some b.before) = subst (λ (k : ℕ). at_place k history.log ≡ Some (Some b.before)) here b.at in
          let end : is_end b.before ≡ true = ended c.slot b.before c.at at ends in
          let whole = eqb-true (b.before.start + b.before.size) (length b.before.message.payload) end in
          let size : length b.before.message.payload ≡ length next.piece.message.payload = ap (λ (m : Message). length m.payload) b.message in
          let piece = cut.pieces (c.offset + 1) next.piece next.at in
          let some = piece.some in
          let within = piece.within in
          let start = b.start in
          omega (arith, whole, size, some, within, start)
        where
          ended : (slot : Slot) (g : Piece) → at_place c.offset history.log ≡ Some slot → at_place c.offset history.log ≡ Some (Some g) → IsEndSlot slot → is_end g ≡ true
          ended None g one two e = absurd (let both : Some None ≡ Some (Some g) = sym one ∙ two in cc)
          ended (Some p) g one two e = (let both : Some (Some p) ≡ Some (Some g) = sym one ∙ two in let same : p ≡ g = cc in ap (λ (x : Piece). is_end x) (sym same) ∙ e)

  -- the pieces of a message have one count
  pub one_turn : (id m n : ℕ) (f g : Piece) → CarriesOrdered history.log id m f → CarriesOrdered history.log id n g → f.place ≡ g.place → turn_of_tsn id m history.log ≡ turn_of_tsn id n history.log
  one_turn id m n f g is is' same =
      elim (leb_tells (turn_of_tsn id m history.log) (turn_of_tsn id n history.log)) [
        | inr e ↦ absurd (let up = later_turn queued history cut id (counts id) n m g f is' is e.1 in omega (arith, up, same))
        | inl e ↦ elim (leb_tells (turn_of_tsn id n history.log) (turn_of_tsn id m history.log)) [
          | inr e' ↦ absurd (let up = later_turn queued history cut id (counts id) m n f g is is' e'.1 in omega (arith, up, same))
          | inl e' ↦ (let a : turn_of_tsn id m history.log ≤ turn_of_tsn id n history.log = e.1 in let b : turn_of_tsn id n history.log ≤ turn_of_tsn id m history.log = e'.1 in omega (arith, a, b))
        ]
      ]

  -- a number that was reached is low
  pub closed_low : (few : CountsFew history) (id next : ℕ) → 2 ^ 32 ≤ next → (next ≡ 2 ^ 32) ⊎ IsClosed history.log id (next - 2 ^ 32) → next < 2 ^ 32 + 2 ^ 15
  closed_low few id next from (inl is) = omega (arith, is)
  closed_low few id next from (inr c) =
      elim (eqb_tells next (2 ^ 32)) [
        | inl e ↦ (let is : next ≡ 2 ^ 32 = e.1 in omega (arith, is))
        | inr e ↦
            (let ne : next ≡ 2 ^ 32 → ⊥ = e.1 in
            let b = first_with history.log id (next - 2 ^ 32) c.offset (at_below c.offset c.slot history.log c.at) (omega (arith, from, ne)) c.reached in
            let low = few.low id b.offset b.first.piece b.first.is in
            let turn = b.is in
            omega (arith, low, turn, from))
      ]
