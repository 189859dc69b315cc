-- Stream sequence numbers are read right where no data of the stream is skipped.
use Rattle.std.proofs.Common.{◌≡◌, ℕ, false, ◌<◌, ◌≤◌, ◌+◌, ◌-◌, ◌%◌, ◌^◌, List, [], ◌∷◌, refl, sym, ◌∙◌, ap, arith, subst, inl, inr}
use Rattle.std.specs.Prelude.{Some}
use Rattle.std.proofs.lemmas.Bool.Decides.{nat_tests, eqb_tells, leb_tells}
use Rattle.dcsctp_spec_lemmas.specs.spec.queues.Numbers.{short_number_from}
use Rattle.dcsctp_spec_lemmas.specs.spec.queues.Runs.{PartModel, WholeModel}
use Rattle.dcsctp_spec_lemmas.specs.spec.queues.IncomingStreams.{StreamModel, is_number_waiting}
use Rattle.dcsctp_delivery_directions.specs.sending.Places.{HasEntry}
use Rattle.dcsctp_delivery_directions.specs.sending.Log.{Message, Piece, History, IsLogOfPieces, sent_messages}
use Rattle.dcsctp_delivery_directions.specs.sending.Turns.{turn_of_tsn, IsSsnOfTurn}
use Rattle.dcsctp_delivery_directions.proofs.sending.Places.{at_below}
use Rattle.dcsctp_delivery_directions.specs.receiving.Rows.{AreRows, Spent}
use Rattle.dcsctp_delivery_directions.specs.receiving.Ready.{IsOn, ordered_base}
use Rattle.dcsctp_delivery_directions.proofs.receiving.SpentRows.{was_handled}
use Rattle.dcsctp_delivery_directions.specs.order.Rising.{IsAhead}
use Rattle.dcsctp_delivery_directions.specs.order.Order.{IsReadAs, AreReadAs}
use Rattle.dcsctp_delivery_directions.specs.order.Plain.{number_of_tsn, with_turns, CountsPlain, CarriesOrdered, PlainStream}
use Rattle.dcsctp_delivery_directions.proofs.order.PlainTurns.{turn_up, turn_few, first_above, first_with}
use Rattle.dcsctp_delivery_directions.proofs.order.PlainRows.{some_turn, sent_as, one_message}
use Rattle.dcsctp_delivery_directions.proofs.order.PlainMissing.{PassedOn, incomplete}

pub from_exact : (next number : ℕ) → next ≤ number → number < next + 2 ^ 16 → number + 1 < 2 ^ 64 → short_number_from next (number % 2 ^ 16) ≡ number
from_exact next number low high small = grind (arith, nat_tests)

pub ssn_agrees : (ssn turn number : ℕ) → 0 < turn → (ssn + 1) % 2 ^ 16 ≡ turn % 2 ^ 16 → number + 1 ≡ 2 ^ 32 + turn → ssn % 2 ^ 16 ≡ number % 2 ^ 16
ssn_agrees ssn turn number some is of = omega (arith, some, is, of)

module _ (queued : List Message) (history : History) (cut : IsLogOfPieces queued history.log) (id : ℕ) (counts : CountsPlain id history) where
  -- the message of a TSN has its number
  pub read_as : (n : ℕ) (f : Piece) → CarriesOrdered history.log id n f → IsReadAs (with_turns history) id f.place (number_of_tsn id n history.log)
  read_as n f is =
      let some = some_turn queued history cut id counts n f is in
      record { mid = turn_of_tsn id n history.log - 1; sent = sent_as queued history cut id counts n f is; counted = omega (arith, some) }

  -- a message with this number is that of the TSN
  pub is_it : (n : ℕ) (f : Piece) (place : ℕ) → CarriesOrdered history.log id n f → IsReadAs (with_turns history) id place (number_of_tsn id n history.log) → place ≡ f.place
  is_it n f place is read =
      let own = read_as n f is in
      one_message queued history cut id counts place f.place read.mid own.mid read.sent own.sent (let a = read.counted in let b = own.counted in omega (arith, a, b))

  pub in_reach : (n : ℕ) (f : Piece) → CarriesOrdered history.log id n f → (2 ^ 32 ≤ number_of_tsn id n history.log) × (number_of_tsn id n history.log < 2 ^ 32 + 2 ^ 31)
  in_reach n f is =
      let some = some_turn queued history cut id counts n f is in
      let below = at_below n (Some f) history.log is.at in
      let few = turn_few id n history.log below in
      let all = counts.few in
      (omega (arith, some), omega (arith, some, few, below, all))

  -- no message that waits has the number of one that doesn't
  pub none_waits : (n : ℕ) (f : Piece) → CarriesOrdered history.log id n f → (waits : List ℕ) (waiting : List WholeModel) → AreReadAs (with_turns history) id waits waiting → (HasEntry f.place waits → ⊥)
      → is_number_waiting (number_of_tsn id n history.log) waiting ≡ false
  none_waits n f is [] [] are fresh = refl
  none_waits n f is [] (w ∷ waiting) are fresh = absurd are
  none_waits n f is (p ∷ waits) [] are fresh = absurd are
  none_waits n f is (p ∷ waits) (w ∷ waiting) are fresh =
      elim (eqb_tells w.number (number_of_tsn id n history.log)) [
        | inl e ↦ absurd (fresh (inl (sym (is_it n f p is (subst (λ (k : ℕ). IsReadAs (with_turns history) id p k) e.1 are.0)))))
        | inr e ↦ rw e.0 (none_waits n f is waits waiting are.1 (λ has. fresh (inr has)))
      ]

  module _ (got : List ℕ) (base : ℕ) (all waits : List ℕ) (stream : StreamModel) (s : PlainStream (sent_messages queued history) got base id all waits stream) where
    pub plain_ahead : (n : ℕ) (f : Piece) (part : PartModel) → CarriesOrdered history.log id n f → part.number ≡ number_of_tsn id n history.log → stream.next ≤ part.number → (HasEntry f.place waits → ⊥) → IsAhead part stream
    plain_ahead n f part is number from fresh =
        record {
          from = from;
          counted = (let below = (in_reach n f is).1 in omega (arith, below, number));
          fresh = ap (λ (k : ℕ). is_number_waiting k stream.waiting) number ∙ none_waits n f is waits stream.waiting s.order.waiting fresh;
        }

    module _ (rows : AreRows history.log got (ordered_base base) (IsOn history id) stream.ordered)
        (spent : (place : ℕ) → HasEntry place all → Spent history.log got place) (cumulative : ℕ) (passed : (k : ℕ) → k < cumulative → PassedOn history.log got id k)
        (n : ℕ) (f : Piece) (is : CarriesOrdered history.log id n f) (fresh : HasEntry n got → ⊥) (window : n < cumulative + 2 ^ 16) where
      -- its message wasn't delivered
      not_past : stream.next ≤ number_of_tsn id n history.log
      not_past = elim (leb_tells stream.next (number_of_tsn id n history.log)) [
        | inl e ↦ e.1
        | inr e ↦
            absurd
            (let found = s.filled (number_of_tsn id n history.log) (in_reach n f is).0 e.1 in
            let same = is_it n f found.place is found.is in
            fresh (was_handled queued history.log cut got found.place (spent found.place found.has) n f is.at (sym same)))
      ]

      -- fewer than 2^16 messages were begun since the next one, of which a TSN is missing
      not_far : number_of_tsn id n history.log < stream.next + 2 ^ 16
      not_far = elim (leb_tells (stream.next + 2 ^ 16) (number_of_tsn id n history.log)) [
        | inr e ↦ e.1
        | inl e ↦
            absurd
            (let far : stream.next + 2 ^ 16 ≤ number_of_tsn id n history.log = e.1 in
            let from = s.from in
            let below = at_below n (Some f) history.log is.at in
            let b = first_with history.log id (stream.next - 2 ^ 32 + 1) n below (omega arith) (omega (arith, far, from)) in
            let later = first_with history.log id (stream.next - 2 ^ 32 + 2) n below (omega arith) (omega (arith, far, from)) in
            let turn = b.is in
            let turn' = later.is in
            let less : b.offset < later.offset = elim (leb_tells later.offset b.offset) [
              | inr t ↦ t.1
              | inl t ↦ absurd (let up = (turn_up id later.offset b.offset history.log t.1 (at_below b.offset (Some b.first.piece) history.log b.first.is.at)).0 in omega (arith, up, turn, turn'))
            ] in
            incomplete queued history cut id counts b.offset b.first later.offset later.first got base stream less rows s.runs (omega (arith, turn, from)) s.apart s.order.ahead s.held
            (λ k low' to. passed k
            (let climb = (turn_up id k n history.log (let end = later.up_to in omega (arith, to, end)) below).1 in
            let up = first_above history.log id k later.offset later.first to in
            omega (arith, climb, up, turn', far, from, window))))
      ]

      pub ssn_is_read : (stream.next ≤ number_of_tsn id n history.log) × (short_number_from stream.next (f.ssn % 2 ^ 16) ≡ number_of_tsn id n history.log)
      ssn_is_read =
          let turn : IsSsnOfTurn f.ssn (turn_of_tsn id n history.log) = counts.sent n f is in
          let some = turn.some in
          let below = (in_reach n f is).1 in (
            not_past,
            ap (short_number_from stream.next) (ssn_agrees f.ssn (turn_of_tsn id n history.log) (number_of_tsn id n history.log) turn.some turn.is (omega (arith, some)))
                ∙ from_exact stream.next (number_of_tsn id n history.log) not_past not_far (omega (arith, below)),
          )
