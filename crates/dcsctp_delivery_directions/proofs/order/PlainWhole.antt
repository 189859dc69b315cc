-- Without interleaving a message is ready once all TSNs up to its last were handled.
use Rattle.std.proofs.Common.{◌≡◌, ℕ, true, ◌<◌, ◌≤◌, ◌+◌, ◌-◌, ◌^◌, List, length, arith, subst, inl, inr}
use Rattle.std.specs.Prelude.{Some}
use Rattle.std.proofs.lemmas.Bool.Decides.{eqb_tells, leb_tells}
use Rattle.dcsctp_spec_lemmas.specs.spec.queues.IncomingStreams.{StreamModel}
use Rattle.dcsctp_delivery_directions.specs.sending.Places.{HasEntry}
use Rattle.dcsctp_delivery_directions.specs.sending.Log.{Message, Piece, History, IsLogOfPieces, is_end, sent_messages}
use Rattle.dcsctp_delivery_directions.specs.sending.Turns.{turn_of_tsn}
use Rattle.dcsctp_delivery_directions.proofs.sending.Places.{at_below}
use Rattle.dcsctp_delivery_directions.specs.receiving.Rows.{AreRows}
use Rattle.dcsctp_delivery_directions.specs.receiving.Ready.{IsOn, ordered_base}
use Rattle.dcsctp_delivery_directions.specs.order.Plain.{number_of_tsn, CountsPlain, CarriesOrdered, PlainStream}
use Rattle.dcsctp_delivery_directions.proofs.order.PlainMissing.{PassedOn, incomplete, incomplete_last}
use Rattle.dcsctp_delivery_directions.proofs.order.PlainReading.{is_it, in_reach}
use Rattle.dcsctp_delivery_directions.proofs.order.PlainRows.{RowOf, row_of, some_turn}
use Rattle.dcsctp_delivery_directions.proofs.order.PlainTurns.{FirstOf, first_with, one_first, turn_up}

module _ (queued : List Message) (history : History) (cut : IsLogOfPieces queued history.log) (id : ℕ) (counts : CountsPlain id history) (got : List ℕ) (base : ℕ) (all waits : List ℕ) (stream : StreamModel)
    (s : PlainStream (sent_messages queued history) got base id all waits stream) (rows : AreRows history.log got (ordered_base base) (IsOn history id) stream.ordered) where
  module _ (n : ℕ) (f : Piece) (of : CarriesOrdered history.log id n f) (ends : is_end f ≡ true) (passed : (k : ℕ) → k ≤ n → PassedOn history.log got id k) where
    -- The next message isn't this one, nor one before it.
    not_next : stream.next ≤ number_of_tsn id n history.log → ⊥
    not_next late = go (first_with history.log id (stream.next - 2 ^ 32 + 1) n below (omega arith) (omega (arith, late, low, some)))
      where
        below : n < length history.log
        below = at_below n (Some f) history.log of.at

        low : 2 ^ 32 ≤ stream.next
        low = s.from

        some : 0 < turn_of_tsn id n history.log
        some = some_turn queued history cut id counts n f of

        row : RowOf history.log id f.place n
        row = row_of queued history cut id counts n f of

        go : FirstOf history.log id (stream.next - 2 ^ 32 + 1) n → ⊥
        go next =
            let turn = next.is in
            let number : number_of_tsn id next.offset history.log ≡ stream.next = omega (arith, turn, low) in
            elim (eqb_tells row.from next.offset) [
              | inl e ↦
                  incomplete_last queued history cut id counts next.offset next.first n f row of ends e.1 got base stream rows s.runs number s.apart s.order.ahead s.held (λ k from to. passed k to)
              | inr e ↦
                  (let ne : row.from ≡ next.offset → ⊥ = e.1 in
                  let up_to = row.up_to in
                  let turns = row.turn in
                  let before : next.offset < row.from = elim (leb_tells row.from next.offset) [
                    | inr t ↦ t.1
                    | inl t ↦
                        absurd
                        (let back : row.from ≤ next.offset = t.1 in
                        let up = (turn_up id row.from next.offset history.log back (let end = next.up_to in omega (arith, end, below))).0 in
                        let same : turn_of_tsn id row.from history.log ≡ turn_of_tsn id next.offset history.log = omega (arith, up, turns, turn, late, low, some) in
                        ne (one_first history.log id row.from next.offset row.first next.first same))
                  ] in
                  incomplete queued history cut id counts next.offset next.first row.from row.first got base stream before rows s.runs number s.apart s.order.ahead s.held
                  (λ k from to. passed k (omega (arith, to, up_to))))
            ]

    -- So it was read, or is ready.
    pub is_there : HasEntry f.place all
    is_there =
        let reach = in_reach queued history cut id counts n f of in
        let before : number_of_tsn id n history.log < stream.next = elim (leb_tells stream.next (number_of_tsn id n history.log)) [ inl e ↦ absurd (not_next e.1) | inr e ↦ e.1 ] in
        let found = s.filled (number_of_tsn id n history.log) reach.0 before in
        subst (λ (p : ℕ). HasEntry p all) (is_it queued history cut id counts n f found.place of found.is) found.has
