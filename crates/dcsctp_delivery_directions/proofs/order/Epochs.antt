-- What is read of an epoch of a stream leaves none out without limits.
use Rattle.std.proofs.Common.{◌≡◌, ℕ, Bool, true, false, ◌<◌, ◌≤◌, ◌+◌, ◌-◌, ◌^◌, List, [], ◌∷◌, ◌++◌, refl, sym, ◌∙◌, ap, arith, subst, inl, inr}
use Rattle.std.specs.Prelude.{◌⊎◌, Some}
use Rattle.std.proofs.lemmas.Bool.Decides.{eqb_tells, leb_tells}
use Rattle.dcsctp_spec_lemmas.specs.spec.queues.Runs.{WholeModel}
use Rattle.dcsctp_spec_lemmas.specs.spec.queues.IncomingStreams.{new_stream, next_after, due, next_due}
use Rattle.dcsctp_delivery_directions.specs.sending.Places.{HasEntry, at_place}
use Rattle.dcsctp_delivery_directions.specs.sending.Log.{Message, History, IsLogOfPieces}
use Rattle.dcsctp_delivery_directions.proofs.receiving.Distinct.{has_left, has_right, has_either}
use Rattle.dcsctp_delivery_directions.specs.order.Queue.{IsOrderedOn}
use Rattle.dcsctp_delivery_directions.specs.order.Rising.{Rise, FillRow, AscendFrom}
use Rattle.dcsctp_delivery_directions.specs.order.Order.{IsSentAs, IsReadAs, AreReadAs, HasNumber, AreFilled}
use Rattle.dcsctp_delivery_directions.specs.order.Epochs.{AreSentUnlimited, LeaveNoGapSent, IsReadSince, IsLimitedFrom, AreReadByEpoch, SendsEpochsInTurn}
use Rattle.dcsctp_delivery_directions.specs.order.Reading.{CountsFromZero}
use Rattle.dcsctp_delivery_directions.proofs.order.Gaps.{in_row, lower, one_place}
use Rattle.dcsctp_delivery_directions.proofs.order.Rising.{row_rises}

rise_ends : (from end : ℕ) (wholes : List WholeModel) → Rise from end wholes → from ≤ end
rise_ends from end [] up = up
rise_ends from end (w ∷ wholes) up = (let rest = rise_ends (w.number + 1) end wholes up.1 in let first = up.0 in omega (arith, rest, first))

-- What becomes ready was sent since the last reset of the stream.
read_later : (history : History) (id place from end : ℕ) (places : List ℕ) (wholes : List WholeModel) → 2 ^ 32 ≤ from → AreReadAs history id places wholes → Rise from end wholes → HasEntry place places → IsReadSince history id place end
read_later history id place from end [] wholes low are rise has = absurd has
read_later history id place from end (p ∷ places) [] low are rise has = absurd are
read_later history id place from end (p ∷ places) (w ∷ wholes) low are rise has =
    elim has [
      | inl e ↦
          (let r = are.0 in
          let counted = r.counted in
          let up = rise.0 in
          let ends = rise_ends (w.number + 1) end wholes rise.1 in
          record { mid = r.mid; sent = subst (λ (k : ℕ). IsSentAs history id k r.mid) (sym e) r.sent; from = omega (arith, counted, up, low); below = omega (arith, counted, ends) })
      | inr t ↦ read_later history id place (w.number + 1) end places wholes (let up = rise.0 in omega (arith, up, low)) are.1 rise.1 t
    ]

-- What is due has each number from the next one on, up to the one that is missing.
due_has : (history : History) (id from next number : ℕ) (places : List ℕ) (waiting : List WholeModel) → AscendFrom from waiting → AreReadAs history id places (due next waiting) → next ≤ number → number < next_due next waiting
    → HasNumber history id places number
due_has history id from next number places [] up are low less = absurd (omega (arith, low, less))
due_has history id from next number places (w ∷ waiting) up are low less =
    elim (leb_tells w.number next) [
      | inr e ↦ absurd (let under : number < next = rw e.0 at less in omega (arith, low, under))
      | inl e ↦ first places (λ later are' low' less'. due_has history id (w.number + 1) (next_after next w) number later waiting up.2 are' low' less') (rw e.0 at are) (rw e.0 at less)
    ]
  where
    first : (places : List ℕ) → ((later : List ℕ) → AreReadAs history id later (due (next_after next w) waiting) → next_after next w ≤ number → number < next_due (next_after next w) waiting → HasNumber history id later number)
        → AreReadAs history id places (w ∷ due (next_after next w) waiting) → number < next_due (next_after next w) waiting → HasNumber history id places number
    first [] others are' less' = absurd are'
    first (p ∷ places) others are' less' =
        elim (eqb_tells w.number number) [
          | inl same ↦ record { place = p; has = inl refl; is = subst (λ (k : ℕ). IsReadAs history id p k) same.1 are'.0 }
          | inr other ↦
              (let ne : w.number ≡ number → ⊥ = other.1 in
              let small = up.1 in
              let after : next_after next w ≤ number = elim (eqb_tells w.number next) [
                | inl e' ↦ rw e'.0 (let is : w.number ≡ next = e'.1 in omega (arith, is, ne, low, small))
                | inr e' ↦ rw e'.0 low
              ] in
              let rest = others places are'.1 after less' in
              record { place = rest.place; has = inr rest.has; is = rest.is })
        ]

module _ (knows : Bool) (asks : ℕ → Bool) (queued : List Message) (history : History) (id : ℕ) where
  pub new_by_epoch : AreReadByEpoch knows asks queued history id [] (new_stream id).next
  new_by_epoch = record { filled = λ number low less. absurd (omega (arith, low, less)); since = λ later has on. absurd has }

  -- messages that become ready, by rising numbers
  since_more : (next end : ℕ) (all more : List ℕ) (delivered : List WholeModel) → AreReadAs history id more delivered → Rise next end delivered → 2 ^ 32 ≤ next → AreReadByEpoch knows asks queued history id all next
      → ((number : ℕ) → next ≤ number → number < end → HasNumber history id more number ⊎ IsLimitedFrom knows history id number) → AreReadByEpoch knows asks queued history id (all ++ more) end
  since_more next end all more delivered are rise low o fills =
      record {
        filled = λ number some less. elim (leb_tells next number) [
          | inl e ↦ elim (fills number e.1 less) [
            | inl found ↦ inl (record { place = found.place; has = has_right found.place all more found.has; is = found.is })
            | inr limited ↦ inr limited
          ]
          | inr e ↦ elim (o.filled number some e.1) [
            | inl found ↦ inl (record { place = found.place; has = has_left found.place all more found.has; is = found.is })
            | inr limited ↦ inr limited
          ]
        ];
        since = λ later has on. elim (has_either later all more has) [
          | inr new ↦ inl (read_later history id later next end more delivered low are rise new)
          | inl old ↦ elim (o.since later old on) [
            | inl r ↦ inl (record { mid = r.mid; sent = r.sent; from = r.from; below = (let below = r.below in let ends = rise_ends next end delivered rise in omega (arith, below, ends)) })
            | inr whole ↦ inr (λ earlier on' free less one unlimited. has_left earlier all more (whole earlier on' free less one unlimited))
          ]
        ];
      }

  -- a row of them
  pub row_by_epoch : (next end : ℕ) (all more : List ℕ) (delivered : List WholeModel) → AreReadAs history id more delivered → FillRow next end delivered → 2 ^ 32 ≤ next → AreReadByEpoch knows asks queued history id all next
      → AreReadByEpoch knows asks queued history id (all ++ more) end
  row_by_epoch next end all more delivered are row low o = since_more next end all more delivered are (row_rises next end delivered row) low o (λ number from less. inl (in_row history id next end more delivered are row number from less))

  -- those that are due once messages up to one with limits are skipped
  pub skip_by_epoch : (old next end from : ℕ) (all more : List ℕ) (waiting : List WholeModel) → AscendFrom from waiting → end ≡ next_due next waiting → AreReadAs history id more (due next waiting) → Rise old end (due next waiting) → 2 ^ 32 ≤ old
      → ((number : ℕ) → old ≤ number → number < next → HasNumber history id more number ⊎ IsLimitedFrom knows history id number) → AreReadByEpoch knows asks queued history id all old → AreReadByEpoch knows asks queued history id (all ++ more) end
  skip_by_epoch old next end from all more waiting up ends are rise low limited o =
      since_more old end all more (due next waiting) are rise low o
      (λ number some less. elim (leb_tells next number) [
        | inl e ↦ inl (due_has history id from next number more waiting up are e.1 (omega (arith, less, ends)))
        | inr e ↦ limited number some e.1
      ])

  -- messages of other streams, or unordered ones
  pub others_by_epoch : (next : ℕ) (all more : List ℕ) → ((place : ℕ) → HasEntry place more → IsOrderedOn queued id place → ⊥) → AreReadByEpoch knows asks queued history id all next → AreReadByEpoch knows asks queued history id (all ++ more) next
  others_by_epoch next all more none o =
      record {
        filled = λ number low less. elim (o.filled number low less) [
          | inl found ↦ inl (record { place = found.place; has = has_left found.place all more found.has; is = found.is })
          | inr limited ↦ inr limited
        ];
        since = λ later has on. elim (has_either later all more has) [
          | inr new ↦ absurd (none later new on)
          | inl old ↦ elim (o.since later old on) [
            | inl r ↦ inl r
            | inr whole ↦ inr (λ earlier on' free less one unlimited. has_left earlier all more (whole earlier on' free less one unlimited))
          ]
        ];
      }

  -- a stream whose messages are numbered from 0 again
  pub whole_by_epoch : (all : List ℕ) → LeaveNoGapSent knows asks queued history id all → AreReadByEpoch knows asks queued history id all (new_stream id).next
  whole_by_epoch all whole = record { filled = λ number low less. absurd (omega (arith, low, less)); since = λ later has on. inr (whole later has on) }

  -- Where each epoch is sent in turn, none is left out.
  pub epochs_leave_no_gap : (all : List ℕ) (next : ℕ) → IsLogOfPieces queued history.log → CountsFromZero history id → SendsEpochsInTurn asks queued history id → AreReadByEpoch knows asks queued history id all next → LeaveNoGapSent knows asks queued history id all
  epochs_leave_no_gap all next cut counts turns o later has on =
      elim (o.since later has on) [
        | inr whole ↦ whole
        | inl r ↦ λ earlier on' free less one unlimited. (
            let (mid, sent, from) = turns earlier later r.mid on' free r.sent r.from less one in
            let low : mid < r.mid = lower queued history id counts.follows (one_place history id counts) earlier later mid less sent r.mid r.sent in
            let below = r.below in
            elim (o.filled (2 ^ 32 + (mid - history.floors id false)) (omega arith) (omega (arith, from, low, below))) [
              | inl found ↦
                  (let same : found.is.mid ≡ mid = (let counted = found.is.counted in omega (arith, counted, from)) in
                  subst (λ (k : ℕ). HasEntry k all) (one_place history id counts found.place earlier found.is.mid mid found.is.sent sent same) found.has)
              | inr l ↦ absurd (by_known knows refl earlier on' free mid sent from unlimited l)
            ]
            )
      ]
    where
      -- a message of a number that isn't lower wasn't queued before
      not_before : (p m n : ℕ) → IsSentAs history id p m → (q : ℕ) → IsSentAs history id q n → m ≤ n → p ≤ q
      not_before p m n one q two up =
          elim (leb_tells p q) [
            | inl e ↦ e.1
            | inr e ↦ absurd (let down = lower queued history id counts.follows (one_place history id counts) q p n e.1 two m one in omega (arith, down, up))
          ]

      -- its message would have limits
      by_known : (b : Bool) → knows ≡ b → (earlier : ℕ) (on' : IsOrderedOn queued id earlier) → on'.message.is_limited ≡ false → (mid : ℕ) → IsSentAs history id earlier mid → history.floors id false ≤ mid
          → (knows ≡ false → AreSentUnlimited history id earlier) → IsLimitedFrom knows history id (2 ^ 32 + (mid - history.floors id false)) → ⊥
      by_known true known earlier on' free mid sent from unlimited l =
          let only = l.only known in
          let same : l.piece.mid ≡ mid = omega (arith, only, from) in
          let place : l.piece.place ≡ earlier = one_place history id counts l.piece.place earlier l.piece.mid mid (record { offset = l.offset; piece = l.piece; at = l.at; is = refl; stream = l.stream; ordered = l.ordered; under = refl }) sent same in
          let two : Some l.piece.message ≡ Some on'.message = sym (cut.pieces l.offset l.piece l.at).at ∙ ap (λ (k : ℕ). at_place k queued) place ∙ on'.at in
          let one : l.piece.message ≡ on'.message = cc in
          let clash : true ≡ false = sym l.limited ∙ ap (λ (m : Message). m.is_limited) one ∙ free in
          cc
      by_known false unknown earlier on' free mid sent from unlimited l =
          let up = l.from in
          let above : mid ≤ l.piece.mid = omega (arith, up, from) in
          let no = unlimited unknown l.offset l.piece l.at l.stream l.ordered (not_before earlier mid l.piece.mid sent l.piece.place (record { offset = l.offset; piece = l.piece; at = l.at; is = refl; stream = l.stream; ordered = l.ordered; under = refl }) above) in
          let clash : true ≡ false = sym l.limited ∙ no in
          cc

  -- Where none that was sent has limits, all numbers are there.
  pub all_filled : (all : List ℕ) (next : ℕ) → AreSentUnlimited history id 0 → AreReadByEpoch knows asks queued history id all next → AreFilled history id all next
  all_filled all next unlimited o number low less =
      elim (o.filled number low less) [
        | inl found ↦ found
        | inr l ↦ absurd (let no = unlimited l.offset l.piece l.at l.stream l.ordered (omega arith) in let clash : true ≡ false = sym l.limited ∙ no in cc)
      ]
