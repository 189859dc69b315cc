-- A stream of DATA stays in order as its ordered messages become ready, where few were begun on it.
use Rattle.std.proofs.Common.{◌≡◌, ℕ, Bool, true, ◌<◌, ◌≤◌, ◌+◌, ◌-◌, ◌^◌, List, [], ◌∷◌, ◌++◌, refl, sym, ◌∙◌, ap, arith, subst, inl, inr}
use Rattle.std.specs.Prelude.{◌⊎◌, Some, if◌then◌else◌}
use Rattle.std.proofs.lemmas.Bool.Decides.{eqb_tells, leb_tells}
use Rattle.dcsctp_spec_lemmas.specs.types.queues.Messages.{MessageContent}
use Rattle.dcsctp_spec_lemmas.specs.spec.queues.Runs.{WholeModel}
use Rattle.dcsctp_spec_lemmas.specs.spec.queues.IncomingStreams.{StreamModel, new_stream, due, next_after, next_due}
use Rattle.dcsctp_delivery_directions.specs.sending.Places.{HasEntry, at_place}
use Rattle.dcsctp_delivery_directions.specs.sending.Log.{Message, Piece, History, IsLogOfPieces}
use Rattle.dcsctp_delivery_directions.specs.receiving.Rows.{Spent}
use Rattle.dcsctp_delivery_directions.proofs.receiving.SpentRows.{was_handled}
use Rattle.dcsctp_delivery_directions.specs.order.Queue.{IsOrderedOn}
use Rattle.dcsctp_delivery_directions.specs.order.Rising.{FillRow, AscendFrom, DeliversRising}
use Rattle.dcsctp_delivery_directions.specs.order.Order.{IsReadAs, IsReadBelow, AreReadAs, StreamInOrder}
use Rattle.dcsctp_delivery_directions.specs.order.Plain.{number_of_tsn, with_turns, CountsPlain, CarriesOrdered}
use Rattle.dcsctp_delivery_directions.proofs.order.Order.{order_then, others_stay, new_in_order}
use Rattle.dcsctp_delivery_directions.proofs.order.PlainRows.{turns_follow, sent_from, some_turn}
use Rattle.dcsctp_delivery_directions.proofs.order.PlainReading.{is_it}
use Rattle.dcsctp_delivery_directions.proofs.order.FewTurns.{IsClosed, one_turn}

-- All messages of the stream before this number have ended.
abbrev pub EndedBefore : History → ℕ → ℕ → Type 0
EndedBefore history id next = (next ≡ 2 ^ 32) ⊎ IsClosed history.log id (next - 2 ^ 32)

-- The tracker knows all TSNs of the messages of the stream before this number.
abbrev pub KnownBefore : History → (ℕ → Bool) → ℕ → ℕ → Type 0
KnownBefore history known id next = (n : ℕ) (f : Piece) → CarriesOrdered history.log id n f → number_of_tsn id n history.log < next → known n ≡ true

-- The stream is in order. All messages before the next one have ended, and their TSNs are known to the tracker, whether they were
-- received or passed.
pub record FewStream (queued : List Message) (history : History) (known : ℕ → Bool) (id : ℕ) (all waits : List ℕ) (stream : StreamModel) : Type 0 where
  pub order : StreamInOrder queued (with_turns history) id all waits stream
  pub from : 2 ^ 32 ≤ stream.next
  pub ended : EndedBefore history id stream.next
  pub over : KnownBefore history known id stream.next

-- ---- which numbers become ready

-- All numbers from the one on, below the other, are among these.
abbrev pub HaveNumbers : ℕ → ℕ → List WholeModel → Type 0
HaveNumbers from end wholes = (number : ℕ) → from ≤ number → number < end → (w : WholeModel) × HasEntry w wholes × (w.number ≡ number)

pub row_has : (from end : ℕ) (wholes : List WholeModel) → FillRow from end wholes → HaveNumbers from end wholes
row_has from end [] row number low high = absurd (omega (arith, row, low, high))
row_has from end (w ∷ wholes) row number low high =
    elim (eqb_tells number from) [
      | inl e ↦ (w, inl refl, row.0 ∙ sym e.1)
      | inr e ↦ (let ne : number ≡ from → ⊥ = e.1 in let rest = row_has (from + 1) end wholes row.1 number (omega (arith, low, ne)) high in (rest.0, inr rest.1, rest.2))
    ]

pub due_has : (low next : ℕ) (waiting : List WholeModel) → AscendFrom low waiting → HaveNumbers next (next_due next waiting) (due next waiting)
due_has low next [] up number from below = absurd (omega (arith, from, below))
due_has low next (w ∷ waiting) up number from below =
    elim (leb_tells w.number next) [
      | inl e ↦
          (let small = up.1 in
          let due_so : number < next_due (next_after next w) waiting = subst (λ (b : Bool). number < (if b then next_due (next_after next w) waiting else next)) e.0 below in
          let found : (v : WholeModel) × HasEntry v (w ∷ due (next_after next w) waiting) × (v.number ≡ number) = elim (eqb_tells w.number number) [
            | inl e' ↦ (w, inl refl, e'.1)
            | inr e' ↦
                (let ne : w.number ≡ number → ⊥ = e'.1 in
                let past : next_after next w ≤ number = elim (eqb_tells w.number next) [
                  | inl t ↦ (let is : w.number ≡ next = t.1 in rw t.0 (omega (arith, is, from, ne)))
                  | inr t ↦ rw t.0 from
                ] in
                let rest = due_has (w.number + 1) (next_after next w) waiting up.2 number past due_so in
                (rest.0, inr rest.1, rest.2))
          ] in
          rw e.0 found)
      | inr e ↦ absurd (let none : number < next = subst (λ (b : Bool). number < (if b then next_due (next_after next w) waiting else next)) e.0 below in omega (arith, none, from))
    ]

-- the place of one
place_of : (history : History) (id : ℕ) (places : List ℕ) (wholes : List WholeModel) (w : WholeModel) → AreReadAs history id places wholes → HasEntry w wholes → (p : ℕ) × HasEntry p places × IsReadAs history id p w.number
place_of history id [] [] w are has = absurd has
place_of history id [] (v ∷ wholes) w are has = absurd are
place_of history id (p ∷ places) [] w are has = absurd are
place_of history id (p ∷ places) (v ∷ wholes) w are has =
    elim has [
      | inl e ↦ (p, inl refl, subst (λ (x : WholeModel). IsReadAs history id p x.number) (sym e) are.0)
      | inr t ↦ (let rest = place_of history id places wholes w are.1 t in (rest.0, inr rest.1, rest.2))
    ]

-- ---- what a stream has then

-- a stream on which nothing was received
pub new_few : (queued : List Message) (history : History) (cut : IsLogOfPieces queued history.log) (counts : (id : ℕ) → CountsPlain id history) (known : ℕ → Bool) (id : ℕ) → FewStream queued history known id [] [] (new_stream id)
new_few queued history cut counts known id =
    record {
      order = new_in_order queued (with_turns history) id;
      from = omega arith;
      ended = inl refl;
      over = λ n f is less. absurd (let some = some_turn queued history cut id (counts id) n f is in omega (arith, some, less));
    }

-- more is known
pub known_more : (queued : List Message) (history : History) (known later : ℕ → Bool) (id : ℕ) (all waits : List ℕ) (stream : StreamModel) → ((k : ℕ) → known k ≡ true → later k ≡ true)
    → FewStream queued history known id all waits stream → FewStream queued history later id all waits stream
known_more queued history known later id all waits stream more s = record { order = s.order; from = s.from; ended = s.ended; over = λ n f is less. more n (s.over n f is less) }

-- messages of other streams, or unordered ones
pub others_few : (queued : List Message) (history : History) (known : ℕ → Bool) (id : ℕ) (all waits more : List ℕ) (stream : StreamModel)
    → ((place : ℕ) → HasEntry place more → IsOrderedOn queued id place → ⊥) → FewStream queued history known id all waits stream → FewStream queued history known id (all ++ more) waits stream
others_few queued history known id all waits more stream none s =
    record { order = others_stay queued (with_turns history) id all waits more stream none s.order; from = s.from; ended = s.ended; over = s.over }

-- only the next number and what waits matter
pub alike_few : (queued : List Message) (history : History) (known : ℕ → Bool) (id : ℕ) (all waits : List ℕ) (old new : StreamModel) → new.next ≡ old.next → new.waiting ≡ old.waiting
    → FewStream queued history known id all waits old → FewStream queued history known id all waits new
alike_few queued history known id all waits old new next waiting s =
    record {
      order = record {
        in_order = s.order.in_order;
        below = λ place has on. subst (λ (k : ℕ). IsReadBelow (with_turns history) id place k) (sym next) (s.order.below place has on);
        waiting = subst (λ (l : List WholeModel). AreReadAs (with_turns history) id waits l) (sym waiting) s.order.waiting;
        ahead = subst (λ (k : ℕ). AscendFrom (k + 1) new.waiting) (sym next) (subst (λ (l : List WholeModel). AscendFrom (old.next + 1) l) (sym waiting) s.order.ahead);
      };
      from = (let low = s.from in omega (arith, low, next));
      ended = subst (λ (k : ℕ). EndedBefore history id k) (sym next) s.ended;
      over = subst (λ (k : ℕ). KnownBefore history known id k) (sym next) s.over;
    }

module _ (queued : List Message) (history : History) (cut : IsLogOfPieces queued history.log) (counts : (id : ℕ) → CountsPlain id history) (got : List ℕ) (known : ℕ → Bool) (has_known : (k : ℕ) → HasEntry k got → known k ≡ true)
    (id : ℕ) (all waits : List ℕ) (old : StreamModel) (order : StreamInOrder queued (with_turns history) id all waits old) where
  -- These become ready: all from a number on, before which all messages have ended.
  pub few_then : (start : ℕ) (more later : List ℕ) (delivered : List WholeModel) (new : StreamModel) (before after : List MessageContent) → DeliversRising old before new after delivered → AreReadAs (with_turns history) id more delivered
      → AreReadAs (with_turns history) id later new.waiting → ((q : ℕ) → HasEntry q more → Spent history.log got q) → 2 ^ 32 ≤ start → start ≤ new.next → EndedBefore history id start → KnownBefore history known id start
      → HaveNumbers start new.next delivered → FewStream queued history known id (all ++ more) later new
  few_then start more later delivered new before after rising are left spent low up ended over have =
      record {
        order = order_then queued (with_turns history) id all waits more later old new before after delivered (turns_follow queued history cut id (counts id)) order rising are left;
        from = omega (arith, low, up);
        ended = elim (eqb_tells new.next start) [
          | inl e ↦ subst (λ (k : ℕ). EndedBefore history id k) (sym e.1) ended
          | inr e ↦ inr (closed (let ne : new.next ≡ start → ⊥ = e.1 in omega (arith, ne, up)))
        ];
        over = λ n f is less. elim (leb_tells start (number_of_tsn id n history.log)) [
          | inr e ↦ over n f is e.1
          | inl e ↦
              (let one = have (number_of_tsn id n history.log) e.1 less in
              let its = place_of (with_turns history) id more delivered one.0 are one.1 in
              let same = is_it queued history cut id (counts id) n f its.0 is (subst (λ (k : ℕ). IsReadAs (with_turns history) id its.0 k) one.2 its.2) in
              has_known n (was_handled queued history.log cut got its.0 (spent its.0 its.1) n f is.at (sym same)))
        ];
      }
    where
      closed : start < new.next → IsClosed history.log id (new.next - 2 ^ 32)
      closed less =
          let one = have (new.next - 1) (omega (arith, less)) (omega (arith, less)) in
          let its = place_of (with_turns history) id more delivered one.0 are one.1 in
          let number = one.2 in
          let counted = its.2.counted in
          let sent = sent_from queued history cut id (counts id) its.0 its.2.mid its.2.sent in
          let s = spent its.0 its.1 in
          let both : Some s.last.message ≡ Some sent.piece.message =
          sym (cut.pieces s.last_offset s.last s.at_last).at ∙ ap (λ (k : ℕ). at_place k queued) (s.same ∙ sym sent.place_is) ∙ (cut.pieces sent.offset sent.piece sent.is.at).at in
          let same : s.last.message ≡ sent.piece.message = cc in
          let last : CarriesOrdered history.log id s.last_offset s.last =
          record { at = s.at_last; stream = ap (λ (m : Message). m.stream) same ∙ sent.is.stream; ordered = ap (λ (m : Message). m.is_unordered) same ∙ sent.is.ordered } in
          let turn = one_turn queued history cut counts id s.last_offset sent.offset s.last sent.piece last sent.is (s.same ∙ sym sent.place_is) in
          let turn' = sent.turn in
          record { offset = s.last_offset; slot = Some s.last; at = s.at_last; ends = inl s.ends; reached = omega (arith, turn, turn', counted, number, less, low) }
