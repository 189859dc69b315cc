-- Where nothing is skipped there is no gap.
use Rattle.std.proofs.Common.{◌≡◌, ℕ, false, ◌<◌, ◌≤◌, ◌+◌, ◌-◌, ◌^◌, List, [], ◌∷◌, ◌++◌, refl, sym, ◌∙◌, arith, subst, inl, inr}
use Rattle.std.proofs.lemmas.Bool.Decides.{eqb_tells, leb_tells}
use Rattle.dcsctp_spec_lemmas.specs.spec.queues.Runs.{WholeModel}
use Rattle.dcsctp_spec_lemmas.specs.spec.queues.IncomingStreams.{StreamModel, new_stream}
use Rattle.dcsctp_delivery_directions.specs.sending.Places.{HasEntry}
use Rattle.dcsctp_delivery_directions.specs.sending.Log.{Message, History}
use Rattle.dcsctp_delivery_directions.proofs.receiving.Distinct.{has_left, has_right}
use Rattle.dcsctp_delivery_directions.specs.order.Queue.{FollowsOn, LeaveNoGap}
use Rattle.dcsctp_delivery_directions.specs.order.Rising.{FillRow}
use Rattle.dcsctp_delivery_directions.specs.order.Order.{IsSentAs, IsReadAs, AreReadAs, StreamInOrder, HasNumber, AreFilled}
use Rattle.dcsctp_delivery_directions.specs.order.Reading.{CountsFromZero}
use Rattle.dcsctp_delivery_directions.specs.order.Gaps.{SendsInTurn}

pub new_filled : (history : History) (id : ℕ) → AreFilled history id [] (new_stream id).next
new_filled history id number low less = absurd (omega (arith, low, less))

pub in_row : (history : History) (id next end : ℕ) (places : List ℕ) (wholes : List WholeModel) → AreReadAs history id places wholes → FillRow next end wholes → (number : ℕ) → next ≤ number → number < end → HasNumber history id places number
in_row history id next end [] [] are row number low less = absurd (omega (arith, row, low, less))
in_row history id next end [] (w ∷ wholes) are row number low less = absurd are
in_row history id next end (p ∷ places) [] are row number low less = absurd are
in_row history id next end (p ∷ places) (w ∷ wholes) are row number low less =
    elim (eqb_tells number next) [
      | inl e ↦ record { place = p; has = inl refl; is = subst (λ (k : ℕ). IsReadAs history id p k) (row.0 ∙ sym e.1) are.0 }
      | inr e ↦
          (let ne : number ≡ next → ⊥ = e.1 in
          let rest = in_row history id (next + 1) end places wholes are.1 row.1 number (omega (arith, low, ne)) less in
          record { place = rest.place; has = inr rest.has; is = rest.is })
    ]

pub rows_fill : (history : History) (id next end : ℕ) (all more : List ℕ) (delivered : List WholeModel) → AreReadAs history id more delivered → FillRow next end delivered → AreFilled history id all next → AreFilled history id (all ++ more) end
rows_fill history id next end all more delivered are row filled number low less =
    elim (leb_tells next number) [
      | inl e ↦
          (let late = in_row history id next end more delivered are row number e.1 less in
          record { place = late.place; has = has_right late.place all more late.has; is = late.is })
      | inr e ↦
          (let early = filled number low e.1 in
          record { place = early.place; has = has_left early.place all more early.has; is = early.is })
    ]

-- ---- no gap

-- Numbers of the stream follow the queue and tell its messages apart: then there is none.
module _ (queued : List Message) (history : History) (id : ℕ) (follows : FollowsOn id history.log)
    (apart : (p q m n : ℕ) → IsSentAs history id p m → IsSentAs history id q n → m ≡ n → p ≡ q) where
  pub lower : (earlier later mid : ℕ) → earlier < later → IsSentAs history id earlier mid → (other : ℕ) → IsSentAs history id later other → mid < other
  lower earlier later mid less one other two = elim (leb_tells other mid) [
    | inr e ↦ e.1
    | inl e ↦ elim (eqb_tells other mid) [
      | inl same ↦ absurd (let is = apart earlier later mid other one two (sym same.1) in omega (arith, is, less))
      | inr ne ↦
          absurd
          (let differ : other ≡ mid → ⊥ = ne.1 in
          let down : other ≤ mid = e.1 in
          let above : two.piece.mid < one.piece.mid = (let a = one.under in let b = two.under in omega (arith, a, b, differ, down)) in
          let up = follows two.offset one.offset two.piece one.piece two.at one.at two.stream one.stream (two.ordered ∙ sym one.ordered) above in
          let p = one.is in
          let q = two.is in
          omega (arith, up, p, q, less))
    ]
  ]

  pub apart_no_gap : (all waits : List ℕ) (stream : StreamModel) → SendsInTurn queued history id → StreamInOrder queued history id all waits stream
      → AreFilled history id all stream.next → LeaveNoGap queued id all
  apart_no_gap all waits stream sends order filled earlier later has on on' less =
      let read = order.below later has on in
      let (mid, sent, from) = sends earlier later read.mid on' read.sent less in
      let low : mid < read.mid = lower earlier later mid less sent read.mid read.sent in
      let bound = read.below in
      let found = filled (2 ^ 32 + (mid - history.floors id false)) (omega arith) (omega (arith, from, low, bound)) in
      let same : found.is.mid ≡ mid = (let counted = found.is.counted in omega (arith, counted, from)) in
      subst (λ (k : ℕ). HasEntry k all) (apart found.place earlier found.is.mid mid found.is.sent sent same) found.has

-- Each number is of one message.
pub one_place : (history : History) (id : ℕ) → CountsFromZero history id → (p q m n : ℕ) → IsSentAs history id p m → IsSentAs history id q n → m ≡ n → p ≡ q
one_place history id counts p q m n one two same =
    sym one.is
    ∙ counts.apart one.offset two.offset one.piece two.piece one.at two.at (one.stream ∙ sym two.stream) (one.ordered ∙ sym two.ordered) (let a = one.under in let b = two.under in omega (arith, a, b, same))
    ∙ two.is

pub filled_no_gap : (queued : List Message) (history : History) (id : ℕ) (all waits : List ℕ) (stream : StreamModel) → CountsFromZero history id → SendsInTurn queued history id → StreamInOrder queued history id all waits stream
    → AreFilled history id all stream.next → LeaveNoGap queued id all
filled_no_gap queued history id all waits stream counts = apart_no_gap queued history id counts.follows (one_place history id counts) all waits stream
