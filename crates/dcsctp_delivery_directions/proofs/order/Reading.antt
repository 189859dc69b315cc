-- Message identifiers are read right.
use Rattle.std.proofs.Common.{◌≡◌, ℕ, Bool, false, ◌<◌, ◌≤◌, ◌+◌, ◌-◌, ◌%◌, ◌^◌, List, [], ◌∷◌, refl, sym, ◌∙◌, ap, arith, subst, inl, inr}
use Rattle.std.proofs.lemmas.Bool.Decides.{nat_tests, eqb_tells, leb_tells}
use Rattle.dcsctp_spec_lemmas.specs.types.queues.Messages.{MessageContent}
use Rattle.dcsctp_spec_lemmas.specs.types.declared.arrivals.Taken.{Taken}
use Rattle.dcsctp_spec_lemmas.specs.types.declared.ids.StreamId.{StreamId}
use Rattle.dcsctp_spec_lemmas.specs.types.declared.arrivals.SkippedTo.TheVariants.{Mid}
use Rattle.dcsctp_spec_lemmas.specs.spec.queues.Numbers.{number_near}
use Rattle.dcsctp_spec_lemmas.specs.spec.queues.Runs.{PartModel, WholeModel}
use Rattle.dcsctp_spec_lemmas.specs.spec.queues.IncomingStreams.{StreamModel, next_after, next_due, next_past, is_number_waiting, TakesOrdered, stream_after_skip}
use Rattle.dcsctp_delivery_directions.specs.sending.Places.{HasEntry}
use Rattle.dcsctp_delivery_directions.specs.sending.Log.{Message, Piece, History}
use Rattle.dcsctp_delivery_directions.specs.order.Rising.{FillRow, IsAhead, ready_with_part}
use Rattle.dcsctp_delivery_directions.specs.order.Order.{IsReadAs, AreReadAs, StreamInOrder}
use Rattle.dcsctp_delivery_directions.specs.order.Reading.{CountsFromZero, IsInReach, IsSince}
use Rattle.dcsctp_delivery_directions.proofs.order.Rising.{parts_deliver_rows}
use Rattle.dcsctp_delivery_directions.proofs.order.Order.{parts_stay}

-- ---- one number

near_exact : (worked offset : ℕ) → worked ≤ 2 ^ 31 → offset < 2 ^ 31 → number_near (2 ^ 32 + worked) ((2 ^ 32 + offset) % 2 ^ 32) ≡ 2 ^ 32 + offset
near_exact worked offset few less = grind (arith, nat_tests)

read_exact : (next floor mid : ℕ) → 2 ^ 32 ≤ next → next ≤ 2 ^ 32 + 2 ^ 31 → floor % 2 ^ 32 ≡ 0 → floor ≤ mid → mid < floor + 2 ^ 31 → number_near next (mid % 2 ^ 32) ≡ 2 ^ 32 + (mid - floor)
read_exact next floor mid low high zero_floor from below =
    let here : 2 ^ 32 + (next - 2 ^ 32) ≡ next = omega arith in
    let there : (2 ^ 32 + (mid - floor)) % 2 ^ 32 ≡ mid % 2 ^ 32 = omega arith in
    let exact = near_exact (next - 2 ^ 32) (mid - floor) (omega arith) (omega arith) in
    ap (λ (k : ℕ). number_near k (mid % 2 ^ 32)) (sym here) ∙ ap (number_near (2 ^ 32 + (next - 2 ^ 32))) (sym there) ∙ exact

-- Its number counts from the floor.
pub mids_counted : (history : History) (id offset : ℕ) (piece : Piece) (stream : StreamModel) → CountsFromZero history id → IsInReach stream → IsSince history id offset piece
    → piece.mid + 2 ^ 32 ≡ history.floors id false + number_near stream.next (piece.mid % 2 ^ 32)
mids_counted history id offset piece stream counts reach since =
    let from : history.floors id false ≤ piece.mid = subst (λ (k : ℕ). history.floors k false ≤ piece.mid) since.stream (subst (λ (b : Bool). history.floors piece.message.stream b ≤ piece.mid) since.ordered since.current) in
    let below = counts.few offset piece since.at since.stream since.ordered in
    let exact = read_exact stream.next (history.floors id false) piece.mid reach.from reach.up_to counts.floor from below in
    omega (arith, exact, from)

pub mids_are_read : (history : History) (id offset : ℕ) (piece : Piece) (stream : StreamModel) → CountsFromZero history id → IsInReach stream → IsSince history id offset piece
    → IsReadAs history id piece.place (number_near stream.next (piece.mid % 2 ^ 32))
mids_are_read history id offset piece stream counts reach since =
    record {
      mid = piece.mid;
      sent = record { offset = offset; piece = piece; at = since.at; is = refl; stream = since.stream; ordered = since.ordered; under = refl };
      counted = mids_counted history id offset piece stream counts reach since;
    }

-- ---- no message that waits has it

module _ (history : History) (id : ℕ) (counts : CountsFromZero history id) where
  same_place : (p q number other : ℕ) → IsReadAs history id p number → IsReadAs history id q other → number ≡ other → p ≡ q
  same_place p q number other one two same =
      let same_mid : one.sent.piece.mid ≡ two.sent.piece.mid = (let a = one.counted in let b = two.counted in let c = one.sent.under in let d = two.sent.under in omega (arith, a, b, c, d, same)) in
      sym one.sent.is ∙ counts.apart one.sent.offset two.sent.offset one.sent.piece two.sent.piece one.sent.at two.sent.at (one.sent.stream ∙ sym two.sent.stream) (one.sent.ordered ∙ sym two.sent.ordered) same_mid ∙ two.sent.is

  none_waits : (place number : ℕ) (waits : List ℕ) (waiting : List WholeModel) → IsReadAs history id place number → AreReadAs history id waits waiting → (HasEntry place waits → ⊥) → is_number_waiting number waiting ≡ false
  none_waits place number [] [] is are fresh = refl
  none_waits place number [] (w ∷ waiting) is are fresh = absurd are
  none_waits place number (p ∷ waits) [] is are fresh = absurd are
  none_waits place number (p ∷ waits) (w ∷ waiting) is are fresh =
      elim (eqb_tells w.number number) [
        | inl e ↦ absurd (fresh (inl (sym (same_place p place w.number number are.0 is e.1))))
        | inr e ↦ rw e.0 (none_waits place number waits waiting is are.1 (λ has. fresh (inr has)))
      ]

  in_reach : (place number : ℕ) → IsReadAs history id place number → number < 2 ^ 32 + 2 ^ 31
  in_reach place number is =
      let few = counts.few is.sent.offset is.sent.piece is.sent.at is.sent.stream is.sent.ordered in
      let counted = is.counted in
      let under = is.sent.under in
      omega (arith, few, counted, under)

  row_in_reach : (from end : ℕ) (places : List ℕ) (wholes : List WholeModel) → AreReadAs history id places wholes → FillRow from end wholes → from ≤ 2 ^ 32 + 2 ^ 31 → (from ≤ end) × (end ≤ 2 ^ 32 + 2 ^ 31)
  row_in_reach from end [] [] are row high = (omega (arith, row), omega (arith, row, high))
  row_in_reach from end [] (w ∷ wholes) are row high = absurd are
  row_in_reach from end (p ∷ places) [] are row high = absurd are
  row_in_reach from end (p ∷ places) (w ∷ wholes) are row high =
      let below = in_reach p w.number are.0 in
      let is = row.0 in
      let rest = row_in_reach (from + 1) end places wholes are.1 row.1 (omega (arith, below, is)) in
      (let low = rest.0 in omega (arith, low), rest.1)

  due_in_reach : (next : ℕ) (places : List ℕ) (waiting : List WholeModel) → AreReadAs history id places waiting → next ≤ 2 ^ 32 + 2 ^ 31 → (next ≤ next_due next waiting) × (next_due next waiting ≤ 2 ^ 32 + 2 ^ 31)
  due_in_reach next [] [] are high = (omega arith, high)
  due_in_reach next [] (w ∷ waiting) are high = absurd are
  due_in_reach next (p ∷ places) [] are high = absurd are
  due_in_reach next (p ∷ places) (w ∷ waiting) are high =
      let below = in_reach p w.number are.0 in
      let after : (next ≤ next_after next w) × (next_after next w ≤ 2 ^ 32 + 2 ^ 31) = elim (eqb_tells w.number next) [
        | inl e ↦ (let is : w.number ≡ next = e.1 in rw e.0 (omega (arith, is, below), omega (arith, is, below)))
        | inr e ↦ rw e.0 (omega arith, high)
      ] in
      let rest = due_in_reach (next_after next w) places waiting are.1 after.1 in
      elim (leb_tells w.number next) [
        | inl e ↦ rw e.0 ((let a = after.0 in let b = rest.0 in omega (arith, a, b)), rest.1)
        | inr e ↦ rw e.0 (omega arith, high)
      ]

pub numbers_are_fresh : (queued : List Message) (history : History) (id place : ℕ) (all waits : List ℕ) (part : PartModel) (stream : StreamModel) → CountsFromZero history id → StreamInOrder queued history id all waits stream
    → IsReadAs history id place part.number → (HasEntry place waits → ⊥) → stream.next ≤ part.number → IsAhead part stream
numbers_are_fresh queued history id place all waits part stream counts order is fresh from =
    record {
      from = from;
      counted = (let below = in_reach history id counts place part.number is in omega (arith, below));
      fresh = none_waits history id counts place part.number waits stream.waiting is order.waiting fresh;
    }

pub parts_in_reach : (queued : List Message) (history : History) (id place : ℕ) (all waits : List ℕ) (part : PartModel) (old : StreamModel) (before : List MessageContent) (taken : Taken) (new : StreamModel) (after : List MessageContent)
    → CountsFromZero history id → StreamInOrder queued history id all waits old → IsReadAs history id place part.number → IsAhead part old → TakesOrdered part old before taken new after → IsInReach old → IsInReach new
parts_in_reach queued history id place all waits part old before taken new after counts order is ahead does reach =
    let stays = parts_stay queued history id all place waits part old before taken new after counts.follows order is ahead does in
    let ends = row_in_reach history id counts old.next new.next stays.more (ready_with_part old does.outcome) stays.are (parts_deliver_rows part old before taken new after order.ahead ahead does).row reach.up_to in
    record { from = (let low = reach.from in let up = ends.0 in omega (arith, low, up)); up_to = ends.1 }

pub skips_in_reach : (queued : List Message) (history : History) (id place mid : ℕ) (all waits : List ℕ) (on : StreamId) (old : StreamModel)
    → CountsFromZero history id → StreamInOrder queued history id all waits old → IsReadAs history id place (number_near old.next mid) → IsInReach old → IsInReach (stream_after_skip (Mid on false mid) old)
skips_in_reach queued history id place mid all waits on old counts order is reach =
    let below = in_reach history id counts place (number_near old.next mid) is in
    let high = reach.up_to in
    let low = reach.from in
    let past : (old.next ≤ next_past (number_near old.next mid) old.next) × (next_past (number_near old.next mid) old.next ≤ 2 ^ 32 + 2 ^ 31) = moves (number_near old.next mid) old.next below high in
    let ends = due_in_reach history id counts (next_past (number_near old.next mid) old.next) waits old.waiting order.waiting past.1 in
    record { from = (let a = past.0 in let b = ends.0 in omega (arith, a, b, low)); up_to = ends.1 }
  where
    moves : (number next : ℕ) → number < 2 ^ 32 + 2 ^ 31 → next ≤ 2 ^ 32 + 2 ^ 31 → (next ≤ next_past number next) × (next_past number next ≤ 2 ^ 32 + 2 ^ 31)
    moves number next below high = (omega arith, omega (arith, below, high))
