-- Which item is due to be abandoned.
use Rattle.std.proofs.Common.{◌≡◌, ◌⊎◌, inl, inr, ℕ, zero, suc, ◌<◌, ◌&&◌, Bool, true, false, Some, List, [], ◌∷◌, refl, ap, sym, ◌∙◌, arith, ◌+◌}
use Rattle.std.specs.List.{slice_get}
use Rattle.dcsctp_spec.specs.types.declared.progress.ItemState.{ItemState}
use Rattle.dcsctp_spec.specs.types.declared.progress.ItemState.TheVariants.{InFlight, Marked, Acknowledged, Abandoned}
use Rattle.dcsctp_spec.specs.queues.Abandoning.{NoneAwaitedBefore, NoneDue}
use Rattle.dcsctp_spec.specs.queues.NextItem.{is_abandonment_due}
use Rattle.dcsctp_spec.specs.queues.Items.{Item, marked_items}
use Rattle.dcsctp_spec.specs.types.queues.Progress.{is_marked, is_unacknowledged}
use Rattle.dcsctp_spec.specs.queues.Retransmission.{RetransmissionState}
use Rattle.dcsctp_spec.specs.types.declared.progress.Change.TheVariants.{Abandon}
use Rattle.dcsctp_spec_lemmas.proofs.MarkedItemLemmas.{fewer_marked}

-- The first item that is awaited is due to be abandoned.
pub record FirstDue (now : ℕ) (negotiated : Bool) (items : List Item) : Type 0 where
  pub place : ℕ
  pub none_awaited : NoneAwaitedBefore place items
  pub item : Item
  pub at : slice_get items place ≡ Some item
  pub due : is_abandonment_due now negotiated item ≡ true

pub due_marked : (now : ℕ) (negotiated : Bool) (item : Item) → is_abandonment_due now negotiated item ≡ true → is_marked item.progress.state ≡ true
due_marked now false item due = absurd (cc)
due_marked now true item due = go item.progress.state _ due
  where
    go : (state : ItemState) (test : Bool) → (is_marked state && test) ≡ true → is_marked state ≡ true
    go InFlight test e = absurd (cc)
    go Marked test e = refl
    go Acknowledged test e = absurd (cc)
    go Abandoned test e = absurd (cc)

none_due_before : (now : ℕ) (negotiated : Bool) (x : Item) (xs : List Item) → is_abandonment_due now negotiated x ≡ false → is_unacknowledged x.progress.state ≡ true → FirstDue now negotiated (x ∷ xs) → ⊥
none_due_before now negotiated x xs not_due awaited first = go first.place first.none_awaited first.at
  where
    go : (place : ℕ) → NoneAwaitedBefore place (x ∷ xs) → slice_get (x ∷ xs) place ≡ Some first.item → ⊥
    go zero before at =
        let same : x ≡ first.item = cc in
        let both : false ≡ true = sym not_due ∙ (ap (is_abandonment_due now negotiated) same ∙ first.due) in
        absurd (cc)
    go (suc place) before at = let both : true ≡ false = sym awaited ∙ before 0 x (omega arith) refl in absurd (cc)

none_due_behind : (now : ℕ) (negotiated : Bool) (x : Item) (xs : List Item) → is_abandonment_due now negotiated x ≡ false → (FirstDue now negotiated xs → ⊥) → FirstDue now negotiated (x ∷ xs) → ⊥
none_due_behind now negotiated x xs not_due none_later first = go first.place first.none_awaited first.at
  where
    go : (place : ℕ) → NoneAwaitedBefore place (x ∷ xs) → slice_get (x ∷ xs) place ≡ Some first.item → ⊥
    go zero before at =
        let same : x ≡ first.item = cc in
        let both : false ≡ true = sym not_due ∙ (ap (is_abandonment_due now negotiated) same ∙ first.due) in
        absurd (cc)
    go (suc place) before at =
        none_later (record { place = place; none_awaited = λ k item below there. before (suc k) item (omega arith) there; item = first.item; at = at; due = first.due })

due_behind : (now : ℕ) (negotiated : Bool) (x : Item) (xs : List Item) → is_unacknowledged x.progress.state ≡ false → FirstDue now negotiated xs → FirstDue now negotiated (x ∷ xs)
due_behind now negotiated x xs gone later = record { place = suc later.place; none_awaited = none_before; item = later.item; at = later.at; due = later.due }
  where
    none_before : (k : ℕ) (item : Item) → k < suc later.place → slice_get (x ∷ xs) k ≡ Some item → is_unacknowledged item.progress.state ≡ false
    none_before zero item below at = let same : item ≡ x = cc in ap (λ (y : Item). is_unacknowledged y.progress.state) same ∙ gone
    none_before (suc k) item below at = later.none_awaited k item (omega arith) at

pub due_or_not : (now : ℕ) (negotiated : Bool) (items : List Item) → FirstDue now negotiated items ⊎ (FirstDue now negotiated items → ⊥)
due_or_not now negotiated [] = inr (λ first. let at = first.at in absurd (cc))
due_or_not now negotiated (x ∷ xs) = go (due_or_not now negotiated xs) (is_abandonment_due now negotiated x) refl (is_unacknowledged x.progress.state) refl
  where
    go : FirstDue now negotiated xs ⊎ (FirstDue now negotiated xs → ⊥) → (due : Bool) → is_abandonment_due now negotiated x ≡ due → (awaited : Bool) → is_unacknowledged x.progress.state ≡ awaited
        → FirstDue now negotiated (x ∷ xs) ⊎ (FirstDue now negotiated (x ∷ xs) → ⊥)
    go later true is awaited waits = inl (record { place = 0; none_awaited = λ k item below at. absurd (omega arith); item = x; at = refl; due = is })
    go later false is true waits = inr (none_due_before now negotiated x xs is waits)
    go (inl later) false is false gone = inl (due_behind now negotiated x xs gone later)
    go (inr none_later) false is false gone = inr (none_due_behind now negotiated x xs is none_later)

-- No item waits to be sent again, so none is due.
pub none_due : (now : ℕ) (state : RetransmissionState) → marked_items state.outstanding.items ≡ 0 → NoneDue now state
none_due now state none place due =
    let less = fewer_marked Abandon (λ progress. refl) place (place + 1) place state.outstanding.items due.item (omega arith) (omega arith) due.at (due_marked now state.partial_reliability due.item due.due) in
    omega (arith, less, none)
