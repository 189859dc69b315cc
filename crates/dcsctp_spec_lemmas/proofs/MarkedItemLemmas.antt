-- Items that wait to be sent again: which is the first, and what leaves fewer of them.
use Rattle.std.proofs.Common.{◌≡◌, ◌⊎◌, inl, inr, ℕ, zero, suc, ◌<◌, ◌≤◌, Bool, true, false, Some, List, [], ◌∷◌, ◌++◌, refl, ap, sym, ◌∙◌, arith}
use Rattle.std.specs.List.{slice_get}
use Rattle.std.proofs.lemmas.List.{append-nil, append_assoc}
use Rattle.std.proofs.lemmas.List.Sums.{sum_by-cons}
use Rattle.dcsctp_spec.specs.types.declared.progress.Change.{Change}
use Rattle.dcsctp_spec.specs.types.declared.progress.Progress.{Progress}
use Rattle.dcsctp_spec.specs.endpoint.Event.{Event}
use Rattle.dcsctp_spec.specs.queues.Filling.{Stage, StageSteps, more}
use Rattle.dcsctp_spec.specs.queues.Items.{Item, number_or_zero, marked_count, marked_items, changed_item, changed_between}
use Rattle.dcsctp_spec.specs.queues.NextItem.{IsNextMarked}
use Rattle.dcsctp_spec.specs.types.queues.Progress.{is_marked, progress_changed}

pub le_or_lt : (a b : ℕ) → (a ≤ b) ⊎ (b < a)
le_or_lt a b = grind arith

-- ---- changes

-- the change leaves no item marked
abbrev pub Unmarks : Change → Type 0
Unmarks change = (progress : Progress) → is_marked (progress_changed change progress).state ≡ false

pub marked_at_most : (change : Change) → Unmarks change → (start end : ℕ) (items : List Item) → marked_items (changed_between change start end items) ≤ marked_items items
marked_at_most change unmarks zero zero items = omega arith
marked_at_most change unmarks zero (suc end) [] = omega arith
marked_at_most change unmarks zero (suc end) (x ∷ xs) =
    let later = marked_at_most change unmarks zero end xs in
    let here = ap (λ (b : Bool). number_or_zero b 1) (unmarks x.progress) in
    let old = sum_by-cons marked_count x xs in
    let new = sum_by-cons marked_count (changed_item change x) (changed_between change zero end xs) in
    omega arith
marked_at_most change unmarks (suc start) zero items = omega arith
marked_at_most change unmarks (suc start) (suc end) [] = omega arith
marked_at_most change unmarks (suc start) (suc end) (x ∷ xs) =
    let later = marked_at_most change unmarks start end xs in
    let old = sum_by-cons marked_count x xs in
    let new = sum_by-cons marked_count x (changed_between change start end xs) in
    omega arith

-- such a change of a marked item leaves fewer
pub fewer_marked : (change : Change) → Unmarks change → (start end place : ℕ) (items : List Item) (item : Item) → start ≤ place → place < end → slice_get items place ≡ Some item → is_marked item.progress.state ≡ true
    → marked_items (changed_between change start end items) < marked_items items
fewer_marked change unmarks zero zero place items item from to at is = absurd (omega arith)
fewer_marked change unmarks zero (suc end) place [] item from to at is = absurd (cc)
fewer_marked change unmarks zero (suc end) zero (x ∷ xs) item from to at is =
    let same : x ≡ item = cc in
    let was = ap (λ (y : Item). marked_count y) same ∙ ap (λ (b : Bool). number_or_zero b 1) is in
    let later = marked_at_most change unmarks zero end xs in
    let here = ap (λ (b : Bool). number_or_zero b 1) (unmarks x.progress) in
    let old = sum_by-cons marked_count x xs in
    let new = sum_by-cons marked_count (changed_item change x) (changed_between change zero end xs) in
    omega arith
fewer_marked change unmarks zero (suc end) (suc place) (x ∷ xs) item from to at is =
    let later = fewer_marked change unmarks zero end place xs item (omega arith) (omega arith) at is in
    let here = ap (λ (b : Bool). number_or_zero b 1) (unmarks x.progress) in
    let old = sum_by-cons marked_count x xs in
    let new = sum_by-cons marked_count (changed_item change x) (changed_between change zero end xs) in
    omega arith
fewer_marked change unmarks (suc start) zero place items item from to at is = absurd (omega arith)
fewer_marked change unmarks (suc start) (suc end) place [] item from to at is = absurd (cc)
fewer_marked change unmarks (suc start) (suc end) zero (x ∷ xs) item from to at is = absurd (omega arith)
fewer_marked change unmarks (suc start) (suc end) (suc place) (x ∷ xs) item from to at is =
    let later = fewer_marked change unmarks start end place xs item (omega arith) (omega arith) at is in
    let old = sum_by-cons marked_count x xs in
    let new = sum_by-cons marked_count x (changed_between change start end xs) in
    omega arith

-- ---- the first that waits

pub record FirstMarked (items : List Item) : Type 0 where
  pub place : ℕ
  pub next : IsNextMarked place items

first_here : (x : Item) (xs : List Item) → is_marked x.progress.state ≡ true → FirstMarked (x ∷ xs)
first_here x xs is =
    record { place = 0; next = record { marked = record { within = omega arith; item = x; at = refl; is = is }; first = λ k item below at. absurd (omega arith) } }

first_behind : (x : Item) (xs : List Item) → is_marked x.progress.state ≡ false → FirstMarked xs → FirstMarked (x ∷ xs)
first_behind x xs is_not later =
    let within = later.next.marked.within in
    record {
      place = suc later.place;
      next = record { marked = record { within = omega arith; item = later.next.marked.item; at = later.next.marked.at; is = later.next.marked.is }; first = none_before };
    }
  where
    none_before : (k : ℕ) (item : Item) → k < suc later.place → slice_get (x ∷ xs) k ≡ Some item → is_marked item.progress.state ≡ false
    none_before zero item below at = let same : item ≡ x = cc in ap (λ (y : Item). is_marked y.progress.state) same ∙ is_not
    none_before (suc k) item below at = later.next.first k item (omega arith) at

pub first_marked : (items : List Item) → (marked_items items ≡ 0) ⊎ FirstMarked items
first_marked [] = inl refl
first_marked (x ∷ xs) = go (first_marked xs) (is_marked x.progress.state) refl
  where
    go : (marked_items xs ≡ 0) ⊎ FirstMarked xs → (b : Bool) → is_marked x.progress.state ≡ b → (marked_items (x ∷ xs) ≡ 0) ⊎ FirstMarked (x ∷ xs)
    go later true is = inr (first_here x xs is)
    go (inl none_left) false is_not =
        let here = ap (λ (b : Bool). number_or_zero b 1) is_not in
        let all = sum_by-cons marked_count x xs in
        inl (omega arith)
    go (inr later) false is_not = inr (first_behind x xs is_not later)

-- ---- steps of which each leaves fewer

-- a step from this stage that leaves fewer items that wait to be sent again, and may add events
pub record FewerBy (Step : Stage → Stage → Type 0) (old : Stage) : Type 0 where
  pub new : Stage
  pub step : Step old new
  pub rest : List (Event (List ℕ))
  pub told : new.told ≡ old.told ++ rest
  pub fewer : marked_items new.queue.outstanding.items < marked_items old.queue.outstanding.items

-- Steps are taken from the old stage past the middle one, until it is over.
pub record Completed (Step : Stage → Stage → Type 0) (IsOver : Stage → Type 0) (old mid : Stage) : Type 0 where
  pub new : Stage
  pub steps : StageSteps Step old new
  pub is_over : IsOver new
  pub rest : List (Event (List ℕ))
  pub told : new.told ≡ mid.told ++ rest

told_more : (a b c rest further : List (Event (List ℕ))) → b ≡ a ++ rest → c ≡ b ++ further → c ≡ a ++ (rest ++ further)
told_more a b c rest further first second = second ∙ (ap (λ (es : List (Event (List ℕ))). es ++ further) first ∙ append_assoc a rest further)

over_now : (Step : Stage → Stage → Type 0) (IsOver : Stage → Type 0) (old mid : Stage) → StageSteps Step old mid → IsOver mid → Completed Step IsOver old mid
over_now Step IsOver old mid steps is_over = record { new = mid; steps = steps; is_over = is_over; rest = []; told = sym (append-nil mid.told) }

-- If each stage is the last or has such a step, steps that were taken can be completed.
pub completed : (Step : Stage → Stage → Type 0) (IsOver : Stage → Type 0) → ((stage : Stage) → IsOver stage ⊎ FewerBy Step stage) → (most : ℕ) (old mid : Stage) → marked_items mid.queue.outstanding.items ≤ most → StageSteps Step old mid
    → Completed Step IsOver old mid
completed Step IsOver next zero old mid few steps = elim (next mid) [
  | inl is_over ↦ over_now Step IsOver old mid steps is_over
  | inr by ↦ let fewer = by.fewer in absurd (omega arith)
]
completed Step IsOver next (suc most) old mid few steps = elim (next mid) [
  | inl is_over ↦ over_now Step IsOver old mid steps is_over
  | inr by ↦
      let fewer = by.fewer in
      let all : Completed Step IsOver old by.new = completed Step IsOver next most old by.new (omega arith) (more mid by.new steps by.step) in
      record {
        new = all.new;
        steps = all.steps;
        is_over = all.is_over;
        rest = by.rest ++ all.rest;
        told = told_more mid.told by.new.told all.new.told by.rest all.rest by.told all.told;
      }
]
