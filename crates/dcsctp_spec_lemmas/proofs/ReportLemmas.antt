-- For each list of items there is a last one that a SACK newly acknowledges, and a place up to which it reports items missing.
use Rattle.std.proofs.Common.{◌≡◌, ◌⊎◌, inl, inr, ℕ, zero, suc, ◌+◌, ◌<◌, ◌≤◌, Bool, true, false, Option, None, Some, List, [], ◌∷◌, refl, subst, arith}
use Rattle.std.specs.List.{slice_get}
use Rattle.dcsctp_spec.specs.wire.declared.chunk.sack.GapAckBlock.{GapAckBlock}
use Rattle.dcsctp_spec.specs.queues.Items.{Item}
use Rattle.dcsctp_spec.specs.types.queues.Progress.{is_unacknowledged}
use Rattle.dcsctp_spec.specs.queues.Reports.{NamesItem, IsNewlyAcknowledged, IsLastPlace, ShowsMissing, MissesUntil}

-- It holds, or it doesn't.
abbrev Decided : Type 0 → Type 0
Decided Holds = Holds ⊎ (Holds → ⊥)

-- ---- the last item of which something holds

-- The last of those after the first is the last of all; the places count from the first.
last_behind : (Holds : ℕ → Item → Type 0) (first : Item) (items : List Item) (place : ℕ) → IsLastPlace (λ k item. Holds (suc k) item) items (Some place) → IsLastPlace Holds (first ∷ items) (Some (suc place))
last_behind Holds first items place found = record { item = found.item; at = found.at; holds = found.holds; last = none_behind }
  where
    none_behind : (k : ℕ) (other : Item) → suc place < k → slice_get (first ∷ items) k ≡ Some other → Holds k other → ⊥
    none_behind zero other behind at holds = absurd (omega arith)
    none_behind (suc k) other behind at holds = found.last k other (omega arith) at holds

first_is_last : (Holds : ℕ → Item → Type 0) (first : Item) (items : List Item) → Holds 0 first → IsLastPlace (λ k item. Holds (suc k) item) items None → IsLastPlace Holds (first ∷ items) (Some 0)
first_is_last Holds first items here none = record { item = first; at = refl; holds = here; last = none_behind }
  where
    none_behind : (k : ℕ) (other : Item) → 0 < k → slice_get (first ∷ items) k ≡ Some other → Holds k other → ⊥
    none_behind zero other behind at holds = absurd (omega arith)
    none_behind (suc k) other behind at holds = none k other at holds

none_is_last : (Holds : ℕ → Item → Type 0) (first : Item) (items : List Item) → (Holds 0 first → ⊥) → IsLastPlace (λ k item. Holds (suc k) item) items None → IsLastPlace Holds (first ∷ items) None
none_is_last Holds first items not_here none zero other at holds = let same : other ≡ first = cc in not_here (subst (Holds 0) same holds)
none_is_last Holds first items not_here none (suc k) other at holds = none k other at holds

some_last : (Holds : ℕ → Item → Type 0) → ((k : ℕ) (item : Item) → Decided (Holds k item)) → (items : List Item) → (place : Option ℕ) × IsLastPlace Holds items place
some_last Holds decided [] = (None, λ k item at holds. absurd (cc))
some_last Holds decided (first ∷ items) = let (place, last) = some_last (λ k item. Holds (suc k) item) (λ k item. decided (suc k) item) items in go place last
  where
    go : (place : Option ℕ) → IsLastPlace (λ k item. Holds (suc k) item) items place → (place : Option ℕ) × IsLastPlace Holds (first ∷ items) place
    go (Some place) found = (Some (suc place), last_behind Holds first items place found)
    go None none = elim (decided 0 first) [
      | inl here ↦ (Some 0, first_is_last Holds first items here none)
      | inr not_here ↦ (None, none_is_last Holds first items not_here none)
    ]

-- ---- what a SACK reports

both_decided : {A B : Type 0} → Decided A → Decided B → Decided (A × B)
both_decided (inl a) (inl b) = inl (a, b)
both_decided (inl a) (inr none) = inr (λ both. none both.1)
both_decided (inr none) b = inr (λ both. none both.0)

either_decided : {A B : Type 0} → Decided A → Decided B → Decided (A ⊎ B)
either_decided (inl a) b = inl (inl a)
either_decided (inr not_first) (inl b) = inl (inr b)
either_decided (inr not_first) (inr not_second) = inr (λ either. elim either [ inl a ↦ not_first a | inr b ↦ not_second b ])

le_decided : (a b : ℕ) → Decided (a ≤ b)
le_decided a b = grind arith

true_decided : (b : Bool) → Decided (b ≡ true)
true_decided true = inl refl
true_decided false = inr (λ is. absurd (cc))

names_decided : (count : ℕ) (blocks : List GapAckBlock) (place : ℕ) → Decided (NamesItem count blocks place)
names_decided count [] place = inr (λ named. named)
names_decided count (block ∷ blocks) place =
    either_decided (both_decided (le_decided (count + block.start) (place + 1)) (le_decided (place + 1) (count + block.end))) (names_decided count blocks place)

newly_decided : (count : ℕ) (blocks : List GapAckBlock) (place : ℕ) (item : Item) → Decided (IsNewlyAcknowledged count blocks place item)
newly_decided count blocks place item =
    both_decided (either_decided (le_decided (suc place) count) (names_decided count blocks place)) (true_decided (is_unacknowledged item.progress.state))

shows_decided : (recovering : Bool) (count : ℕ) (blocks : List GapAckBlock) (place : ℕ) (item : Item) → Decided (ShowsMissing recovering count blocks place item)
shows_decided false count blocks place item = newly_decided count blocks place item
shows_decided true count blocks place item = names_decided count blocks place

pub some_newest : (count : ℕ) (blocks : List GapAckBlock) (items : List Item) → (newest : Option ℕ) × IsLastPlace (IsNewlyAcknowledged count blocks) items newest
some_newest count blocks items = some_last (IsNewlyAcknowledged count blocks) (newly_decided count blocks) items

-- The missing items are those before the last one that shows it; none are if no item does.
limit_from : (recovering : Bool) (count : ℕ) (blocks : List GapAckBlock) (items : List Item) (found : Option ℕ) → IsLastPlace (ShowsMissing recovering count blocks) items found
    → (limit : ℕ) × MissesUntil recovering count blocks items limit
limit_from recovering count blocks items None none = (0, λ place. (λ below. absurd (omega arith), λ missing. absurd (none missing.shown_by missing.item missing.at missing.shows)))
limit_from recovering count blocks items (Some last) found = (
  last,
  λ place. (
    λ below. record { shown_by = last; item = found.item; behind = below; at = found.at; shows = found.holds },
    λ missing. elim (le_decided missing.shown_by last) [
      | inl up_to ↦ let behind = missing.behind in omega arith
      | inr beyond ↦ absurd (found.last missing.shown_by missing.item (omega arith) missing.at missing.shows)
    ],
  ),
)

pub some_limit : (recovering : Bool) (count : ℕ) (blocks : List GapAckBlock) (items : List Item) → (limit : ℕ) × MissesUntil recovering count blocks items limit
some_limit recovering count blocks items =
    let (found, last) = some_last (ShowsMissing recovering count blocks) (shows_decided recovering count blocks) items in
    limit_from recovering count blocks items found last
