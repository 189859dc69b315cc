-- A SACK is an answer where fewer items are left that no SACK has acknowledged.
use Rattle.std.proofs.Common.{Option, ◌≡◌, ◌∙◌, ◌⊎◌, inl, inr, ℕ, zero, suc, ◌+◌, ◌-◌, ◌<◌, ◌≤◌, ◌==◌, nat_lt, not, Bool, true, false, if◌then◌else◌, Some, List, [], ◌∷◌, drop, refl, ap, sym, arith}
use Rattle.std.specs.List.{sum_by, slice_get}
use Rattle.std.proofs.lemmas.List.Sums.{sum_by-cons}
use Rattle.std.proofs.lemmas.Bool.Decides.{nat_tests}
use Rattle.dcsctp_api.specs.wire.declared.chunk.sack.GapAckBlock.{GapAckBlock}
use Rattle.dcsctp_api.specs.spec.queues.Items.{Item, number_or_zero, never_acknowledged_count, never_acknowledged_items, changed_item, changed_between, marked_items}
use Rattle.dcsctp_api.specs.types.declared.progress.ItemState.{ItemState}
use Rattle.dcsctp_api.specs.types.declared.progress.ItemState.TheVariants.{InFlight, Marked, Acknowledged, Abandoned}
use Rattle.dcsctp_api.specs.types.declared.progress.Progress.{Progress}
use Rattle.dcsctp_api.specs.types.declared.progress.Change.{Change}
use Rattle.dcsctp_api.specs.types.declared.progress.Change.TheVariants.{Miss, Mark, Acknowledge}
use Rattle.dcsctp_api.specs.types.queues.Progress.{tells_whether_missing, missed_progress, missed_if_told, marked_lost, acknowledged_progress}
use Rattle.std.specs.Option.{option_map}
use Rattle.dcsctp_api.specs.spec.queues.Outstanding.{reported_items, acknowledged_count, tsn_at}
use Rattle.dcsctp_api.specs.spec.queues.Reports.{NamesItem}
use Rattle.dcsctp_send_retransmission.proofs.ItemsLemmas.{le_or_lt}
use Rattle.dcsctp_api.specs.spec.queues.Retransmission.{RetransmissionState, outstanding_count, with_items}
use Rattle.dcsctp_api.specs.spec.queues.Acknowledging.{covered_items, lossy, missed_until, exiting, has_acknowledged, opens, probes_lost, acknowledged_until, window_after_settling, AcknowledgesItems}
use Rattle.dcsctp_send_retransmission.specs.Answers.{AcknowledgesItem, SaysAnswer}

-- ---- one item

missed_stays : (progress : Progress) (state : ItemState) → (missed_progress state (record progress { state = state })).was_acknowledged ≡ progress.was_acknowledged
missed_stays progress InFlight = go (progress.misses == 2) (nat_lt progress.misses 2)
  where
    go : (b c : Bool)
        → (if b then record progress { state = Marked; misses = 3 } else if c then record progress { state = InFlight; misses = progress.misses + 1 } else record progress { state = InFlight }).was_acknowledged
        ≡ progress.was_acknowledged
    go true c = refl
    go false true = refl
    go false false = refl
missed_stays progress Marked = refl
missed_stays progress Acknowledged = refl
missed_stays progress Abandoned = refl

acknowledged_now : (progress : Progress) (state : ItemState) → (acknowledged_progress state (record progress { state = state })).was_acknowledged ≡ true
acknowledged_now progress InFlight = refl
acknowledged_now progress Marked = refl
acknowledged_now progress Acknowledged = refl
acknowledged_now progress Abandoned = refl

-- a miss leaves whether a SACK has acknowledged it
pub miss_keeps : (newest : Option ℕ) (item : Item) → (changed_item (Miss newest) item).progress.was_acknowledged ≡ item.progress.was_acknowledged
miss_keeps newest item = go (tells_whether_missing item.progress.sent_before newest)
  where
    go : (b : Bool) → (missed_if_told b item.progress).was_acknowledged ≡ item.progress.was_acknowledged
    go true = missed_stays item.progress item.progress.state
    go false = refl

-- so does its loss
loss_keeps : (item : Item) → (changed_item Mark item).progress.was_acknowledged ≡ item.progress.was_acknowledged
loss_keeps item = go item.progress.state
  where
    go : (state : ItemState) → (marked_lost state item.progress).was_acknowledged ≡ item.progress.was_acknowledged
    go InFlight = refl
    go Marked = refl
    go Acknowledged = refl
    go Abandoned = refl

pub acknowledge_notes : (item : Item) → (changed_item Acknowledge item).progress.was_acknowledged ≡ true
acknowledge_notes item = acknowledged_now item.progress item.progress.state

pub miss_adds_none : (newest : Option ℕ) (item : Item) → never_acknowledged_count (changed_item (Miss newest) item) ≤ never_acknowledged_count item
miss_adds_none newest item = let same = ap (λ (b : Bool). number_or_zero (not b) 1) (miss_keeps newest item) in omega (arith, same)

pub acknowledge_adds_none : (item : Item) → never_acknowledged_count (changed_item Acknowledge item) ≤ never_acknowledged_count item
acknowledge_adds_none item = let none = ap (λ (b : Bool). number_or_zero (not b) 1) (acknowledge_notes item) in omega (arith, none)

-- ---- sums that don't grow

pub lessened : (f : Item → ℕ) (change : Change) → ((item : Item) → f (changed_item change item) ≤ f item) → (start end : ℕ) (items : List Item) → sum_by f (changed_between change start end items) ≤ sum_by f items
lessened f change lessens zero zero items = omega arith
lessened f change lessens zero (suc end) [] = omega arith
lessened f change lessens zero (suc end) (x ∷ xs) =
    let later = lessened f change lessens zero end xs in
    let here = lessens x in
    let old = sum_by-cons f x xs in
    let new = sum_by-cons f (changed_item change x) (changed_between change zero end xs) in
    omega arith
lessened f change lessens (suc start) zero items = omega arith
lessened f change lessens (suc start) (suc end) [] = omega arith
lessened f change lessens (suc start) (suc end) (x ∷ xs) =
    let later = lessened f change lessens start end xs in
    let old = sum_by-cons f x xs in
    let new = sum_by-cons f x (changed_between change start end xs) in
    omega arith

pub reported_lessens : (f : Item → ℕ) → ((item : Item) → f (changed_item Acknowledge item) ≤ f item) → (count : ℕ) (blocks : List GapAckBlock) (items : List Item) → sum_by f (reported_items count blocks items) ≤ sum_by f items
reported_lessens f lessens count [] items = omega arith
reported_lessens f lessens count (block ∷ blocks) items =
    let first = lessened f Acknowledge lessens (count + block.start - 1) (count + block.end) items in
    let others = reported_lessens f lessens count blocks (changed_between Acknowledge (count + block.start - 1) (count + block.end) items) in
    omega arith

pub dropped_lessens : (f : Item → ℕ) (count : ℕ) (items : List Item) → sum_by f (drop count items) ≤ sum_by f items
dropped_lessens f zero items = omega arith
dropped_lessens f (suc count) [] = omega arith
dropped_lessens f (suc count) (x ∷ xs) =
    let later = dropped_lessens f count xs in
    let all = sum_by-cons f x xs in
    omega arith

-- ---- an item that no SACK has acknowledged

-- What is at a place after the change is the item from before, or the changed one.
comes_of : (change : Change) (start end : ℕ) (items : List Item) (k : ℕ) (y : Item) → slice_get (changed_between change start end items) k ≡ Some y
    → (x : Item) × ((slice_get items k ≡ Some x) × ((y ≡ x) ⊎ (y ≡ changed_item change x)))
comes_of change zero zero items k y h = (y, (h, inl refl))
comes_of change zero (suc end) [] k y h = absurd (cc)
comes_of change zero (suc end) (x ∷ xs) zero y h = (x, (refl, inr (cc)))
comes_of change zero (suc end) (x ∷ xs) (suc k) y h = comes_of change zero end xs k y h
comes_of change (suc start) zero items k y h = (y, (h, inl refl))
comes_of change (suc start) (suc end) [] k y h = absurd (cc)
comes_of change (suc start) (suc end) (x ∷ xs) zero y h = (x, (refl, inl (cc)))
comes_of change (suc start) (suc end) (x ∷ xs) (suc k) y h = comes_of change start end xs k y h

-- One that is left so was so before.
was_so : (start end : ℕ) (items : List Item) (k : ℕ) (y : Item) → slice_get (changed_between Acknowledge start end items) k ≡ Some y → y.progress.was_acknowledged ≡ false → slice_get items k ≡ Some y
was_so start end items k y h never =
    let from = comes_of Acknowledge start end items k y h in
    let at = from.1.0 in
    elim (from.1.1) [
      | inl same ↦ at ∙ ap (λ (x : Item). Some x) (sym same)
      | inr is ↦ let noted = acknowledge_notes from.0 in let read = ap (λ (x : Item). x.progress.was_acknowledged) is in absurd (cc)
    ]

was_so_reported : (count : ℕ) (blocks : List GapAckBlock) (items : List Item) (k : ℕ) (y : Item) → slice_get (reported_items count blocks items) k ≡ Some y → y.progress.was_acknowledged ≡ false → slice_get items k ≡ Some y
was_so_reported count [] items k y h never = h
was_so_reported count (block ∷ blocks) items k y h never =
    was_so (count + block.start - 1) (count + block.end) items k y (was_so_reported count blocks (changed_between Acknowledge (count + block.start - 1) (count + block.end) items) k y h never) never

one : (item : Item) → item.progress.was_acknowledged ≡ false → never_acknowledged_count item ≡ 1
one item never = ap (λ (b : Bool). number_or_zero (not b) 1) never

none : (item : Item) → never_acknowledged_count (changed_item Acknowledge item) ≡ 0
none item = ap (λ (b : Bool). number_or_zero (not b) 1) (acknowledge_notes item)

-- Where one is acknowledged fewer are left.
falls : (start end : ℕ) (items : List Item) (p : ℕ) (x : Item) → start ≤ p → p < end → slice_get items p ≡ Some x → x.progress.was_acknowledged ≡ false
    → never_acknowledged_items (changed_between Acknowledge start end items) + 1 ≤ never_acknowledged_items items
falls zero zero items p x from to at never = absurd (omega arith)
falls zero (suc end) [] p x from to at never = absurd (cc)
falls zero (suc end) (y ∷ ys) zero x from to at never =
    let same : y ≡ x = cc in
    let was = one y (ap (λ (z : Item). z.progress.was_acknowledged) same ∙ never) in
    let now = none y in
    let later = lessened never_acknowledged_count Acknowledge acknowledge_adds_none zero end ys in
    let old = sum_by-cons never_acknowledged_count y ys in
    let new = sum_by-cons never_acknowledged_count (changed_item Acknowledge y) (changed_between Acknowledge zero end ys) in
    omega (arith, was, now, later, old, new)
falls zero (suc end) (y ∷ ys) (suc p) x from to at never =
    let later = falls zero end ys p x (omega arith) (omega arith) at never in
    let here = acknowledge_adds_none y in
    let old = sum_by-cons never_acknowledged_count y ys in
    let new = sum_by-cons never_acknowledged_count (changed_item Acknowledge y) (changed_between Acknowledge zero end ys) in
    omega (arith, later, here, old, new)
falls (suc start) zero items p x from to at never = absurd (omega arith)
falls (suc start) (suc end) [] p x from to at never = absurd (cc)
falls (suc start) (suc end) (y ∷ ys) zero x from to at never = absurd (omega arith)
falls (suc start) (suc end) (y ∷ ys) (suc p) x from to at never =
    let later = falls start end ys p x (omega arith) (omega arith) at never in
    let old = sum_by-cons never_acknowledged_count y ys in
    let new = sum_by-cons never_acknowledged_count y (changed_between Acknowledge start end ys) in
    omega (arith, later, old, new)

-- It is left as it is, or fewer are left.
left_or_fewer : (start end : ℕ) (items : List Item) (p : ℕ) (x : Item) → slice_get items p ≡ Some x → x.progress.was_acknowledged ≡ false
    → (slice_get (changed_between Acknowledge start end items) p ≡ Some x) ⊎ (never_acknowledged_items (changed_between Acknowledge start end items) + 1 ≤ never_acknowledged_items items)
left_or_fewer zero zero items p x at never = inl at
left_or_fewer zero (suc end) [] p x at never = absurd (cc)
left_or_fewer zero (suc end) (y ∷ ys) zero x at never = inr (falls zero (suc end) (y ∷ ys) zero x (omega arith) (omega arith) at never)
left_or_fewer zero (suc end) (y ∷ ys) (suc p) x at never =
    let here = acknowledge_adds_none y in
    let old = sum_by-cons never_acknowledged_count y ys in
    let new = sum_by-cons never_acknowledged_count (changed_item Acknowledge y) (changed_between Acknowledge zero end ys) in
    elim (left_or_fewer zero end ys p x at never) [ inl h ↦ inl h | inr h ↦ inr (omega (arith, h, here, old, new)) ]
left_or_fewer (suc start) zero items p x at never = inl at
left_or_fewer (suc start) (suc end) [] p x at never = absurd (cc)
left_or_fewer (suc start) (suc end) (y ∷ ys) zero x at never = inl at
left_or_fewer (suc start) (suc end) (y ∷ ys) (suc p) x at never =
    let old = sum_by-cons never_acknowledged_count y ys in
    let new = sum_by-cons never_acknowledged_count y (changed_between Acknowledge start end ys) in
    elim (left_or_fewer start end ys p x at never) [ inl h ↦ inl h | inr h ↦ inr (omega (arith, h, old, new)) ]

reported_falls : (count : ℕ) (blocks : List GapAckBlock) (items : List Item) (p : ℕ) (x : Item) → NamesItem count blocks p → slice_get items p ≡ Some x → x.progress.was_acknowledged ≡ false
    → never_acknowledged_items (reported_items count blocks items) + 1 ≤ never_acknowledged_items items
reported_falls count [] items p x named at never = absurd named
reported_falls count (block ∷ blocks) items p x (inl h) at never =
    let from = h.0 in
    let to = h.1 in
    let first = falls (count + block.start - 1) (count + block.end) items p x (omega (arith, from)) (omega (arith, to)) at never in
    let others = reported_lessens never_acknowledged_count acknowledge_adds_none count blocks (changed_between Acknowledge (count + block.start - 1) (count + block.end) items) in
    omega (arith, first, others)
reported_falls count (block ∷ blocks) items p x (inr h) at never =
    let rest : List Item = changed_between Acknowledge (count + block.start - 1) (count + block.end) items in
    let first = lessened never_acknowledged_count Acknowledge acknowledge_adds_none (count + block.start - 1) (count + block.end) items in
    let others = reported_lessens never_acknowledged_count acknowledge_adds_none count blocks rest in
    elim (left_or_fewer (count + block.start - 1) (count + block.end) items p x at never) [
      | inl same ↦ let later = reported_falls count blocks rest p x h same never in omega (arith, first, later)
      | inr fewer ↦ omega (arith, fewer, others)
    ]

-- ---- and where fewer are left, one was acknowledged

-- an item that no SACK has acknowledged, at one of some places
record Found (Within : ℕ → Type 0) (items : List Item) : Type 0 where
  pub place : ℕ
  pub item : Item
  pub at : slice_get items place ≡ Some item
  pub within : Within place
  pub never : item.progress.was_acknowledged ≡ false

fell : (start end : ℕ) (items : List Item) → never_acknowledged_items (changed_between Acknowledge start end items) < never_acknowledged_items items → Found (λ k. (start ≤ k) × (k < end)) items
fell zero zero items less = absurd (omega arith)
fell zero (suc end) [] less = absurd (omega arith)
fell zero (suc end) (y ∷ ys) less = go y.progress.was_acknowledged refl less (λ h. fell zero end ys h)
  where
    go : (b : Bool) → y.progress.was_acknowledged ≡ b
        → never_acknowledged_items (changed_item Acknowledge y ∷ changed_between Acknowledge zero end ys) < never_acknowledged_items (y ∷ ys)
        → (never_acknowledged_items (changed_between Acknowledge zero end ys) < never_acknowledged_items ys → Found (λ k. (zero ≤ k) × (k < end)) ys)
        → Found (λ k. (zero ≤ k) × (k < suc end)) (y ∷ ys)
    go false is less later = record { place = zero; item = y; at = refl; within = (omega arith, omega arith); never = is }
    go true is less later =
        let none_here = ap (λ (b : Bool). number_or_zero (not b) 1) is in
        let now = none y in
        let old = sum_by-cons never_acknowledged_count y ys in
        let new = sum_by-cons never_acknowledged_count (changed_item Acknowledge y) (changed_between Acknowledge zero end ys) in
        let found = later (omega (arith, less, none_here, now, old, new)) in
        let to = found.within.1 in
        record { place = suc found.place; item = found.item; at = found.at; within = (omega arith, omega (arith, to)); never = found.never }
fell (suc start) zero items less = absurd (omega arith)
fell (suc start) (suc end) [] less = absurd (omega arith)
fell (suc start) (suc end) (y ∷ ys) less =
    let old = sum_by-cons never_acknowledged_count y ys in
    let new = sum_by-cons never_acknowledged_count y (changed_between Acknowledge start end ys) in
    let found = fell start end ys (omega (arith, less, old, new)) in
    let from = found.within.0 in
    let to = found.within.1 in
    record { place = suc found.place; item = found.item; at = found.at; within = (omega (arith, from), omega (arith, to)); never = found.never }

reported_fell : (count : ℕ) (blocks : List GapAckBlock) (items : List Item) → never_acknowledged_items (reported_items count blocks items) < never_acknowledged_items items → Found (NamesItem count blocks) items
reported_fell count [] items less = absurd (omega arith)
reported_fell count (block ∷ blocks) items less =
    let start : ℕ = count + block.start - 1 in
    let rest : List Item = changed_between Acknowledge start (count + block.end) items in
    elim (le_or_lt (never_acknowledged_items items) (never_acknowledged_items rest)) [
      | inl same ↦
          let found = reported_fell count blocks rest (omega (arith, less, same)) in
          record { place = found.place; item = found.item; at = was_so start (count + block.end) items found.place found.item found.at found.never; within = inr found.within; never = found.never }
      | inr fewer ↦
          let found = fell start (count + block.end) items fewer in
          let from = found.within.0 in
          let to = found.within.1 in
          record { place = found.place; item = found.item; at = found.at; within = inl (omega (arith, from), omega (arith, to)); never = found.never }
    ]

dropped_fell : (count : ℕ) (items : List Item) → never_acknowledged_items (drop count items) < never_acknowledged_items items → Found (λ k. k < count) items
dropped_fell zero items less = absurd (omega arith)
dropped_fell (suc count) [] less = absurd (omega arith)
dropped_fell (suc count) (y ∷ ys) less = go y.progress.was_acknowledged refl less (λ h. dropped_fell count ys h)
  where
    go : (b : Bool) → y.progress.was_acknowledged ≡ b → never_acknowledged_items (drop count ys) < never_acknowledged_items (y ∷ ys)
        → (never_acknowledged_items (drop count ys) < never_acknowledged_items ys → Found (λ k. k < count) ys)
        → Found (λ k. k < suc count) (y ∷ ys)
    go false is less later = record { place = zero; item = y; at = refl; within = omega arith; never = is }
    go true is less later =
        let none_here = ap (λ (b : Bool). number_or_zero (not b) 1) is in
        let old = sum_by-cons never_acknowledged_count y ys in
        let found = later (omega (arith, less, none_here, old)) in
        let to = found.within in
        record { place = suc found.place; item = found.item; at = found.at; within = omega (arith, to); never = found.never }

-- ---- a SACK

-- what is left of the items: the first ones, so many, are gone, those that the blocks name are acknowledged, and some miss
abbrev left_of : ℕ → ℕ → Option ℕ → List GapAckBlock → List Item → List Item
left_of count limit newest blocks items = drop count (changed_between (Miss newest) count limit (covered_items count blocks items))

answers_lessen : (count limit : ℕ) (newest : Option ℕ) (blocks : List GapAckBlock) (items : List Item) → AcknowledgesItem count blocks items → never_acknowledged_items (left_of count limit newest blocks items) < never_acknowledged_items items
answers_lessen count limit newest blocks items answers =
    let passed : List Item = changed_between Acknowledge 0 count items in
    let first = lessened never_acknowledged_count Acknowledge acknowledge_adds_none 0 count items in
    let named = reported_lessens never_acknowledged_count acknowledge_adds_none count blocks passed in
    let misses = lessened never_acknowledged_count (Miss newest) (miss_adds_none newest) count limit (covered_items count blocks items) in
    let drops = dropped_lessens never_acknowledged_count count (changed_between (Miss newest) count limit (covered_items count blocks items)) in
    elim (answers.is.0) [
      | inl within ↦ let fewer = falls 0 count items answers.place answers.item (omega arith) within answers.at answers.is.1 in omega (arith, fewer, named, misses, drops)
      | inr names ↦ elim (left_or_fewer 0 count items answers.place answers.item answers.at answers.is.1) [
        | inl same ↦ let fewer = reported_falls count blocks passed answers.place answers.item names same answers.is.1 in omega (arith, first, fewer, misses, drops)
        | inr fewer ↦ omega (arith, fewer, named, misses, drops)
      ]
    ]

-- one that is passed though no SACK had acknowledged it
passed_first : (count limit : ℕ) (newest : Option ℕ) (blocks : List GapAckBlock) (items : List Item) → Found (λ k. k < count) (changed_between (Miss newest) count limit (covered_items count blocks items)) → AcknowledgesItem count blocks items
passed_first count limit newest blocks items found =
    let from = comes_of (Miss newest) count limit (covered_items count blocks items) found.place found.item found.at in
    let never : from.0.progress.was_acknowledged ≡ false = elim (from.1.1) [
      | inl same ↦ ap (λ (x : Item). x.progress.was_acknowledged) (sym same) ∙ found.never
      | inr is ↦ sym (miss_keeps newest from.0) ∙ (ap (λ (x : Item). x.progress.was_acknowledged) (sym is) ∙ found.never)
    ] in
    let passed : List Item = changed_between Acknowledge 0 count items in
    record {
      place = found.place;
      item = from.0;
      at = was_so 0 count items found.place from.0 (was_so_reported count blocks passed found.place from.0 from.1.0 never) never;
      is = (inl found.within, never);
    }

lessens_answer : (count limit : ℕ) (newest : Option ℕ) (blocks : List GapAckBlock) (items : List Item) → never_acknowledged_items (left_of count limit newest blocks items) < never_acknowledged_items items → AcknowledgesItem count blocks items
lessens_answer count limit newest blocks items less =
    let passed : List Item = changed_between Acknowledge 0 count items in
    let marked : List Item = changed_between (Miss newest) count limit (covered_items count blocks items) in
    elim (le_or_lt (never_acknowledged_items items) (never_acknowledged_items passed)) [
      | inr fewer ↦
          let found = fell 0 count items fewer in
          record { place = found.place; item = found.item; at = found.at; is = (inl found.within.1, found.never) }
      | inl all_passed ↦ elim (le_or_lt (never_acknowledged_items passed) (never_acknowledged_items (covered_items count blocks items))) [
        | inr fewer ↦
            let found = reported_fell count blocks passed fewer in
            record { place = found.place; item = found.item; at = was_so 0 count items found.place found.item found.at found.never; is = (inr found.within, found.never) }
        | inl all_named ↦
            let kept = missing_keeps count limit (covered_items count blocks items) in
            passed_first count limit newest blocks items (dropped_fell count marked (omega (arith, less, all_passed, all_named, kept)))
      ]
    ]
  where
    missing_keeps : (start end : ℕ) (xs : List Item) → never_acknowledged_items xs ≤ never_acknowledged_items (changed_between (Miss newest) start end xs)
    missing_keeps zero zero xs = omega arith
    missing_keeps zero (suc end) [] = omega arith
    missing_keeps zero (suc end) (x ∷ xs) =
        let later = missing_keeps zero end xs in
        let here = ap (λ (b : Bool). number_or_zero (not b) 1) (miss_keeps newest x) in
        let old = sum_by-cons never_acknowledged_count x xs in
        let new = sum_by-cons never_acknowledged_count (changed_item (Miss newest) x) (changed_between (Miss newest) zero end xs) in
        omega (arith, later, here, old, new)
    missing_keeps (suc start) zero xs = omega arith
    missing_keeps (suc start) (suc end) [] = omega arith
    missing_keeps (suc start) (suc end) (x ∷ xs) =
        let later = missing_keeps start end xs in
        let old = sum_by-cons never_acknowledged_count x xs in
        let new = sum_by-cons never_acknowledged_count x (changed_between (Miss newest) start end xs) in
        omega (arith, later, old, new)

is_less : (n m : ℕ) → true ≡ nat_lt n m → n < m
is_less n m is = grind (arith, nat_tests)

contradicts : (n m : ℕ) → false ≡ nat_lt n m → n < m → ⊥
contradicts n m is less = grind (arith, nat_tests)

-- The counts of items show whether it is an answer.
pub says_answer : (count limit : ℕ) (newest : Option ℕ) (blocks : List GapAckBlock) (items left : List Item) (b : Bool) → never_acknowledged_items left ≡ never_acknowledged_items (left_of count limit newest blocks items) → b ≡ nat_lt (never_acknowledged_items left) (never_acknowledged_items items)
    → SaysAnswer b count blocks items
says_answer count limit newest blocks items left true fewer counts =
    let less = is_less (never_acknowledged_items left) (never_acknowledged_items items) counts in
    lessens_answer count limit newest blocks items (omega (arith, fewer, less))
says_answer count limit newest blocks items left false fewer counts =
    λ answers.
    let less = answers_lessen count limit newest blocks items answers in
    contradicts (never_acknowledged_items left) (never_acknowledged_items items) counts (omega (arith, fewer, less))

missed_items : (count limit : ℕ) (newest : Option ℕ) (queue : RetransmissionState) → (missed_until count limit newest queue).outstanding.items ≡ changed_between (Miss newest) count limit queue.outstanding.items
missed_items count limit newest queue = go (nat_lt (marked_items queue.outstanding.items) (marked_items (changed_between (Miss newest) count limit queue.outstanding.items)))
  where
    go : (b : Bool)
        → (if b then lossy (with_items (changed_between (Miss newest) count limit queue.outstanding.items) queue) else with_items (changed_between (Miss newest) count limit queue.outstanding.items) queue).outstanding.items
        ≡ changed_between (Miss newest) count limit queue.outstanding.items
    go true = refl
    go false = refl

-- the loss of all that is in flight leaves how many no SACK has acknowledged
losing_keeps : (start end : ℕ) (xs : List Item) → never_acknowledged_items (changed_between Mark start end xs) ≡ never_acknowledged_items xs
losing_keeps zero zero xs = refl
losing_keeps zero (suc end) [] = refl
losing_keeps zero (suc end) (x ∷ xs) =
    let later = losing_keeps zero end xs in
    let here = ap (λ (b : Bool). number_or_zero (not b) 1) (loss_keeps x) in
    let old = sum_by-cons never_acknowledged_count x xs in
    let new = sum_by-cons never_acknowledged_count (changed_item Mark x) (changed_between Mark zero end xs) in
    omega (arith, later, here, old, new)
losing_keeps (suc start) zero xs = refl
losing_keeps (suc start) (suc end) [] = refl
losing_keeps (suc start) (suc end) (x ∷ xs) =
    let later = losing_keeps start end xs in
    let old = sum_by-cons never_acknowledged_count x xs in
    let new = sum_by-cons never_acknowledged_count x (changed_between Mark start end xs) in
    omega (arith, later, old, new)

-- so does a window that opens
settled_keeps : (now window count : ℕ) (state : RetransmissionState) → never_acknowledged_items (window_after_settling now window count state).outstanding.items ≡ never_acknowledged_items state.outstanding.items
settled_keeps now window count state = go (opens state (record state { peer_window = window }))
  where
    go : (b : Bool) → never_acknowledged_items (probes_lost b (record state { peer_window = window })).outstanding.items ≡ never_acknowledged_items state.outstanding.items
    go true = losing_keeps 0 (outstanding_count state) state.outstanding.items
    go false = refl

-- A SACK says so of itself.
pub sack_answers : (now cumulative window : ℕ) (blocks : List GapAckBlock) (old new : RetransmissionState) (b : Bool) → AcknowledgesItems now cumulative window blocks old new → b ≡ has_acknowledged old new
    → SaysAnswer b (acknowledged_count old.outstanding cumulative) blocks old.outstanding.items
sack_answers now cumulative window blocks old new b takes counts =
    let count : ℕ = acknowledged_count old.outstanding cumulative in
    let items : List Item = old.outstanding.items in
    says_answer count takes.limit (option_map (tsn_at old.outstanding) takes.newest) blocks items new.outstanding.items b
    (ap (λ (q : RetransmissionState). never_acknowledged_items q.outstanding.items) takes.is
    ∙ settled_keeps now window count (acknowledged_until count blocks takes.limit (option_map (tsn_at old.outstanding) takes.newest) (exiting cumulative old))
    ∙ ap (λ (xs : List Item). never_acknowledged_items (drop count xs)) (missed_items count takes.limit (option_map (tsn_at old.outstanding) takes.newest) (with_items (covered_items count blocks items) (exiting cumulative old))))
    counts
