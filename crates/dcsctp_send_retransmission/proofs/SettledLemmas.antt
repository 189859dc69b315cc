-- Lemmas on settled items, which most changes leave as they are.
use Rattle.std.proofs.Common.{◌≡◌, ◌⊎◌, inl, inr, ℕ, zero, suc, ◌+◌, ◌-◌, ◌<◌, ◌≤◌, min, max, not, Bool, true, false, Option, None, Some, List, [], ◌∷◌, ◌++◌, length, get_or, refl, ap, sym, subst, ◌∙◌, arith, add-one}
use Rattle.std.proofs.Math.ListN.{set}
use Rattle.std.specs.List.{slice_get}
use Rattle.std.proofs.lemmas.Bool.Decides.{nat_tests}
use Rattle.std.proofs.lemmas.Option.{slice_get_within}
use Rattle.dcsctp_api.specs.wire.declared.chunk.sack.GapAckBlock.{GapAckBlock}
use Rattle.dcsctp_api.specs.spec.queues.Items.{Item, changed_item, changed_between}
use Rattle.dcsctp_send_retransmission.specs.declared.named_places.NamedPlaces.{NamedPlaces}
use Rattle.dcsctp_api.specs.types.declared.progress.Change.{Change}
use Rattle.dcsctp_api.specs.types.declared.progress.Change.TheVariants.{SendAgain, Miss, Mark, Acknowledge, Abandon}
use Rattle.dcsctp_api.specs.types.declared.progress.ItemState.{ItemState}
use Rattle.dcsctp_api.specs.types.declared.progress.ItemState.TheVariants.{InFlight, Marked, Acknowledged, Abandoned}
use Rattle.dcsctp_api.specs.types.declared.progress.Progress.{Progress}
use Rattle.dcsctp_api.specs.types.queues.Progress.{progress_changed, tells_whether_missing, missed_progress, missed_if_told, marked_lost, acknowledged_progress, is_in_flight, is_unacknowledged}
use Rattle.dcsctp_send_retransmission.specs.Settled.{is_settled, leaves_settled, is_left_unchanged, is_unsettled}
use Rattle.dcsctp_send_retransmission.specs.declared.totals.Totals.{Totals}
use Rattle.dcsctp_send_retransmission.specs.Outstanding.{AreItemsKept, later_of}
use Rattle.dcsctp_api.specs.spec.queues.Outstanding.{reported_items}
use Rattle.dcsctp_api.specs.spec.queues.Reports.{IsPlaceWithin, NamesItem, IsLastItem, IsLastPlace}
use Rattle.dcsctp_send_retransmission.specs.NamedPlaces.{IsNamedPlace, IsSettledItem, AreSettled, AreSettledBetween, BlocksAreSettled, IsLeftBetween}
use Rattle.dcsctp_send_retransmission.proofs.ItemsLemmas.{le_or_lt}
use Rattle.dcsctp_send_retransmission.proofs.MessageLemmas.{index_at}
use Rattle.dcsctp_send_retransmission.proofs.ReportLemmas.{has_item, last_either}

-- ---- one item

-- if a miss leaves an item as it is, it does so whether or not the SACK reports on the item
miss_is_same : (b : Bool) (progress : Progress) → missed_progress progress.state progress ≡ progress → missed_if_told b progress ≡ progress
miss_is_same true progress same = same
miss_is_same false progress same = refl

-- a change leaves what it is known to leave
pub left_is_same : (change : Change) (progress : Progress) → is_left_unchanged change progress ≡ true → progress_changed change progress ≡ progress
left_is_same (SendAgain next) progress h = absurd (cc)
left_is_same (Miss newest) progress h = miss_is_same (tells_whether_missing progress.sent_before newest) progress (go progress.state h)
  where
    go : (state : ItemState) → is_left_unchanged (Miss newest) (record progress { state = state }) ≡ true → missed_progress state (record progress { state = state }) ≡ record progress { state = state }
    go InFlight h = grind (arith, nat_tests)
    go Marked h = refl
    go Acknowledged h = refl
    go Abandoned h = refl
left_is_same Mark progress h = go progress.state h
  where
    go : (state : ItemState) → not (is_in_flight state) ≡ true → marked_lost state (record progress { state = state }) ≡ record progress { state = state }
    go InFlight h = absurd (cc)
    go Marked h = refl
    go Acknowledged h = refl
    go Abandoned h = refl
left_is_same Acknowledge progress h = go progress.state progress.was_acknowledged h
  where
    go : (state : ItemState) (was : Bool) → is_settled (record progress { state = state; was_acknowledged = was }) ≡ true → acknowledged_progress state (record progress { state = state; was_acknowledged = was }) ≡ record progress { state = state; was_acknowledged = was }
    go InFlight was h = absurd (cc)
    go Marked was h = absurd (cc)
    go Acknowledged true h = refl
    go Acknowledged false h = absurd (cc)
    go Abandoned true h = refl
    go Abandoned false h = absurd (cc)
left_is_same Abandon progress h = absurd (cc)

-- what is settled is not awaited
pub settled_is_not_awaited : (progress : Progress) → is_settled progress ≡ true → is_unacknowledged progress.state ≡ true → ⊥
settled_is_not_awaited progress h awaited = let both = rw awaited at h in absurd (cc)

-- Most changes are known to leave what is settled.
pub settled_is_left : (change : Change) (progress : Progress) → leaves_settled change ≡ true → is_settled progress ≡ true → progress_changed change progress ≡ progress
settled_is_left (SendAgain next) progress leaves h = absurd (cc)
settled_is_left (Miss newest) progress leaves h = miss_is_same (tells_whether_missing progress.sent_before newest) progress (go progress.state h)
  where
    go : (state : ItemState) → is_settled (record progress { state = state }) ≡ true → missed_progress state (record progress { state = state }) ≡ record progress { state = state }
    go InFlight h = absurd (cc)
    go Marked h = refl
    go Acknowledged h = refl
    go Abandoned h = refl
settled_is_left Mark progress leaves h = go progress.state h
  where
    go : (state : ItemState) → is_settled (record progress { state = state }) ≡ true → marked_lost state (record progress { state = state }) ≡ record progress { state = state }
    go InFlight h = absurd (cc)
    go Marked h = refl
    go Acknowledged h = refl
    go Abandoned h = refl
settled_is_left Acknowledge progress leaves h = left_is_same Acknowledge progress h
settled_is_left Abandon progress leaves h = absurd (cc)

-- what a SACK acknowledges is settled
pub acknowledged_is_settled : (progress : Progress) → is_settled (progress_changed Acknowledge progress) ≡ true
acknowledged_is_settled progress = go progress.state
  where
    go : (state : ItemState) → is_settled (acknowledged_progress state (record progress { state = state })) ≡ true
    go InFlight = refl
    go Marked = refl
    go Acknowledged = refl
    go Abandoned = refl

-- What is settled stays so, unless the change is known to unsettle it.
pub stays_settled : (change : Change) (progress : Progress) → is_unsettled change progress ≡ false → is_settled progress ≡ true → is_settled (progress_changed change progress) ≡ true
stays_settled (SendAgain next) progress keeps h = absurd (cc)
stays_settled (Miss newest) progress keeps h = rw (settled_is_left (Miss newest) progress refl h) h
stays_settled Mark progress keeps h = rw (settled_is_left Mark progress refl h) h
stays_settled Acknowledge progress keeps h = acknowledged_is_settled progress
stays_settled Abandon progress keeps h = go progress.state h
  where
    go : (state : ItemState) → is_settled (record progress { state = state }) ≡ true → progress.was_acknowledged ≡ true
    go InFlight h = absurd (cc)
    go Marked h = absurd (cc)
    go Acknowledged h = h
    go Abandoned h = h

-- ---- items that a change leaves

-- a change that leaves each item of its row
pub none_left_changed : (change : Change) (start end : ℕ) (items : List Item) → IsLeftBetween change start end items → changed_between change start end items ≡ items
none_left_changed change zero zero items left = refl
none_left_changed change zero (suc end) [] left = refl
none_left_changed change zero (suc end) (x ∷ xs) left =
    let here : progress_changed change x.progress ≡ x.progress = left 0 x (omega arith) (omega arith) refl in
    let first : changed_item change x ≡ x = ap (λ (p : Progress). let it : Item = record x { progress = p } in it) here in
    let others = none_left_changed change zero end xs (λ k item from to at. left (suc k) item (omega arith) (omega arith) at) in
    rw (first, others) refl
none_left_changed change (suc start) zero items left = refl
none_left_changed change (suc start) (suc end) [] left = refl
none_left_changed change (suc start) (suc end) (x ∷ xs) left =
    ap (λ ys. x ∷ ys) (none_left_changed change start end xs (λ k item from to at. left (suc k) item (omega arith) (omega arith) at))

-- a change of a row, and of the row after it
pub changed_joined : (change : Change) (start place end : ℕ) (items : List Item) → start ≤ place → place ≤ end → changed_between change place end (changed_between change start place items) ≡ changed_between change start end items
changed_joined change zero zero zero items from to = refl
changed_joined change zero zero (suc end) items from to = refl
changed_joined change zero (suc place) zero items from to = absurd (omega arith)
changed_joined change zero (suc place) (suc end) [] from to = refl
changed_joined change zero (suc place) (suc end) (x ∷ xs) from to = ap (λ ys. changed_item change x ∷ ys) (changed_joined change zero place end xs (omega arith) (omega arith))
changed_joined change (suc start) zero end items from to = absurd (omega arith)
changed_joined change (suc start) (suc place) zero items from to = absurd (omega arith)
changed_joined change (suc start) (suc place) (suc end) [] from to = refl
changed_joined change (suc start) (suc place) (suc end) (x ∷ xs) from to = ap (λ ys. x ∷ ys) (changed_joined change start place end xs (omega arith) (omega arith))

-- a change reaches further over items that it leaves
pub changed_past : (change : Change) (start place end : ℕ) (items now : List Item) → now ≡ changed_between change start place items → start ≤ place → place ≤ end → IsLeftBetween change place end now → now ≡ changed_between change start end items
changed_past change start place end items now is from to left =
    let same = none_left_changed change place end now left in
    let joined = changed_joined change start place end items from to in
    sym same ∙ (ap (λ ys. changed_between change place end ys) is ∙ joined)

same_at : (items : List Item) (k : ℕ) (a b : Item) → slice_get items k ≡ Some a → slice_get items k ≡ Some b → a ≡ b
same_at items k a b first second = cc

-- one item that the change leaves
pub one_left : (change : Change) (place : ℕ) (items : List Item) (item : Item) → slice_get items place ≡ Some item → progress_changed change item.progress ≡ item.progress → items ≡ changed_between change place (place + 1) items
one_left change place items item at left = sym (none_left_changed change place (place + 1) items row)
  where
    row : IsLeftBetween change place (place + 1) items
    row k x from to there =
        let here : k ≡ place = omega arith in
        let same : x ≡ item = same_at items place x item (subst (λ (p : ℕ). slice_get items p ≡ Some x) here there) at in
        rw same left

-- a row of named places
pub row_is_settled : (named : NamedPlaces) (items : List Item) (start end : ℕ) → AreSettled named items → ((k : ℕ) → start ≤ k → k < end → IsNamedPlace named k) → AreSettledBetween start end items
row_is_settled named items start end settled row k item from to at = go (settled k (row k from to))
  where
    go : IsSettledItem items k → is_settled item.progress ≡ true
    go was = ap (λ (x : Item). is_settled x.progress) (same_at items k item was.item at was.at) ∙ was.is

pub row_is_left : (change : Change) (start end : ℕ) (items : List Item) → leaves_settled change ≡ true → AreSettledBetween start end items → IsLeftBetween change start end items
row_is_left change start end items leaves settled k item from to at = settled_is_left change item.progress leaves (settled k item from to at)

-- ---- what is settled, as items come and go

get_replaced : (xs : List Item) (place k : ℕ) (new x : Item) → slice_get xs k ≡ Some x → ((k ≡ place) × (slice_get (set xs place new) k ≡ Some new)) ⊎ (slice_get (set xs place new) k ≡ Some x)
get_replaced [] place k new x h = absurd (cc)
get_replaced (y ∷ ys) zero zero new x h = inl (refl, refl)
get_replaced (y ∷ ys) zero (suc k) new x h = inr h
get_replaced (y ∷ ys) (suc place) zero new x h = inr h
get_replaced (y ∷ ys) (suc place) (suc k) new x h =
    elim (get_replaced ys place k new x h) [ inl e ↦ inl (ap suc e.0, e.1) | inr e ↦ inr e ]

-- one item is changed
pub settled_replaced : (change : Change) (old named : NamedPlaces) (items : List Item) (place : ℕ) (item : Item) (progress : Progress) (unsettles : Bool) → AreSettled old items → item ≡ get_or items place item → progress ≡ progress_changed change item.progress → unsettles ≡ is_unsettled change item.progress → ((k : ℕ) → IsNamedPlace named k → (unsettles ≡ false) × IsNamedPlace old k) → AreSettled named (set items place (record item { progress = progress }))
settled_replaced change old named items place item progress unsettles settled is e test keeps k is_named =
    let kept = keeps k is_named in
    let was = settled k kept.1 in
    elim (get_replaced items place k (record item { progress = progress }) was.item was.at) [
      | inl here ↦
          let same : item ≡ was.item = index_at items place item was.item is (subst (λ (p : ℕ). slice_get items p ≡ Some was.item) here.0 was.at) in
          let before : is_settled item.progress ≡ true = ap (λ (x : Item). is_settled x.progress) same ∙ was.is in
          record { item = record item { progress = progress }; at = here.1; is = ap is_settled e ∙ stays_settled change item.progress (sym test ∙ kept.0) before }
      | inr other ↦ record { item = was.item; at = other; is = was.is }
    ]

get_pushed : (xs : List Item) (k : ℕ) (new x : Item) → slice_get xs k ≡ Some x → slice_get (xs ++ new ∷ []) k ≡ Some x
get_pushed [] k new x h = absurd (cc)
get_pushed (y ∷ ys) zero new x h = h
get_pushed (y ∷ ys) (suc k) new x h = get_pushed ys k new x h

-- one more item
pub settled_pushed : (named : NamedPlaces) (items : List Item) (new : Item) → AreSettled named items → AreSettled named (items ++ new ∷ [])
settled_pushed named items new settled k is_named =
    let was = settled k is_named in
    record { item = was.item; at = get_pushed items k new was.item was.at; is = was.is }

settled_behind : (item : Item) (items : List Item) (k : ℕ) → IsSettledItem (item ∷ items) (k + 1) → IsSettledItem items k
settled_behind item items k was = record { item = was.item; at = rw add-one at was.at; is = was.is }

-- the first item is removed
pub settled_removed : (old named : NamedPlaces) (item : Item) (items : List Item) → AreSettled old (item ∷ items) → ((k : ℕ) → IsNamedPlace named k → IsNamedPlace old (k + 1)) → AreSettled named items
settled_removed old named item items settled shifts k is_named = settled_behind item items k (settled (k + 1) (shifts k is_named))

-- more places are named
pub settled_added : (old named : NamedPlaces) (items : List Item) (start end limit : ℕ) → AreSettled old items → AreSettledBetween start end items → limit ≡ min end (length items) → ((k : ℕ) → IsNamedPlace named k → IsNamedPlace old k ⊎ IsPlaceWithin start limit k) → AreSettled named items
settled_added old named items start end limit settled row is adds k is_named =
    elim (adds k is_named) [
      | inl before ↦ settled k before
      | inr within ↦
          let to = within.1 in
          let has = has_item items k (omega arith) in
          record { item = has.0; at = has.1; is = row k has.0 within.0 (omega arith) has.1 }
    ]

-- other places are named
pub kept_with_named : (is_interleaved : Bool) (cursor : ℕ) (items : List Item) (totals : Totals) (old named : NamedPlaces) → AreItemsKept is_interleaved cursor items totals old → AreSettled named items → AreItemsKept is_interleaved cursor items totals named
kept_with_named is_interleaved cursor items totals old named kept settled =
    record { few = kept.few; sums = kept.sums; scanned = kept.scanned; settled = settled; bytes = kept.bytes }

-- ---- what the blocks name

-- What is at a place after the change is the item from before, or the changed one.
comes_of : (change : Change) (start end : ℕ) (items : List Item) (k : ℕ) (y : Item) → slice_get (changed_between change start end items) k ≡ Some y → (x : Item) × ((slice_get items k ≡ Some x) × (((IsPlaceWithin start end k → ⊥) × (y ≡ x)) ⊎ (y ≡ changed_item change x)))
comes_of change zero zero items k y h = (y, (h, inl (λ within. let to = within.1 in absurd (omega arith), refl)))
comes_of change zero (suc end) [] k y h = absurd (cc)
comes_of change zero (suc end) (x ∷ xs) zero y h = (x, (refl, inr (cc)))
comes_of change zero (suc end) (x ∷ xs) (suc k) y h =
    let from = comes_of change zero end xs k y h in
    (from.0, (from.1.0, elim (from.1.1) [ inl e ↦ inl (λ within. let to = within.1 in e.0 (omega arith, omega arith), e.1) | inr e ↦ inr e ]))
comes_of change (suc start) zero items k y h = (y, (h, inl (λ within. let to = within.1 in absurd (omega arith), refl)))
comes_of change (suc start) (suc end) [] k y h = absurd (cc)
comes_of change (suc start) (suc end) (x ∷ xs) zero y h = (x, (refl, inl (λ within. let from = within.0 in absurd (omega arith), cc)))
comes_of change (suc start) (suc end) (x ∷ xs) (suc k) y h =
    let from = comes_of change start end xs k y h in
    (from.0, (from.1.0, elim (from.1.1) [ inl e ↦ inl (λ within. let a = within.0 in let b = within.1 in e.0 (omega arith, omega arith), e.1) | inr e ↦ inr e ]))

-- a settled item stays so when items are acknowledged
acknowledging_keeps : (start end : ℕ) (items : List Item) (k : ℕ) (y : Item) → slice_get (changed_between Acknowledge start end items) k ≡ Some y → ((x : Item) → slice_get items k ≡ Some x → is_settled x.progress ≡ true) → is_settled y.progress ≡ true
acknowledging_keeps start end items k y h settled =
    let from = comes_of Acknowledge start end items k y h in
    elim (from.1.1) [
      | inl e ↦ ap (λ (x : Item). is_settled x.progress) e.1 ∙ settled from.0 from.1.0
      | inr e ↦ ap (λ (x : Item). is_settled x.progress) e ∙ acknowledged_is_settled from.0.progress
    ]

reporting_keeps : (count : ℕ) (blocks : List GapAckBlock) (items : List Item) (k : ℕ) (y : Item) → slice_get (reported_items count blocks items) k ≡ Some y → ((x : Item) → slice_get items k ≡ Some x → is_settled x.progress ≡ true) → is_settled y.progress ≡ true
reporting_keeps count [] items k y h settled = settled y h
reporting_keeps count (block ∷ blocks) items k y h settled =
    reporting_keeps count blocks (changed_between Acknowledge (count + block.start - 1) (count + block.end) items) k y h
    (λ x at. acknowledging_keeps (count + block.start - 1) (count + block.end) items k x at settled)

-- what the blocks name is settled, once it is acknowledged
pub reported_is_settled : (count : ℕ) (blocks : List GapAckBlock) (items : List Item) → BlocksAreSettled count blocks (reported_items count blocks items)
reported_is_settled count [] items k y named h = absurd named
reported_is_settled count (block ∷ blocks) items k y (inl here) h =
    reporting_keeps count blocks (changed_between Acknowledge (count + block.start - 1) (count + block.end) items) k y h (λ x at. go x at)
  where
    go : (x : Item) → slice_get (changed_between Acknowledge (count + block.start - 1) (count + block.end) items) k ≡ Some x → is_settled x.progress ≡ true
    go x at =
        let from = comes_of Acknowledge (count + block.start - 1) (count + block.end) items k x at in
        elim (from.1.1) [
          | inl e ↦ let a = here.0 in let b = here.1 in absurd (e.0 (omega arith, omega arith))
          | inr e ↦ ap (λ (x : Item). is_settled x.progress) e ∙ acknowledged_is_settled from.0.progress
        ]
reported_is_settled count (block ∷ blocks) items k y (inr others) h =
    reported_is_settled count blocks (changed_between Acknowledge (count + block.start - 1) (count + block.end) items) k y others h

-- a block among them names its places
named_by : (count : ℕ) (blocks : List GapAckBlock) (i : ℕ) (d : GapAckBlock) (place : ℕ) → i < length blocks → IsPlaceWithin (count + (get_or blocks i d).start - 1) (count + (get_or blocks i d).end) place → NamesItem count blocks place
named_by count [] i d place within h = absurd (omega arith)
named_by count (block ∷ blocks) zero d place within h = let a = h.0 in let b = h.1 in inl (omega arith, omega arith)
named_by count (block ∷ blocks) (suc i) d place within h = inr (named_by count blocks i d place (omega arith) h)

pub block_is_settled : (count : ℕ) (blocks : List GapAckBlock) (i : ℕ) (d : GapAckBlock) (items : List Item) → i < length blocks → BlocksAreSettled count blocks items → AreSettledBetween (count + (get_or blocks i d).start - 1) (count + (get_or blocks i d).end) items
block_is_settled count blocks i d items within settled k item from to at = settled k item (named_by count blocks i d k within (from, to)) at

-- ---- the last item that is awaited

abbrev pub IsAwaitedWithin : ℕ → ℕ → ℕ → Item → Type 0
IsAwaitedWithin start end place item = IsPlaceWithin start end place × (is_unacknowledged item.progress.state ≡ true)

pub none_awaited : (items : List Item) (start : ℕ) → IsLastPlace (IsAwaitedWithin start start) items None
none_awaited items start k item at awaited = let a = awaited.0.0 in let b = awaited.0.1 in absurd (omega arith)

-- a row of one place
pub awaited_here : (items : List Item) (place : ℕ) (item : Item) → slice_get items place ≡ Some item → is_unacknowledged item.progress.state ≡ true → IsLastItem (IsAwaitedWithin place (place + 1)) items place
awaited_here items place item at awaited =
    record { item = item; at = at; holds = ((omega arith, omega arith), awaited); last = λ k x behind there holds. let to = holds.0.1 in absurd (omega arith) }

pub none_awaited_here : (items : List Item) (place : ℕ) (item : Item) → slice_get items place ≡ Some item → is_unacknowledged item.progress.state ≡ false → IsLastPlace (IsAwaitedWithin place (place + 1)) items None
none_awaited_here items place item at unawaited k x there holds =
    let from = holds.0.0 in
    let to = holds.0.1 in
    let here : k ≡ place = omega arith in
    let own : slice_get items place ≡ Some x = subst (λ (p : ℕ). slice_get items p ≡ Some x) here there in
    let same : item ≡ x = cc in
    let both = ap (λ (y : Item). is_unacknowledged y.progress.state) same in
    let awaited = holds.1 in
    absurd (cc)

-- the same of another row, where the items of both that are awaited are the same
last_at_same : (P Q : ℕ → Item → Type 0) (items : List Item) (found : Option ℕ) → ((k : ℕ) (x : Item) → P k x → Q k x) → ((k : ℕ) (x : Item) → slice_get items k ≡ Some x → Q k x → P k x) → IsLastPlace P items found → IsLastPlace Q items found
last_at_same P Q items None to from none = λ k x at holds. none k x at (from k x at holds)
last_at_same P Q items (Some place) to from found =
    record { item = found.item; at = found.at; holds = to place found.item found.holds; last = λ k x behind at holds. found.last k x behind at (from k x at holds) }

-- the row reaches further over settled items
pub awaited_past : (items : List Item) (start place end : ℕ) (found : Option ℕ) → place ≤ end → AreSettledBetween place end items → IsLastPlace (IsAwaitedWithin start place) items found → IsLastPlace (IsAwaitedWithin start end) items found
awaited_past items start place end found further settled last =
    last_at_same (λ k x. IsAwaitedWithin start place k x) (λ k x. IsAwaitedWithin start end k x) items found
    (λ k x holds. let to = holds.0.1 in ((holds.0.0, omega arith), holds.1))
    (λ k x at holds. elim (le_or_lt place k) [
      | inl behind ↦ absurd (settled_is_not_awaited x.progress (settled k x behind holds.0.1 at) holds.1)
      | inr before ↦ ((holds.0.0, before), holds.1)
    ])
    last

-- one place more
pub awaited_further : (items : List Item) (start place : ℕ) (a b : Option ℕ) → start ≤ place → IsLastPlace (IsAwaitedWithin start place) items a → IsLastPlace (IsAwaitedWithin place (place + 1)) items b → IsLastPlace (IsAwaitedWithin start (place + 1)) items (later_of a b)
awaited_further items start place a b from before here =
    last_at_same (λ k x. IsAwaitedWithin start place k x ⊎ IsAwaitedWithin place (place + 1) k x) (λ k x. IsAwaitedWithin start (place + 1) k x) items (later_of a b)
    (λ k x holds. elim holds [
      | inl h ↦ let to = h.0.1 in ((h.0.0, omega arith), h.1)
      | inr h ↦ let a = h.0.0 in ((omega arith, h.0.1), h.1)
    ])
    (λ k x at holds. elim (le_or_lt place k) [
      | inl behind ↦ inr ((behind, holds.0.1), holds.1)
      | inr before ↦ inl ((holds.0.0, before), holds.1)
    ])
    (last_either (λ k x. IsAwaitedWithin start place k x) (λ k x. IsAwaitedWithin place (place + 1) k x) items a b before here)

-- as far as there are items
pub awaited_as_far : (items : List Item) (start place end : ℕ) (found : Option ℕ) → place ≡ max start (min end (length items)) → IsLastPlace (IsAwaitedWithin start place) items found → IsLastPlace (IsAwaitedWithin start end) items found
awaited_as_far items start place end found is last =
    last_at_same (λ k x. IsAwaitedWithin start place k x) (λ k x. IsAwaitedWithin start end k x) items found
    (λ k x holds. let a = holds.0.0 in let b = holds.0.1 in ((a, omega arith), holds.1))
    (λ k x at holds. let inside = slice_get_within items k x at in let b = holds.0.1 in ((holds.0.0, omega arith), holds.1))
    last
