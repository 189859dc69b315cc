-- Lemmas on items, their sums and their changes.
use Rattle.std.proofs.Common.{◌≡◌, ◌≢◌, ◌⊎◌, length-append, inl, inr, ℕ, zero, suc, ◌+◌, ◌-◌, ◌*◌, ◌<◌, ◌≤◌, ◌^◌, min, max, not, Bool, true, false, Some, List, [], ◌∷◌, ◌++◌, length, drop, take, get_or, refl, ap, sym, ◌∙◌, arith, add-one}
use Rattle.std.proofs.Math.ListN.{set, length-set}
use Rattle.std.specs.List.{sum_by, slice_get}
use Rattle.std.proofs.lemmas.List.Sums.{sum_by-set, sum_by-cons, sum_by_push, get_or-le-sum_by}
use Rattle.std.proofs.lemmas.Option.{slice_get_within}
use Rattle.dcsctp_api.specs.wire.declared.chunk.sack.GapAckBlock.{GapAckBlock}
use Rattle.dcsctp_api.specs.types.declared.progress.Change.TheVariants.{Acknowledge}
use Rattle.dcsctp_api.specs.spec.queues.Items.{Item, number_or_zero, item_size, in_flight_size, unacknowledged_size, unacknowledged_count, never_acknowledged_count, marked_count, marked_items, changed_item, changed_between}
use Rattle.dcsctp_send_retransmission.specs.declared.named_places.NamedPlaces.{NamedPlaces}
use Rattle.dcsctp_api.specs.types.declared.progress.Change.{Change}
use Rattle.dcsctp_api.specs.types.declared.progress.Progress.{Progress}
use Rattle.dcsctp_send_retransmission.specs.declared.totals.Totals.{Totals}
use Rattle.dcsctp_api.specs.types.queues.Progress.{is_in_flight, is_marked, is_unacknowledged, progress_changed}
use Rattle.dcsctp_send_retransmission.specs.Outstanding.{cursor_after, IsSummed, NoneMarkedBetween, AreItemsKept}
use Rattle.dcsctp_api.specs.spec.queues.NextItem.{NoneMarkedBefore}
use Rattle.dcsctp_api.specs.spec.Soundness.{HasBytes}
use Rattle.dcsctp_send_retransmission.specs.NamedPlaces.{AreSettled}
use Rattle.dcsctp_send_retransmission.specs.Totals.{total_with, total_without, HasRoomInTotals}
use Rattle.dcsctp_send_retransmission.proofs.BytesLemmas.{bytes_set, bytes_pushed}
use Rattle.dcsctp_api.specs.spec.queues.Outstanding.{OutstandingState, header_of, reported_items}

-- a sum of terms that have a bound
pub sum_bounded : {X : Type 0} (f : X → ℕ) (bound : ℕ) → ((x : X) → f x ≤ bound) → (xs : List X) → sum_by f xs ≤ length xs * bound
sum_bounded f bound each [] = omega arith
sum_bounded f bound each (x ∷ xs) =
    let head = each x in
    let tail = sum_bounded f bound each xs in
    let whole = sum_by-cons f x xs in
    grind arith

pub counted_bounded : (test : Bool) (number bound : ℕ) → number ≤ bound → number_or_zero test number ≤ bound
counted_bounded true number bound h = h
counted_bounded false number bound h = omega arith

-- the sum with one element replaced
pub sum_replaced : (f : Item → ℕ) (items : List Item) (place : ℕ) (item new : Item) → place < length items → item ≡ get_or items place item → sum_by f (set items place new) + f item ≡ sum_by f items + f new
sum_replaced f items place item new within is =
    let e = sum_by-set f items place new item within in
    let same = ap f is in
    omega arith

pub sum_has : (f : Item → ℕ) (items : List Item) (place : ℕ) (item : Item) → place < length items → item ≡ get_or items place item → f item ≤ sum_by f items
sum_has f items place item within is =
    let e = get_or-le-sum_by f items place item within in
    let same = ap f is in
    omega arith

-- what the change at one place makes of the items
pub changed_one : (change : Change) (place : ℕ) (items : List Item) (item : Item) → place < length items → item ≡ get_or items place item → changed_between change place (suc place) items ≡ set items place (changed_item change item)
changed_one change place [] item within is = absurd (omega arith)
changed_one change zero (x ∷ xs) item within is = ap (λ y. changed_item change y ∷ xs) (sym is)
changed_one change (suc place) (x ∷ xs) item within is =
    ap (λ ys. x ∷ ys) (changed_one change place xs item (omega arith) is)

-- an element of a list with one replaced
pub slice_get_replaced : {X : Type 0} (xs : List X) (place k : ℕ) (new x : X) → slice_get (set xs place new) k ≡ Some x → ((k ≡ place) × (x ≡ new)) ⊎ ((k ≢ place) × (slice_get xs k ≡ Some x))
slice_get_replaced [] place k new x h = absurd (cc)
slice_get_replaced (y ∷ ys) zero zero new x h = inl (refl, cc)
slice_get_replaced (y ∷ ys) zero (suc k) new x h = inr (omega arith, h)
slice_get_replaced (y ∷ ys) (suc place) zero new x h = inr (omega arith, h)
slice_get_replaced (y ∷ ys) (suc place) (suc k) new x h =
    elim (slice_get_replaced ys place k new x h) [ inl e ↦ inl (ap suc e.0, e.1) | inr e ↦ inr (let ne : k ≢ place = e.0 in omega arith, e.1) ]

-- no item before the cursor is marked, also after one was replaced
pub scanned_replaced : (items : List Item) (place cursor : ℕ) (new : Item) → NoneMarkedBefore cursor items → NoneMarkedBefore (cursor_after (is_marked new.progress.state) place cursor) (set items place new)
scanned_replaced items place cursor new scanned k item below is =
    go (is_marked new.progress.state) refl below (slice_get_replaced items place k new item is)
  where
    go : (b : Bool) → is_marked new.progress.state ≡ b → k < cursor_after b place cursor → ((k ≡ place) × (item ≡ new)) ⊎ ((k ≢ place) × (slice_get items k ≡ Some item)) → is_marked item.progress.state ≡ false
    go true e below (inl same) = absurd (omega (arith, same.0))
    go true e below (inr other) = scanned k item (omega arith) other.1
    go false e below (inl same) = ap (λ (x : Item). is_marked x.progress.state) same.1 ∙ e
    go false e below (inr other) = scanned k item below other.1

-- the sums, where one item is counted in place of another
pub sums_replaced : (header : ℕ) (items : List Item) (totals : Totals) (place : ℕ) (item new : Item) → place < length items → item ≡ get_or items place item → item_size header item ≡ item_size header new → IsSummed header items totals → IsSummed header (set items place new) (total_with new.progress (item_size header new) (total_without item.progress (item_size header item) totals))
sums_replaced header items totals place item new within is same sums =
    record {
      in_flight = let e = sum_replaced (in_flight_size header) items place item new within is in let has = sum_has (in_flight_size header) items place item within is in let was = sums.in_flight in omega arith;
      bytes = let e = sum_replaced (unacknowledged_size header) items place item new within is in let has = sum_has (unacknowledged_size header) items place item within is in let was = sums.bytes in omega arith;
      count = let e = sum_replaced unacknowledged_count items place item new within is in let has = sum_has unacknowledged_count items place item within is in let was = sums.count in omega arith;
      never = let e = sum_replaced never_acknowledged_count items place item new within is in let has = sum_has never_acknowledged_count items place item within is in let was = sums.never in omega arith;
      marked = let e = sum_replaced marked_count items place item new within is in let has = sum_has marked_count items place item within is in let was = sums.marked in omega arith;
    }

pub size_bounded : (is_interleaved : Bool) (item : Item) → item_size (header_of is_interleaved) item ≤ 65556
size_bounded true item = omega arith
size_bounded false item = omega arith

-- each sum leaves room for one more
pub sums_leave_room : (is_interleaved : Bool) (cursor : ℕ) (items : List Item) (totals : Totals) (named : NamedPlaces) (size : ℕ) → size ≤ 65556 → AreItemsKept is_interleaved cursor items totals named → HasRoomInTotals size totals
sums_leave_room is_interleaved cursor items totals named size small kept =
    let few = kept.few in
    let sums = kept.sums in
    let in_flight = sum_bounded (in_flight_size (header_of is_interleaved)) 65556 (λ (x : Item). counted_bounded (is_in_flight x.progress.state) (item_size (header_of is_interleaved) x) 65556 (size_bounded is_interleaved x)) items in
    let bytes = sum_bounded (unacknowledged_size (header_of is_interleaved)) 65556 (λ (x : Item). counted_bounded (is_unacknowledged x.progress.state) (item_size (header_of is_interleaved) x) 65556 (size_bounded is_interleaved x)) items in
    let count = sum_bounded unacknowledged_count 1 (λ (x : Item). counted_bounded (is_unacknowledged x.progress.state) 1 1 (omega arith)) items in
    let never = sum_bounded never_acknowledged_count 1 (λ (x : Item). counted_bounded (not x.progress.was_acknowledged) 1 1 (omega arith)) items in
    let marked = sum_bounded marked_count 1 (λ (x : Item). counted_bounded (is_marked x.progress.state) 1 1 (omega arith)) items in
    record { in_flight_bytes = omega arith; unacknowledged_bytes = omega arith; unacknowledged_items = omega arith; never_acknowledged_items = omega arith; marked_items = omega arith }

-- what is taken away leaves room
pub room_without : (progress : Progress) (size less : ℕ) (totals : Totals) → HasRoomInTotals size totals → HasRoomInTotals size (total_without progress less totals)
room_without progress size less totals room =
    let a = room.in_flight_bytes in
    let b = room.unacknowledged_bytes in
    let c = room.unacknowledged_items in
    let n = room.never_acknowledged_items in
    let d = room.marked_items in
    record { in_flight_bytes = omega arith; unacknowledged_bytes = omega arith; unacknowledged_items = omega arith; never_acknowledged_items = omega arith; marked_items = omega arith }

-- the change at one place, as the body makes it
pub changed_is : (change : Change) (place : ℕ) (items : List Item) (item : Item) (progress : Progress) → place < length items → item ≡ get_or items place item → progress ≡ progress_changed change item.progress → set items place (record item { progress = progress }) ≡ changed_between change place (place + 1) items
changed_is change place items item progress within is e =
    rw (add-one, e) (sym (changed_one change place items item within is))

-- what is kept of the items, with one replaced
pub kept_replaced : (is_interleaved : Bool) (cursor : ℕ) (items : List Item) (totals : Totals) (named : NamedPlaces) (place : ℕ) (item new : Item) (size : ℕ) (less more : Totals) (is_now_marked : Bool) (cursor' : ℕ) (named' : NamedPlaces) → AreItemsKept is_interleaved cursor items totals named → place < length items → item ≡ get_or items place item → size ≡ item_size (header_of is_interleaved) item → item_size (header_of is_interleaved) item ≡ item_size (header_of is_interleaved) new → less ≡ total_without item.progress size totals → more ≡ total_with new.progress size less → is_now_marked ≡ is_marked new.progress.state → cursor' ≡ cursor_after is_now_marked place cursor → AreSettled named' (set items place new) → HasBytes new → AreItemsKept is_interleaved cursor' (set items place new) more named'
kept_replaced is_interleaved cursor items totals named place item new size less more is_now_marked cursor' named' kept within is sized same is_less is_more marks moves settled some =
    record {
      few = let few = kept.few in omega (arith, length-set {A = Item});
      sums = let summed = sums_replaced (header_of is_interleaved) items totals place item new within is same kept.sums in rw (is_more, is_less, sized) (rw (← same) at summed);
      scanned = rw (moves, marks) (scanned_replaced items place cursor new kept.scanned);
      settled = settled;
      bytes = bytes_set items place new kept.bytes some;
    }

-- a change that ends where it begins, or before
pub none_changed : (change : Change) (start end : ℕ) (items : List Item) → end ≤ start → changed_between change start end items ≡ items
none_changed change zero zero items h = refl
none_changed change zero (suc end) items h = absurd (omega arith)
none_changed change (suc start) zero items h = refl
none_changed change (suc start) (suc end) [] h = refl
none_changed change (suc start) (suc end) (x ∷ xs) h = ap (λ ys. x ∷ ys) (none_changed change start end xs (omega arith))

pub length-changed_between : (change : Change) (start end : ℕ) (items : List Item) → length (changed_between change start end items) ≡ length items
length-changed_between change zero zero items = refl
length-changed_between change zero (suc end) [] = refl
length-changed_between change zero (suc end) (x ∷ xs) = ap suc (length-changed_between change zero end xs)
length-changed_between change (suc start) zero items = refl
length-changed_between change (suc start) (suc end) [] = refl
length-changed_between change (suc start) (suc end) (x ∷ xs) = ap suc (length-changed_between change start end xs)

-- a change that reaches one place further
pub changed_further : (change : Change) (start place : ℕ) (items : List Item) → start ≤ place → changed_between change place (suc place) (changed_between change start place items) ≡ changed_between change start (suc place) items
changed_further change zero zero items h = refl
changed_further change zero (suc place) [] h = refl
changed_further change zero (suc place) (x ∷ xs) h = ap (λ ys. changed_item change x ∷ ys) (changed_further change zero place xs (omega arith))
changed_further change (suc start) zero items h = absurd (omega arith)
changed_further change (suc start) (suc place) [] h = refl
changed_further change (suc start) (suc place) (x ∷ xs) h = ap (λ ys. x ∷ ys) (changed_further change start place xs (omega arith))

-- a change reaches no further than the items do
pub changed_as_far : (change : Change) (start place end : ℕ) (items : List Item) → place ≡ max start (min end (length items)) → changed_between change start place items ≡ changed_between change start end items
changed_as_far change zero zero zero items h = refl
changed_as_far change zero zero (suc end) [] h = refl
changed_as_far change zero zero (suc end) (x ∷ xs) h = absurd (omega arith)
changed_as_far change zero (suc place) zero items h = absurd (omega arith)
changed_as_far change zero (suc place) (suc end) [] h = refl
changed_as_far change zero (suc place) (suc end) (x ∷ xs) h = ap (λ ys. changed_item change x ∷ ys) (changed_as_far change zero place end xs (omega arith))
changed_as_far change (suc start) zero end items h = absurd (omega arith)
changed_as_far change (suc start) (suc place) zero items h = none_changed change (suc start) (suc place) items (omega arith)
changed_as_far change (suc start) (suc place) (suc end) [] h = refl
changed_as_far change (suc start) (suc place) (suc end) (x ∷ xs) h = ap (λ ys. x ∷ ys) (changed_as_far change start place end xs (omega arith))

-- an element of a list with one more at its end
pub slice_get_pushed : {X : Type 0} (xs : List X) (k : ℕ) (new x : X) → slice_get (xs ++ new ∷ []) k ≡ Some x → (x ≡ new) ⊎ (slice_get xs k ≡ Some x)
slice_get_pushed [] zero new x h = inl (cc)
slice_get_pushed [] (suc k) new x h = absurd (cc)
slice_get_pushed (y ∷ ys) zero new x h = inr h
slice_get_pushed (y ∷ ys) (suc k) new x h = slice_get_pushed ys k new x h

-- the same, where it lies
slice_get_pushed_at : {X : Type 0} (xs : List X) (k : ℕ) (new x : X) → slice_get (xs ++ new ∷ []) k ≡ Some x → ((k ≡ length xs) × (x ≡ new)) ⊎ (slice_get xs k ≡ Some x)
slice_get_pushed_at [] zero new x h = inl (refl, cc)
slice_get_pushed_at [] (suc k) new x h = absurd (cc)
slice_get_pushed_at (y ∷ ys) zero new x h = inr h
slice_get_pushed_at (y ∷ ys) (suc k) new x h =
    elim (slice_get_pushed_at ys k new x h) [ inl e ↦ inl (ap suc e.0, e.1) | inr e ↦ inr e ]

-- no item before the cursor is marked, also after one was added
scanned_pushed : (items : List Item) (cursor : ℕ) (new : Item) → NoneMarkedBefore cursor items → NoneMarkedBefore (cursor_after (is_marked new.progress.state) (length items) cursor) (items ++ new ∷ [])
scanned_pushed items cursor new scanned k item below is =
    go (is_marked new.progress.state) refl below (slice_get_pushed_at items k new item is)
  where
    go : (b : Bool) → is_marked new.progress.state ≡ b → k < cursor_after b (length items) cursor → ((k ≡ length items) × (item ≡ new)) ⊎ (slice_get items k ≡ Some item) → is_marked item.progress.state ≡ false
    go true e below (inl same) = absurd (omega (arith, same.0))
    go true e below (inr here) = scanned k item (omega arith) here
    go false e below (inl same) = ap (λ (x : Item). is_marked x.progress.state) same.1 ∙ e
    go false e below (inr here) = scanned k item below here

-- what is kept of the items, with one more
pub kept_added : (is_interleaved : Bool) (cursor : ℕ) (items : List Item) (totals : Totals) (named : NamedPlaces) (new : Item) (size : ℕ) (more : Totals) (is_now_marked : Bool) (cursor' : ℕ) → AreItemsKept is_interleaved cursor items totals named → length items + 1 < 2 ^ 31 → size ≡ item_size (header_of is_interleaved) new → more ≡ total_with new.progress size totals → is_now_marked ≡ is_marked new.progress.state → cursor' ≡ cursor_after is_now_marked (length items) cursor → AreSettled named (items ++ new ∷ []) → HasBytes new → AreItemsKept is_interleaved cursor' (items ++ new ∷ []) more named
kept_added is_interleaved cursor items totals named new size more is_now_marked cursor' kept room sized is_more marks moves settled some =
    record {
      few = omega (arith, length-append items (new ∷ []));
      sums = rw (is_more, sized) (record {
        in_flight = let e = sum_by_push (in_flight_size (header_of is_interleaved)) items new in let was = kept.sums.in_flight in omega arith;
        bytes = let e = sum_by_push (unacknowledged_size (header_of is_interleaved)) items new in let was = kept.sums.bytes in omega arith;
        count = let e = sum_by_push unacknowledged_count items new in let was = kept.sums.count in omega arith;
        never = let e = sum_by_push never_acknowledged_count items new in let was = kept.sums.never in omega arith;
        marked = let e = sum_by_push marked_count items new in let was = kept.sums.marked in omega arith;
      });
      scanned = rw (moves, marks) (scanned_pushed items cursor new kept.scanned);
      settled = settled;
      bytes = bytes_pushed items new kept.bytes some;
    }

-- the same, with one that isn't marked
pub kept_pushed : (is_interleaved : Bool) (cursor : ℕ) (items : List Item) (totals : Totals) (named : NamedPlaces) (new : Item) (size : ℕ) (more : Totals) → AreItemsKept is_interleaved cursor items totals named → length items + 1 < 2 ^ 31 → size ≡ item_size (header_of is_interleaved) new → more ≡ total_with new.progress size totals → is_marked new.progress.state ≡ false → AreSettled named (items ++ new ∷ []) → HasBytes new → AreItemsKept is_interleaved cursor (items ++ new ∷ []) more named
kept_pushed is_interleaved cursor items totals named new size more kept room sized is_more unmarked settled some =
    kept_added is_interleaved cursor items totals named new size more false cursor kept room sized is_more (sym unmarked) refl settled some

-- what is kept of the items, without the first
pub kept_removed : (is_interleaved : Bool) (cursor : ℕ) (item : Item) (items : List Item) (totals : Totals) (named : NamedPlaces) (size : ℕ) (less : Totals) (named' : NamedPlaces) → AreItemsKept is_interleaved cursor (item ∷ items) totals named → size ≡ item_size (header_of is_interleaved) item → less ≡ total_without item.progress size totals → AreSettled named' items → AreItemsKept is_interleaved (cursor - 1) items less named'
kept_removed is_interleaved cursor item items totals named size less named' kept sized is_less settled =
    record {
      few = let few = kept.few in omega arith;
      sums = rw (is_less, sized) (record {
        in_flight = let e = sum_by-cons (in_flight_size (header_of is_interleaved)) item items in let was = kept.sums.in_flight in omega arith;
        bytes = let e = sum_by-cons (unacknowledged_size (header_of is_interleaved)) item items in let was = kept.sums.bytes in omega arith;
        count = let e = sum_by-cons unacknowledged_count item items in let was = kept.sums.count in omega arith;
        never = let e = sum_by-cons never_acknowledged_count item items in let was = kept.sums.never in omega arith;
        marked = let e = sum_by-cons marked_count item items in let was = kept.sums.marked in omega arith;
      });
      scanned = λ k x below is. kept.scanned (suc k) x (omega arith) is;
      settled = settled;
      bytes = kept.bytes.1;
    }

pub le_or_lt : (a b : ℕ) → (a ≤ b) ⊎ (b < a)
le_or_lt a b = grind arith

-- a row of which no item is marked
pub none_marked : (items : List Item) → ((k : ℕ) (item : Item) → slice_get items k ≡ Some item → is_marked item.progress.state ≡ false) → marked_items items ≡ 0
none_marked [] each = refl
none_marked (x ∷ xs) each =
    let here = ap (λ (b : Bool). number_or_zero b 1) (each 0 x refl) in
    let later = none_marked xs (λ k item is. each (suc k) item is) in
    let all = sum_by-cons marked_count x xs in
    omega arith

-- no item is marked, neither before the cursor nor from it on
pub none_marked_around : (cursor : ℕ) (items : List Item) → NoneMarkedBefore cursor items → NoneMarkedBetween cursor (length items) items → marked_items items ≡ 0
none_marked_around cursor items before behind =
    none_marked items (λ k item is. elim (le_or_lt cursor k) [ inl h ↦ behind k item h (slice_get_within items k item is) is | inr h ↦ before k item h is ])

-- one more block
pub reported_further : (count : ℕ) (blocks : List GapAckBlock) (k : ℕ) (block d : GapAckBlock) (items : List Item) → k < length blocks → block ≡ get_or blocks k d → reported_items count (take (suc k) blocks) items ≡ changed_between Acknowledge (count + block.start - 1) (count + block.end) (reported_items count (take k blocks) items)
reported_further count [] k block d items within is = absurd (omega arith)
reported_further count (x ∷ xs) zero block d items within is =
    ap (λ (b : GapAckBlock). changed_between Acknowledge (count + b.start - 1) (count + b.end) items) (sym is)
reported_further count (x ∷ xs) (suc k) block d items within is =
    reported_further count xs k block d (changed_between Acknowledge (count + x.start - 1) (count + x.end) items) (omega arith) is

pub length-reported : (count : ℕ) (blocks : List GapAckBlock) (items : List Item) → length (reported_items count blocks items) ≡ length items
length-reported count [] items = refl
length-reported count (x ∷ xs) items =
    length-reported count xs (changed_between Acknowledge (count + x.start - 1) (count + x.end) items)
    ∙ length-changed_between Acknowledge (count + x.start - 1) (count + x.end) items

drop_one_more : {X : Type 0} (k : ℕ) (xs : List X) → drop 1 (drop k xs) ≡ drop (suc k) xs
drop_one_more zero xs = refl
drop_one_more (suc k) [] = refl
drop_one_more (suc k) (x ∷ xs) = drop_one_more k xs

pub drop_further : {X : Type 0} (k : ℕ) (xs : List X) → drop 1 (drop k xs) ≡ drop (k + 1) xs
drop_further k xs = rw add-one (drop_one_more k xs)

abbrev pub same_model : ℕ → Bool → List Item → OutstandingState
same_model first is_interleaved items = record { first_tsn = first; is_interleaved = is_interleaved; items = items }

pub same_outstanding : (a b : ℕ) (is_interleaved : Bool) (xs ys : List Item) → a ≡ b → xs ≡ ys → same_model a is_interleaved xs ≡ same_model b is_interleaved ys
same_outstanding a b is_interleaved xs ys e f = rw (e, f) refl
