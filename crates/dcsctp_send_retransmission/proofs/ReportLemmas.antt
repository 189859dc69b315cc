-- Lemmas on which items a SACK reports.
use Rattle.std.proofs.Common.{min, unwrap_or, ◌≡◌, ◌⊎◌, inl, inr, ℕ, zero, suc, ◌+◌, ◌-◌, ◌<◌, ◌≤◌, true, max, Bool, Option, None, Some, List, [], ◌∷◌, length, take, get_or, refl, ap, arith}
use Rattle.std.specs.List.{slice_get}
use Rattle.std.proofs.lemmas.Option.{slice_get_within}
use Rattle.dcsctp_api.specs.spec.queues.Reports.{ShowsMissing, MissesUntil, IsPlaceWithin, NamesItem, IsNewlyAcknowledged, IsLastItem, IsLastPlace}
use Rattle.dcsctp_api.specs.wire.declared.chunk.sack.GapAckBlock.{GapAckBlock}
use Rattle.dcsctp_api.specs.spec.queues.Items.{Item}
use Rattle.dcsctp_api.specs.types.queues.Progress.{is_unacknowledged}
use Rattle.dcsctp_send_retransmission.specs.Outstanding.{later_of}
use Rattle.dcsctp_send_retransmission.proofs.ItemsLemmas.{le_or_lt}

-- one more block names what those before name, and its own places
pub names_more : (count : ℕ) (blocks : List GapAckBlock) (k : ℕ) (block d : GapAckBlock) (place : ℕ) → k < length blocks → block ≡ get_or blocks k d → NamesItem count (take k blocks) place ⊎ IsPlaceWithin (count + block.start - 1) (count + block.end) place → NamesItem count (take (suc k) blocks) place
names_more count [] k block d place within is h = absurd (omega arith)
names_more count (x ∷ xs) zero block d place within is (inl h) = absurd h
names_more count (x ∷ xs) zero block d place within is (inr h) =
    let starts = ap (λ (b : GapAckBlock). b.start) is in
    let ends = ap (λ (b : GapAckBlock). b.end) is in
    let from = h.0 in
    let to = h.1 in
    inl (omega arith, omega arith)
names_more count (x ∷ xs) (suc k) block d place within is (inl (inl h)) = inl h
names_more count (x ∷ xs) (suc k) block d place within is (inl (inr h)) = inr (names_more count xs k block d place (omega arith) is (inl h))
names_more count (x ∷ xs) (suc k) block d place within is (inr h) = inr (names_more count xs k block d place (omega arith) is (inr h))

-- and nothing else
pub names_no_more : (count : ℕ) (blocks : List GapAckBlock) (k : ℕ) (block d : GapAckBlock) (place : ℕ) → k < length blocks → block ≡ get_or blocks k d → NamesItem count (take (suc k) blocks) place → NamesItem count (take k blocks) place ⊎ IsPlaceWithin (count + block.start - 1) (count + block.end) place
names_no_more count [] k block d place within is h = absurd (omega arith)
names_no_more count (x ∷ xs) zero block d place within is (inl h) =
    let starts = ap (λ (b : GapAckBlock). b.start) is in
    let ends = ap (λ (b : GapAckBlock). b.end) is in
    let from = h.0 in
    let to = h.1 in
    inr (omega arith, omega arith)
names_no_more count (x ∷ xs) zero block d place within is (inr h) = absurd h
names_no_more count (x ∷ xs) (suc k) block d place within is (inl h) = inl (inl h)
names_no_more count (x ∷ xs) (suc k) block d place within is (inr h) =
    elim (names_no_more count xs k block d place (omega arith) is h) [ inl h ↦ inl (inr h) | inr h ↦ inr h ]

-- the last of the items of which another fact holds, which is the same
pub last_same : (P Q : ℕ → Item → Type 0) (items : List Item) (found : Option ℕ) → ((k : ℕ) (x : Item) → P k x → Q k x) → ((k : ℕ) (x : Item) → Q k x → P k x) → IsLastPlace P items found → IsLastPlace Q items found
last_same P Q items None to from none = λ k x at holds. none k x at (from k x holds)
last_same P Q items (Some place) to from found =
    record { item = found.item; at = found.at; holds = to place found.item found.holds; last = λ k x behind at holds. found.last k x behind at (from k x holds) }

-- the last of which one of two facts holds
pub last_either : (P Q : ℕ → Item → Type 0) (items : List Item) (a b : Option ℕ) → IsLastPlace P items a → IsLastPlace Q items b → IsLastPlace (λ k x. P k x ⊎ Q k x) items (later_of a b)
last_either P Q items None None p q = λ k x at holds. elim holds [ inl h ↦ p k x at h | inr h ↦ q k x at h ]
last_either P Q items None (Some b) p q =
    record {
      item = q.item;
      at = q.at;
      holds = inr q.holds;
      last = λ k x behind at holds. elim holds [ inl h ↦ p k x at h | inr h ↦ q.last k x behind at h ];
    }
last_either P Q items (Some a) None p q =
    record {
      item = p.item;
      at = p.at;
      holds = inl p.holds;
      last = λ k x behind at holds. elim holds [ inl h ↦ p.last k x behind at h | inr h ↦ q k x at h ];
    }
last_either P Q items (Some a) (Some b) p q = go (le_or_lt a b)
  where
    go : (a ≤ b) ⊎ (b < a) → IsLastItem (λ k x. P k x ⊎ Q k x) items (max a b)
    go (inl below) =
        let is : max a b ≡ b = omega arith in
        rw is (record {
          item = q.item;
          at = q.at;
          holds = inr q.holds;
          last = λ k x behind at holds. elim holds [ inl h ↦ p.last k x (omega arith) at h | inr h ↦ q.last k x behind at h ];
        })
    go (inr above) =
        let is : max a b ≡ a = omega arith in
        rw is (record {
          item = p.item;
          at = p.at;
          holds = inl p.holds;
          last = λ k x behind at holds. elim holds [ inl h ↦ p.last k x behind at h | inr h ↦ q.last k x (omega arith) at h ];
        })

-- the newest item that is newly acknowledged, by one more block
pub newest_more : (count : ℕ) (blocks : List GapAckBlock) (k : ℕ) (block d : GapAckBlock) (items : List Item) (a b : Option ℕ) → k < length blocks → block ≡ get_or blocks k d → IsLastPlace (IsNewlyAcknowledged count (take k blocks)) items a → IsLastPlace (λ place item. IsPlaceWithin (count + block.start - 1) (count + block.end) place × (is_unacknowledged item.progress.state ≡ true)) items b → IsLastPlace (IsNewlyAcknowledged count (take (suc k) blocks)) items (later_of a b)
newest_more count blocks k block d items a b within is before here =
    let P : ℕ → Item → Type 0 = λ p x. IsNewlyAcknowledged count (take k blocks) p x in
    let Q : ℕ → Item → Type 0 = λ p x. IsPlaceWithin (count + block.start - 1) (count + block.end) p × (is_unacknowledged x.progress.state ≡ true) in
    last_same (λ p x. P p x ⊎ Q p x) (λ p x. IsNewlyAcknowledged count (take (suc k) blocks) p x) items (later_of a b)
    (λ p x holds. elim holds [
      | inl h ↦ (elim (h.0) [ inl first ↦ inl first | inr named ↦ inr (names_more count blocks k block d p within is (inl named)) ], h.1)
      | inr h ↦ (inr (names_more count blocks k block d p within is (inr h.0)), h.1)
    ])
    (λ p x h. elim (h.0) [
      | inl first ↦ inl (inl first, h.1)
      | inr named ↦ elim (names_no_more count blocks k block d p within is named) [ inl old ↦ inl (inr old, h.1) | inr new ↦ inr (new, h.1) ]
    ])
    (last_either P Q items a b before here)

-- the last item that is named, by one more block
pub named_more : (count : ℕ) (blocks : List GapAckBlock) (k : ℕ) (block d : GapAckBlock) (items : List Item) (a b : Option ℕ) → k < length blocks → block ≡ get_or blocks k d → IsLastPlace (λ place item. NamesItem count (take k blocks) place) items a → IsLastPlace (λ place item. IsPlaceWithin (count + block.start - 1) (count + block.end) place) items b → IsLastPlace (λ place item. NamesItem count (take (suc k) blocks) place) items (later_of a b)
named_more count blocks k block d items a b within is before here =
    let P : ℕ → Item → Type 0 = λ p x. NamesItem count (take k blocks) p in
    let Q : ℕ → Item → Type 0 = λ p x. IsPlaceWithin (count + block.start - 1) (count + block.end) p in
    last_same (λ p x. P p x ⊎ Q p x) (λ p x. NamesItem count (take (suc k) blocks) p) items (later_of a b)
    (λ p x holds. names_more count blocks k block d p within is holds)
    (λ p x named. names_no_more count blocks k block d p within is named)
    (last_either P Q items a b before here)

-- there is an item at each place
pub has_item : (items : List Item) (k : ℕ) → k < length items → (item : Item) × (slice_get items k ≡ Some item)
has_item [] k within = absurd (omega arith)
has_item (x ∷ xs) zero within = (x, refl)
has_item (x ∷ xs) (suc k) within = has_item xs k (omega arith)

-- the last item of a row of places
pub last_of_row : (items : List Item) (start end limit : ℕ) → limit ≡ min end (length items) → start < limit → IsLastItem (λ place item. IsPlaceWithin start end place) items (limit - 1)
last_of_row items start end limit is some =
    let has = has_item items (limit - 1) (omega arith) in
    record {
      item = has.0;
      at = has.1;
      holds = (omega arith, omega arith);
      last = λ k x behind at within.
          let inside = slice_get_within items k x at in
          let to = within.1 in
          absurd (omega arith);
    }

pub none_of_row : (items : List Item) (start end limit : ℕ) → limit ≡ min end (length items) → limit ≤ start → IsLastPlace (λ place item. IsPlaceWithin start end place) items None
none_of_row items start end limit is none k x at within =
    let inside = slice_get_within items k x at in
    let from = within.0 in
    let to = within.1 in
    absurd (omega arith)

-- the last item that shows others missing bounds these
pub misses_until : (recovering : Bool) (count : ℕ) (blocks : List GapAckBlock) (items : List Item) (found : Option ℕ) → IsLastPlace (λ place item. ShowsMissing recovering count blocks place item) items found → MissesUntil recovering count blocks items (unwrap_or found 0)
misses_until recovering count blocks items None none place = (λ below. absurd (omega arith), λ missing. absurd (none missing.shown_by missing.item missing.at missing.shows))
misses_until recovering count blocks items (Some last) found place = (
  λ below. record { shown_by = last; item = found.item; behind = below; at = found.at; shows = found.holds },
  λ missing. elim (le_or_lt missing.shown_by last) [
    | inl up_to ↦ let behind = missing.behind in omega arith
    | inr beyond ↦ absurd (found.last missing.shown_by missing.item beyond missing.at missing.shows)
  ],
)

-- the newest of the items that the cumulative TSN passes
pub newest_first : (count : ℕ) (blocks : List GapAckBlock) (items : List Item) (found : Option ℕ) → IsLastPlace (λ place item. IsPlaceWithin 0 count place × (is_unacknowledged item.progress.state ≡ true)) items found → IsLastPlace (IsNewlyAcknowledged count (take 0 blocks)) items found
newest_first count blocks items found last =
    last_same (λ place item. IsPlaceWithin 0 count place × (is_unacknowledged item.progress.state ≡ true)) (λ place item. IsNewlyAcknowledged count (take 0 blocks) place item) items found
    (λ k x holds. (inl holds.0.1, holds.1))
    (λ k x holds. elim (holds.0) [ inl first ↦ ((omega arith, first), holds.1) | inr named ↦ absurd named ])
    last

-- an item that is awaited, after which none is
pub last_awaited : (items : List Item) (start end place : ℕ) (item : Item) → start < place → place ≤ end → slice_get items (place - 1) ≡ Some item → is_unacknowledged item.progress.state ≡ true → ((k : ℕ) (x : Item) → place ≤ k → k < end → slice_get items k ≡ Some x → is_unacknowledged x.progress.state ≡ true → ⊥) → IsLastItem (λ k x. IsPlaceWithin start end k × (is_unacknowledged x.progress.state ≡ true)) items (place - 1)
last_awaited items start end place item from to at awaited none_behind =
    record {
      item = item;
      at = at;
      holds = ((omega arith, omega arith), awaited);
      last = λ k x behind at holds. let within = holds.0.1 in none_behind k x (omega arith) within at holds.1;
    }
