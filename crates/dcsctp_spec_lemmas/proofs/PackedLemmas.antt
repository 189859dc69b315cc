-- A packet whose TSNs are those of items: their chunks take up what its room has lost.
use Rattle.std.proofs.Common.{◌≡◌, ◌∙◌, ℕ, zero, suc, ◌+◌, ◌-◌, ◌≤◌, Some, List, [], ◌∷◌, ◌++◌, length, refl, sym, ap, arith}
use Rattle.std.specs.Prelude.{slice_get}
use Rattle.dcsctp_spec.specs.types.declared.progress.Change.{Change}
use Rattle.dcsctp_spec.specs.queues.Filling.{Stage}
use Rattle.dcsctp_spec.specs.queues.Items.{Item, chunk_size, item_size, changed_item, changed_between}
use Rattle.dcsctp_spec.specs.queues.Outstanding.{OutstandingState, header, tsn_at}
use Rattle.dcsctp_spec.specs.queues.Sending.{Fragment}

-- ---- items stay

-- the item at this place carries the fragment
pub record HasFragment (place : ℕ) (part : Fragment) (items : List Item) : Type 0 where
  pub item : Item
  pub at : slice_get items place ≡ Some item
  pub is : item.fragment ≡ part

abbrev pub KeepsFragments : List Item → List Item → Type 0
KeepsFragments old new = (k : ℕ) (item : Item) → slice_get old k ≡ Some item → HasFragment k item.fragment new

fragments_stay : (items : List Item) → KeepsFragments items items
fragments_stay items k item at = record { item = item; at = at; is = refl }

fragments_then : (a b c : List Item) → KeepsFragments a b → KeepsFragments b c → KeepsFragments a c
fragments_then a b c first later k item at =
    let middle = first k item at in
    let last = later k middle.item middle.at in
    record { item = last.item; at = last.at; is = last.is ∙ middle.is }

pub fragments_changed : (change : Change) (start end : ℕ) (items : List Item) → KeepsFragments items (changed_between change start end items)
fragments_changed change zero zero items k item at = record { item = item; at = at; is = refl }
fragments_changed change zero (suc end) [] k item at = record { item = item; at = at; is = refl }
fragments_changed change zero (suc end) (x ∷ xs) zero item at =
    let e : x ≡ item = cc in
    record { item = changed_item change x; at = refl; is = ap (λ (y : Item). y.fragment) e }
fragments_changed change zero (suc end) (x ∷ xs) (suc k) item at =
    let h = fragments_changed change zero end xs k item at in record { item = h.item; at = h.at; is = h.is }
fragments_changed change (suc start) zero items k item at = record { item = item; at = at; is = refl }
fragments_changed change (suc start) (suc end) [] k item at = record { item = item; at = at; is = refl }
fragments_changed change (suc start) (suc end) (x ∷ xs) zero item at = record { item = item; at = at; is = refl }
fragments_changed change (suc start) (suc end) (x ∷ xs) (suc k) item at =
    let h = fragments_changed change start end xs k item at in record { item = h.item; at = h.at; is = h.is }

pub fragments_pushed : (items : List Item) (new : Item) → KeepsFragments items (items ++ new ∷ [])
fragments_pushed [] new k item at = absurd (cc)
fragments_pushed (x ∷ xs) new zero item at = record { item = item; at = at; is = refl }
fragments_pushed (x ∷ xs) new (suc k) item at =
    let h = fragments_pushed xs new k item at in record { item = h.item; at = h.at; is = h.is }

pub last_pushed : (items : List Item) (new : Item) → slice_get (items ++ new ∷ []) (length items) ≡ Some new
last_pushed [] new = refl
last_pushed (x ∷ xs) new = last_pushed xs new

-- no item is lost, and no TSN moves
pub record Grows (old new : OutstandingState) : Type 0 where
  pub first_tsn : new.first_tsn ≡ old.first_tsn
  pub is_interleaved : new.is_interleaved ≡ old.is_interleaved
  pub fragments : KeepsFragments old.items new.items

pub grows_same : (old new : OutstandingState) → new ≡ old → Grows old new
grows_same old new same = rw same (record { first_tsn = refl; is_interleaved = refl; fragments = fragments_stay old.items })

pub grows_then : (a b c : OutstandingState) → Grows a b → Grows b c → Grows a c
grows_then a b c first later =
    record {
      first_tsn = later.first_tsn ∙ first.first_tsn;
      is_interleaved = later.is_interleaved ∙ first.is_interleaved;
      fragments = fragments_then a.items b.items c.items first.fragments later.fragments;
    }

pub grows_to : (old : OutstandingState) (items : List Item) → KeepsFragments old.items items → Grows old (record old { items = items })
grows_to old items fragments = record { first_tsn = refl; is_interleaved = refl; fragments = fragments }

-- ---- what a packet holds

-- The TSN is that of an item, whose chunk is that long.
pub record IsTsnOf (outstanding : OutstandingState) (tsn size : ℕ) : Type 0 where
  pub place : ℕ
  pub item : Item
  pub at : slice_get outstanding.items place ≡ Some item
  pub is : tsn ≡ tsn_at outstanding place
  pub size_is : size ≡ item_size (header outstanding) item

-- the same of the first of some TSNs, with what the others take up
pub record FirstOf (outstanding : OutstandingState) (tsn used rest : ℕ) : Type 0 where
  pub size : ℕ
  pub of : IsTsnOf outstanding tsn size
  pub sum : used ≡ size + rest

-- Each TSN is that of an item, and their chunks take up that much.
abbrev pub AreTsnsOf : OutstandingState → List ℕ → ℕ → Type 0
AreTsnsOf outstanding [] used = used ≡ 0
AreTsnsOf outstanding (tsn ∷ tsns) used = (rest : ℕ) × FirstOf outstanding tsn used rest × AreTsnsOf outstanding tsns rest

-- The packet had that much room, and its chunks are those of items.
pub record IsPacked (room : ℕ) (stage : Stage) : Type 0 where
  pub used : ℕ
  pub tsns : AreTsnsOf stage.queue.outstanding stage.tsns used
  pub sum : used + stage.room ≡ room

pub tsn_stays : (old new : OutstandingState) (tsn size : ℕ) → Grows old new → IsTsnOf old tsn size → IsTsnOf new tsn size
tsn_stays old new tsn size grows of =
    let here = grows.fragments of.place of.item of.at in
    record {
      place = of.place;
      item = here.item;
      at = here.at;
      is = rw grows.first_tsn of.is;
      size_is = rw grows.is_interleaved (of.size_is ∙ ap (λ (f : Fragment). chunk_size (header old) (length f.payload)) (sym here.is));
    }

tsns_stay : (old new : OutstandingState) (tsns : List ℕ) (used : ℕ) → Grows old new → AreTsnsOf old tsns used → AreTsnsOf new tsns used
tsns_stay old new [] used grows are = are
tsns_stay old new (tsn ∷ tsns) used grows (rest, first, others) =
    (rest, record { size = first.size; of = tsn_stays old new tsn first.size grows first.of; sum = first.sum }, tsns_stay old new tsns rest grows others)

-- one more at the end
one_more_tsn : (outstanding : OutstandingState) (tsns : List ℕ) (used tsn size : ℕ) → AreTsnsOf outstanding tsns used → IsTsnOf outstanding tsn size
    → AreTsnsOf outstanding (tsns ++ tsn ∷ []) (used + size)
one_more_tsn outstanding [] used tsn size are of = (0, record { size = size; of = of; sum = omega (arith, are) }, refl)
one_more_tsn outstanding (first ∷ tsns) used tsn size (rest, head, others) of =
    (rest + size, record { size = head.size; of = head.of; sum = let s = head.sum in omega (arith, s) }, one_more_tsn outstanding tsns rest tsn size others of)

pub packed_grows : (room : ℕ) (old new : Stage) → Grows old.queue.outstanding new.queue.outstanding → new.tsns ≡ old.tsns → new.room ≡ old.room → IsPacked room old → IsPacked room new
packed_grows room old new grows tsns left packed =
    record {
      used = packed.used;
      tsns = rw tsns (tsns_stay old.queue.outstanding new.queue.outstanding old.tsns packed.used grows packed.tsns);
      sum = rw left packed.sum;
    }

pub packed_more : (room tsn size : ℕ) (old new : Stage) → Grows old.queue.outstanding new.queue.outstanding → IsTsnOf new.queue.outstanding tsn size → size ≤ old.room
    → new.tsns ≡ old.tsns ++ tsn ∷ [] → new.room ≡ old.room - size → IsPacked room old → IsPacked room new
packed_more room tsn size old new grows of fits tsns left packed =
    record {
      used = packed.used + size;
      tsns = rw tsns (one_more_tsn new.queue.outstanding old.tsns packed.used tsn size (tsns_stay old.queue.outstanding new.queue.outstanding old.tsns packed.used grows packed.tsns) of);
      sum = let s = packed.sum in omega (arith, s, fits, left);
    }
