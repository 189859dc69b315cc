-- Each item has bytes or is abandoned, whatever becomes of it.
use Rattle.std.proofs.Common.{◌≡◌, ◌==◌, ◌<◌, ◌&&◌, ◌||◌, inl, inr, ℕ, zero, suc, not, Bool, true, false, Some, List, [], ◌∷◌, ◌++◌, length, map, get_or, subst, refl, sym, ap, ◌∙◌, arith}
use Rattle.std.proofs.Math.ListN.{set}
use Rattle.std.specs.List.{list_all, slice_get, AllByRecursion}
use Rattle.dcsctp_api.specs.types.declared.progress.Change.{Change}
use Rattle.dcsctp_api.specs.types.declared.progress.Change.TheVariants.{SendAgain, Miss, Mark, Acknowledge, Abandon}
use Rattle.dcsctp_api.specs.types.declared.progress.ItemState.{ItemState}
use Rattle.dcsctp_api.specs.types.declared.progress.ItemState.TheVariants.{InFlight, Marked, Acknowledged, Abandoned}
use Rattle.dcsctp_api.specs.types.declared.progress.Progress.{Progress}
use Rattle.dcsctp_api.specs.types.declared.snapshot.HandoverOutstandingData.{HandoverOutstandingData}
use Rattle.dcsctp_api.specs.types.Snapshot.{has_bytes_or_is_abandoned}
use Rattle.dcsctp_api.specs.types.SnapshotItems.{OutstandingPart, outstanding_part}
use Rattle.dcsctp_api.specs.spec.Soundness.{HasBytes}
use Rattle.dcsctp_api.specs.spec.queues.Items.{Item}
use Rattle.dcsctp_api.specs.spec.queues.OutstandingParts.{item_again, state_again}
use Rattle.dcsctp_api.specs.types.queues.Progress.{is_marked, missed_progress, missed_if_told, marked_lost, acknowledged_progress, tells_whether_missing, progress_changed}
use Rattle.dcsctp_send_retransmission.specs.Outstanding.{KeepsAbandoned, MayChange}

-- ---- items come

pub bytes_set : (items : List Item) (p : ℕ) (item : Item) → AllByRecursion HasBytes items → HasBytes item → AllByRecursion HasBytes (set items p item)
bytes_set [] p item all one = tt
bytes_set (x ∷ xs) zero item all one = (one, all.1)
bytes_set (x ∷ xs) (suc p) item all one = (all.0, bytes_set xs p item all.1 one)

pub bytes_pushed : (items : List Item) (item : Item) → AllByRecursion HasBytes items → HasBytes item → AllByRecursion HasBytes (items ++ item ∷ [])
bytes_pushed [] item all one = (one, tt)
bytes_pushed (x ∷ xs) item all one = (all.0, bytes_pushed xs item all.1 one)

pub bytes_at : (items : List Item) (p : ℕ) (item : Item) → AllByRecursion HasBytes items → p < length items → item ≡ get_or items p item → HasBytes item
bytes_at [] p item all lt is = absurd (omega arith)
bytes_at (x ∷ xs) zero item all lt is = subst HasBytes (sym is) all.0
bytes_at (x ∷ xs) (suc p) item all lt is = bytes_at xs p item all.1 (omega arith) is

-- ---- items change

pub may_change : (change : Change) (p : ℕ) (items : List Item) → KeepsAbandoned change → MayChange change p items
may_change (SendAgain next) p items keeps = absurd keeps
may_change (Miss newest) p items keeps = tt
may_change Mark p items keeps = tt
may_change Acknowledge p items keeps = tt
may_change Abandon p items keeps = tt

-- What waits to be sent again isn't abandoned.
not_both : (items : List Item) (p : ℕ) (item marked_lost : Item) → slice_get items p ≡ Some marked_lost → is_marked marked_lost.progress.state ≡ true → p < length items → item ≡ get_or items p item
    → item.progress.state ≡ Abandoned → ⊥
not_both [] p item marked_lost at is lt same abandoned = absurd (omega arith)
not_both (x ∷ xs) zero item marked_lost at is lt same abandoned =
    let here : x ≡ marked_lost = cc in
    let state : Abandoned ≡ marked_lost.progress.state = sym abandoned ∙ ap (λ (i : Item). i.progress.state) (same ∙ here) in
    let no : false ≡ true = ap is_marked state ∙ is in
    cc
not_both (x ∷ xs) (suc p) item marked_lost at is lt same abandoned = not_both xs p item marked_lost at is (omega arith) same abandoned

missed_stays : (progress : Progress) (state : ItemState) → state ≡ Abandoned → progress.state ≡ Abandoned → (missed_progress state progress).state ≡ Abandoned
missed_stays progress InFlight is was = cc
missed_stays progress Marked is was = cc
missed_stays progress Acknowledged is was = cc
missed_stays progress Abandoned is was = was

missed_where_stays : (tells : Bool) (progress : Progress) → progress.state ≡ Abandoned → (missed_if_told tells progress).state ≡ Abandoned
missed_where_stays true progress is = missed_stays progress progress.state is is
missed_where_stays false progress is = is

marked_stays : (progress : Progress) (state : ItemState) → state ≡ Abandoned → progress.state ≡ Abandoned → (marked_lost state progress).state ≡ Abandoned
marked_stays progress InFlight is was = cc
marked_stays progress Marked is was = cc
marked_stays progress Acknowledged is was = cc
marked_stays progress Abandoned is was = was

acknowledged_stays : (progress : Progress) (state : ItemState) → state ≡ Abandoned → progress.state ≡ Abandoned → (acknowledged_progress state progress).state ≡ Abandoned
acknowledged_stays progress InFlight is was = cc
acknowledged_stays progress Marked is was = cc
acknowledged_stays progress Acknowledged is was = cc
acknowledged_stays progress Abandoned is was = was

abandoned_stays : (change : Change) (items : List Item) (p : ℕ) (item : Item) → p < length items → item ≡ get_or items p item → MayChange change p items → item.progress.state ≡ Abandoned
    → (progress_changed change item.progress).state ≡ Abandoned
abandoned_stays (SendAgain next) items p item lt is may abandoned = absurd (not_both items p item may.item may.at may.is lt is abandoned)
abandoned_stays (Miss newest) items p item lt is may abandoned = missed_where_stays (tells_whether_missing item.progress.sent_before newest) item.progress abandoned
abandoned_stays Mark items p item lt is may abandoned = marked_stays item.progress item.progress.state abandoned abandoned
abandoned_stays Acknowledge items p item lt is may abandoned = acknowledged_stays item.progress item.progress.state abandoned abandoned
abandoned_stays Abandon items p item lt is may abandoned = refl

-- the item at a place, changed
pub bytes_changed : (change : Change) (items : List Item) (p : ℕ) (item : Item) (progress : Progress) → AllByRecursion HasBytes items → p < length items → item ≡ get_or items p item
    → MayChange change p items → progress ≡ progress_changed change item.progress → HasBytes (record item { progress = progress })
bytes_changed change items p item progress all lt is may after =
    elim (bytes_at items p item all lt is) as (λ z. HasBytes (record item { progress = progress })) [
      | inl some ↦ inl some
      | inr abandoned ↦ inr (ap (λ (q : Progress). q.state) after ∙ abandoned_stays change items p item lt is may abandoned)
    ]

-- ---- items of a snapshot

some_from : (n : ℕ) → not (n == 0) ≡ true → 0 < n
some_from zero test = cc
some_from (suc n) test = omega arith

again_abandoned : (b acked lost : Bool) → b ≡ true → state_again b acked lost ≡ Abandoned
again_abandoned true acked lost is = refl
again_abandoned false acked lost is = cc

pub part_has_bytes : (now : ℕ) (was_reset : Bool) (part : OutstandingPart) → has_bytes_or_is_abandoned part ≡ true → HasBytes (item_again now was_reset part)
part_has_bytes now was_reset part holds = go part.is_abandoned refl holds
  where
    go : (b : Bool) → part.is_abandoned ≡ b → (b || not (length part.payload == 0)) ≡ true → HasBytes (item_again now was_reset part)
    go true e h = inr (again_abandoned part.is_abandoned part.acked (part.is_to_be_retransmitted || part.is_nacked) e)
    go false e h = inl (some_from (length part.payload) h)

first_of : (a b : Bool) → (a && b) ≡ true → a ≡ true
first_of true b h = refl
first_of false b h = cc

rest_of : (a b : Bool) → (a && b) ≡ true → b ≡ true
rest_of true b h = h
rest_of false b h = cc

pub holds_at : (parts : List HandoverOutstandingData) (k : ℕ) (part : HandoverOutstandingData) → list_all has_bytes_or_is_abandoned (map outstanding_part parts) ≡ true → k < length parts
    → part ≡ get_or parts k part → has_bytes_or_is_abandoned (outstanding_part part) ≡ true
holds_at [] k part all lt is = absurd (omega arith)
holds_at (x ∷ xs) zero part all lt is =
    ap (λ (p : HandoverOutstandingData). has_bytes_or_is_abandoned (outstanding_part p)) is
    ∙ first_of (has_bytes_or_is_abandoned (outstanding_part x)) (list_all has_bytes_or_is_abandoned (map outstanding_part xs)) all
holds_at (x ∷ xs) (suc k) part all lt is =
    holds_at xs k part (rest_of (has_bytes_or_is_abandoned (outstanding_part x)) (list_all has_bytes_or_is_abandoned (map outstanding_part xs)) all) (omega arith) is
