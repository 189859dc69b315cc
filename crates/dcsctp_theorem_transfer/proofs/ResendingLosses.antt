-- Once T3 has expired all that was in flight waits to be sent again, and the lowest of it goes first.
use Rattle.std.proofs.Common.{◌≡◌, ◌≤◌, ◌<◌, ◌-◌, ◌==◌, ℕ, zero, suc, nat_lt, Bool, true, false, ◌&&◌, ◌||◌, Option, None, Some, List, [], ◌∷◌, length, refl, sym, ap, ◌∙◌, subst, slice_get, arith}
use Rattle.std.proofs.lemmas.List.Sums.{sum_by-cons}
use Rattle.std.specs.List.{AllByRecursion}
use Rattle.dcsctp_spec_lemmas.specs.types.Settings.{packet_size_limit}
use Rattle.dcsctp_spec_lemmas.specs.types.declared.progress.Change.TheVariants.{Mark}
use Rattle.dcsctp_spec_lemmas.specs.types.declared.progress.ItemState.{ItemState}
use Rattle.dcsctp_spec_lemmas.specs.types.declared.progress.ItemState.TheVariants.{InFlight, Marked, Acknowledged, Abandoned}
use Rattle.dcsctp_spec_lemmas.specs.types.declared.progress.Progress.{Progress}
use Rattle.dcsctp_spec_lemmas.specs.types.queues.Progress.{is_in_flight, is_marked, is_unacknowledged, is_abandoned, marked_lost}
use Rattle.dcsctp_spec_lemmas.specs.spec.association.Acts.{flushes}
use Rattle.dcsctp_spec_lemmas.specs.spec.endpoint.DataOutcomes.{with_transfer, LossTurn}
use Rattle.dcsctp_spec_lemmas.specs.spec.endpoint.Endpoint.{Endpoint}
use Rattle.dcsctp_spec_lemmas.specs.spec.endpoint.HeartbeatOutcomes.{error_counted}
use Rattle.dcsctp_spec_lemmas.specs.spec.endpoint.Outcome.{Outcome}
use Rattle.dcsctp_spec_lemmas.specs.spec.endpoint.TransferMoves.{lost_all}
use Rattle.dcsctp_spec_lemmas.specs.spec.endpoint.Turn.{ActTurn}
use Rattle.dcsctp_spec_lemmas.specs.spec.queues.Items.{Item, item_size, number_or_zero, in_flight_size, bytes_in_flight, changed_item, changed_between}
use Rattle.dcsctp_spec_lemmas.specs.spec.queues.NextItem.{IsNextMarked}
use Rattle.dcsctp_spec_lemmas.specs.spec.queues.Outstanding.{header}
use Rattle.dcsctp_spec_lemmas.specs.spec.queues.Retransmission.{RetransmissionState, can_send, after_expiry, chunk_bytes_in_flight}
use Rattle.dcsctp_spec_lemmas.specs.spec.queues.Transfer.{Transfer}
use Rattle.dcsctp_theorem_transfer.specs.Resending.{IsLasting, SaysDataAlone, IsLowest, LostDataIsSentAgain}
use Rattle.dcsctp_theorem_transfer.proofs.ResendingFlush.{Asks, flush_sends}

-- ---- one item

lost_state : (state : ItemState) (progress : Progress) → progress.state ≡ state → is_in_flight (marked_lost state progress).state ≡ false
lost_state InFlight progress is = refl
lost_state Marked progress is = ap is_in_flight is
lost_state Acknowledged progress is = ap is_in_flight is
lost_state Abandoned progress is = ap is_in_flight is

lost_marked : (state : ItemState) (progress : Progress) → progress.state ≡ state → is_marked (marked_lost state progress).state ≡ is_unacknowledged state
lost_marked InFlight progress is = refl
lost_marked Marked progress is = ap is_marked is
lost_marked Acknowledged progress is = ap is_marked is
lost_marked Abandoned progress is = ap is_marked is

lost_abandoned : (state : ItemState) (progress : Progress) → progress.state ≡ state → is_abandoned (marked_lost state progress).state ≡ is_abandoned state
lost_abandoned InFlight progress is = refl
lost_abandoned Marked progress is = ap is_abandoned is
lost_abandoned Acknowledged progress is = ap is_abandoned is
lost_abandoned Abandoned progress is = ap is_abandoned is

lost_lasts : (item : Item) → IsLasting item → IsLasting (changed_item Mark item)
lost_lasts item lasting =
    record { unlimited = lasting.unlimited; lifelong = lasting.lifelong; stays = lost_abandoned item.progress.state item.progress refl ∙ lasting.stays }

-- ---- all of them

abbrev lost_items : List Item → List Item
lost_items items = changed_between Mark 0 (length items) items

lost_at : (items : List Item) (place : ℕ) (item : Item) → slice_get items place ≡ Some item → slice_get (lost_items items) place ≡ Some (changed_item Mark item)
lost_at [] place item at = absurd (cc)
lost_at (x ∷ items) zero item at = ap (λ (y : Item). Some (changed_item Mark y)) (let same : x ≡ item = cc in same)
lost_at (x ∷ items) (suc place) item at = lost_at items place item at

-- each comes from one
record ComesFrom (items : List Item) (place : ℕ) (lost : Item) : Type 0 where
  item : Item
  at : slice_get items place ≡ Some item
  is : lost ≡ changed_item Mark item

comes_from : (items : List Item) (place : ℕ) (lost : Item) → slice_get (lost_items items) place ≡ Some lost → ComesFrom items place lost
comes_from [] place lost at = absurd (cc)
comes_from (x ∷ items) zero lost at = record { item = x; at = refl; is = let same : changed_item Mark x ≡ lost = cc in sym same }
comes_from (x ∷ items) (suc place) lost at =
    let rest : ComesFrom items place lost = comes_from items place lost at in record { item = rest.item; at = rest.at; is = rest.is }

lost_length : (items : List Item) → length (lost_items items) ≡ length items
lost_length [] = refl
lost_length (x ∷ items) = ap suc (lost_length items)

pub all_lost_last : (items : List Item) → AllByRecursion IsLasting items → AllByRecursion IsLasting (lost_items items)
all_lost_last [] all = tt
all_lost_last (x ∷ items) all = (lost_lasts x all.0, all_lost_last items all.1)

none_flies : (head : ℕ) (items : List Item) → bytes_in_flight head (lost_items items) ≡ 0
none_flies head [] = refl
none_flies head (x ∷ items) =
    let here : in_flight_size head (changed_item Mark x) ≡ 0 = ap (λ (b : Bool). number_or_zero b (item_size head x)) (lost_state x.progress.state x.progress refl) in
    let rest : bytes_in_flight head (lost_items items) ≡ 0 = none_flies head items in
    let both = sum_by-cons (in_flight_size head) (changed_item Mark x) (lost_items items) in
    omega (arith, here, rest, both)

-- ---- the lowest

within_list : (items : List Item) (place : ℕ) (item : Item) → slice_get items place ≡ Some item → place < length items
within_list [] place item at = absurd (cc)
within_list (x ∷ items) zero item at = omega arith
within_list (x ∷ items) (suc place) item at = let rest = within_list items place item at in omega (arith, rest)

lowest_next : (e : Endpoint) (t : Transfer) (place : ℕ) → IsLowest e t place → IsNextMarked place (lost_items t.retransmission.outstanding.items)
lowest_next e t place lowest =
    let items : List Item = t.retransmission.outstanding.items in
    record {
      marked = record {
        within = let here = within_list items place lowest.item lowest.at in let same = lost_length items in omega (arith, here, same);
        item = changed_item Mark lowest.item;
        at = lost_at items place lowest.item lowest.at;
        is = lost_marked lowest.item.progress.state lowest.item.progress refl ∙ lowest.awaited;
      };
      first = λ k lost before at.
          let from : ComesFrom items k lost = comes_from items k lost at in
          ap (λ (x : Item). is_marked x.progress.state) from.is ∙ lost_marked from.item.progress.state from.item.progress refl ∙ lowest.first k from.item before from.at;
    }

-- ---- the turns

pub lost_sends : (now : ℕ) (state : RetransmissionState) → can_send (after_expiry now state) ≡ true
lost_sends now state =
    let none_there : chunk_bytes_in_flight (after_expiry now state) ≡ 0 = none_flies (header state.outstanding) state.outstanding.items in
    ap (λ (n : ℕ). (n == 0) || (nat_lt n (after_expiry now state).congestion.cwnd && nat_lt n (after_expiry now state).peer_window)) none_there

-- the endpoint once T3 has expired
abbrev pub after_loss : Endpoint → Transfer → Endpoint
after_loss e t = record (with_transfer e (lost_all e.moment t)) { error_count = error_counted e.options.max_retransmissions e.error_count }

-- It waits to be sent again then, and fits.
pub next_fits : (e : Endpoint) (t : Transfer) (place : ℕ) → IsLowest e t place
    → (next : IsNextMarked place (lost_all e.moment t).retransmission.outstanding.items) × (item_size (header t.retransmission.outstanding) next.marked.item ≤ packet_size_limit e.options - 12)
unfolding lowest_next
next_fits e t place lowest = (lowest_next e t place lowest, lowest.fits)

pub asks_then : (e : Endpoint) (t : Transfer) (place : ℕ) → SaysDataAlone e t → IsLowest e t place → Asks (after_loss e t) (lost_all e.moment t) place
unfolding lowest_next
asks_then e t place alone lowest =
    record {
      settled = alone.settled;
      resets = alone.resets;
      lasting = all_lost_last t.retransmission.outstanding.items alone.lasting;
      next = lowest_next e t place lowest;
      may = lost_sends e.moment t.retransmission;
      fits = lowest.fits;
    }

pub expired : (e : Endpoint) (t : Transfer) (found : Option Transfer) (lost : Outcome) → found ≡ Some t → LossTurn e found lost → lost.after ≡ after_loss e t
expired e t None lost has turn = absurd (cc)
expired e t (Some other) lost has turn =
    ap (λ (o : Outcome). o.after) turn ∙ ap (λ (x : Transfer). after_loss e x) (let same : other ≡ t = cc in same)

pub lost_data_is_sent_again : LostDataIsSentAgain
lost_data_is_sent_again e t place lost flushed expires flush alone lowest =
    let after : lost.outcome.after ≡ after_loss e t = expired e t e.queues.transfer lost.outcome alone.has expires.comes in
    let turn : ActTurn (after_loss e t) flushes flushed.outcome = subst (λ (x : Endpoint). ActTurn x flushes flushed.outcome) after flush.comes in
    flush_sends (after_loss e t) flushed.outcome (lost_all e.moment t) place turn alone.is_open alone.allowed refl (asks_then e t place alone lowest)
