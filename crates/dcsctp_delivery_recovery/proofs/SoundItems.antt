-- What is outstanding stays sound, whatever is acknowledged, missed or lost.
use Rattle.std.proofs.Common.{◌≡◌, ◌==◌, ◌<◌, ◌≤◌, ◌+◌, ◌-◌, ◌^◌, ℕ, zero, suc, nat_lt, Bool, true, false, if◌then◌else◌, Option, Some, List, [], ◌∷◌, ◌++◌, drop, length, inl, inr, refl, sym, ap, ◌∙◌, subst, arith}
use Rattle.std.specs.List.{AllByRecursion, slice_get}
use Rattle.std.specs.Option.{option_map}
use Rattle.std.proofs.lemmas.List.{length-append, length-drop}
use Rattle.dcsctp_spec_lemmas.specs.wire.Content.{SackContent}
use Rattle.dcsctp_spec_lemmas.specs.wire.declared.chunk.sack.GapAckBlock.{GapAckBlock}
use Rattle.dcsctp_spec_lemmas.specs.types.declared.progress.Change.{Change}
use Rattle.dcsctp_spec_lemmas.specs.types.declared.progress.Change.TheVariants.{SendAgain, Miss, Mark, Acknowledge, Abandon}
use Rattle.dcsctp_spec_lemmas.specs.types.declared.progress.ItemState.{ItemState}
use Rattle.dcsctp_spec_lemmas.specs.types.declared.progress.ItemState.TheVariants.{InFlight, Marked, Acknowledged, Abandoned}
use Rattle.dcsctp_spec_lemmas.specs.types.declared.progress.Progress.{Progress}
use Rattle.dcsctp_spec_lemmas.specs.types.queues.Progress.{is_unacknowledged, is_marked, item_sent_again, tells_whether_missing, missed_progress, missed_if_told, marked_lost, acknowledged_progress, progress_changed}
use Rattle.dcsctp_spec_lemmas.specs.spec.endpoint.TransferMoves.{TakesSack, timed_transfer}
use Rattle.dcsctp_spec_lemmas.specs.spec.queues.Acknowledging.{covered_items, lossy, missed_until, exiting, AcknowledgesItems, acknowledged_until, without_first_items, opens, probes_lost, window_after_settling}
use Rattle.dcsctp_spec_lemmas.specs.spec.queues.Items.{Item, marked_items, changed_item, changed_between}
use Rattle.dcsctp_spec_lemmas.specs.spec.queues.Outstanding.{OutstandingState, tsn_at, acknowledged_count, reported_items}
use Rattle.dcsctp_spec_lemmas.specs.spec.queues.Retransmission.{RetransmissionState, with_items}
use Rattle.dcsctp_spec_lemmas.specs.spec.queues.Transfer.{Transfer}
use Rattle.dcsctp_delivery_directions.proofs.directions.Standing.{timed_outstanding}
use Rattle.dcsctp_delivery_directions.proofs.sending.Stages.{changed_length}
use Rattle.dcsctp_delivery_recovery.specs.Flights.{IsSoundItem, IsSoundFlight}

-- ---- one item

-- What was abandoned stays so, and what was acknowledged is not unacknowledged again.
record KeepsProgress (old new : Progress) : Type 0 where
  abandoned : old.state ≡ Abandoned → new.state ≡ Abandoned
  acknowledged : (old.was_acknowledged ≡ true → is_unacknowledged old.state ≡ false) → new.was_acknowledged ≡ true → is_unacknowledged new.state ≡ false

sound_by : (item : Item) (progress : Progress) → KeepsProgress item.progress progress → IsSoundItem item → IsSoundItem (record item { progress = progress })
sound_by item progress keeps h =
    record {
      bytes = elim h.bytes [ inl some ↦ inl some | inr abandoned ↦ inr (keeps.abandoned abandoned) ];
      acknowledged = keeps.acknowledged h.acknowledged;
    }

same_kept : (progress : Progress) → KeepsProgress progress progress
same_kept progress = record { abandoned = λ is. is; acknowledged = λ before was. before was }

-- What is in flight, or waits to be sent again, was neither abandoned nor acknowledged.
in_flight_kept : (old new : Progress) (state : ItemState) → old.state ≡ state → is_unacknowledged state ≡ true → new.was_acknowledged ≡ old.was_acknowledged → KeepsProgress old new
in_flight_kept old new state at awaited same =
    record {
      abandoned = λ is. (let clash : false ≡ true = ap is_unacknowledged (sym is ∙ at) ∙ awaited in absurd (cc));
      acknowledged = λ before was. (let clash : false ≡ true = sym (before (sym same ∙ was)) ∙ ap is_unacknowledged at ∙ awaited in absurd (cc));
    }

missed_kept : (progress : Progress) (tells : Bool) → KeepsProgress progress (missed_if_told tells progress)
missed_kept progress false = same_kept progress
missed_kept progress true = go progress.state refl
  where
    counted : (b c : Bool) → progress.state ≡ InFlight
        → KeepsProgress progress (if b then record progress { state = Marked; misses = 3 } else if c then record progress { misses = progress.misses + 1 } else progress)
    counted true c at = in_flight_kept progress (record progress { state = Marked; misses = 3 }) InFlight at refl refl
    counted false true at = in_flight_kept progress (record progress { misses = progress.misses + 1 }) InFlight at refl refl
    counted false false at = same_kept progress

    go : (state : ItemState) → progress.state ≡ state → KeepsProgress progress (missed_progress state progress)
    go InFlight at = counted (progress.misses == 2) (nat_lt progress.misses 2) at
    go Marked at = same_kept progress
    go Acknowledged at = same_kept progress
    go Abandoned at = same_kept progress

lost_kept : (progress : Progress) (state : ItemState) → progress.state ≡ state → KeepsProgress progress (marked_lost state progress)
lost_kept progress InFlight at = in_flight_kept progress (record progress { state = Marked }) InFlight at refl refl
lost_kept progress Marked at = same_kept progress
lost_kept progress Acknowledged at = same_kept progress
lost_kept progress Abandoned at = same_kept progress

acknowledged_kept : (progress : Progress) (state : ItemState) → progress.state ≡ state → KeepsProgress progress (acknowledged_progress state progress)
acknowledged_kept progress InFlight at = record { abandoned = λ is. (let clash : true ≡ false = ap is_unacknowledged (sym at ∙ is) in absurd (cc)); acknowledged = λ before was. refl }
acknowledged_kept progress Marked at = record { abandoned = λ is. (let clash : true ≡ false = ap is_unacknowledged (sym at ∙ is) in absurd (cc)); acknowledged = λ before was. refl }
acknowledged_kept progress Acknowledged at = record { abandoned = λ is. is; acknowledged = λ before was. ap is_unacknowledged at }
acknowledged_kept progress Abandoned at = record { abandoned = λ is. is; acknowledged = λ before was. ap is_unacknowledged at }

-- It isn't sent again.
abbrev pub IsMild : Change → Type 0
IsMild (SendAgain next) = ⊥
IsMild (Miss newest) = Unit {0}
IsMild Mark = Unit {0}
IsMild Acknowledge = Unit {0}
IsMild Abandon = Unit {0}

mild_kept : (change : Change) (progress : Progress) → IsMild change → KeepsProgress progress (progress_changed change progress)
mild_kept (SendAgain next) progress mild = absurd mild
mild_kept (Miss newest) progress mild = missed_kept progress (tells_whether_missing progress.sent_before newest)
mild_kept Mark progress mild = lost_kept progress progress.state refl
mild_kept Acknowledge progress mild = acknowledged_kept progress progress.state refl
mild_kept Abandon progress mild = record { abandoned = λ is. refl; acknowledged = λ before was. refl }

again_kept : (next : ℕ) (progress : Progress) (state : ItemState) → progress.state ≡ state → is_marked state ≡ true → KeepsProgress progress (item_sent_again next progress)
again_kept next progress InFlight at marked = absurd (cc)
again_kept next progress Marked at marked = in_flight_kept progress (item_sent_again next progress) Marked at refl refl
again_kept next progress Acknowledged at marked = absurd (cc)
again_kept next progress Abandoned at marked = absurd (cc)

pub mild_sound : (change : Change) (item : Item) → IsMild change → IsSoundItem item → IsSoundItem (changed_item change item)
mild_sound change item mild h = sound_by item (progress_changed change item.progress) (mild_kept change item.progress mild) h

pub again_sound : (next : ℕ) (item : Item) → is_marked item.progress.state ≡ true → IsSoundItem item → IsSoundItem (changed_item (SendAgain next) item)
again_sound next item marked h = sound_by item (item_sent_again next item.progress) (again_kept next item.progress item.progress.state refl marked) h

-- ---- all items

abbrev pub AreSound : List Item → Type 0
AreSound items = AllByRecursion IsSoundItem items

pub changed_where : (change : Change) (start end : ℕ) (items : List Item)
    → ((k : ℕ) (item : Item) → start ≤ k → k < end → slice_get items k ≡ Some item → IsSoundItem item → IsSoundItem (changed_item change item))
    → AreSound items → AreSound (changed_between change start end items)
changed_where change zero zero items each h = h
changed_where change zero (suc end) [] each h = tt
changed_where change zero (suc end) (item ∷ items) each h = (
  each 0 item (omega arith) (omega arith) refl h.0,
  changed_where change zero end items (λ k other from below at. each (suc k) other (omega arith) (omega (arith, below)) at) h.1,
)
changed_where change (suc start) zero items each h = h
changed_where change (suc start) (suc end) [] each h = tt
changed_where change (suc start) (suc end) (item ∷ items) each h =
    (h.0, changed_where change start end items (λ k other from below at. each (suc k) other (omega (arith, from)) (omega (arith, below)) at) h.1)

pub changed_sound : (change : Change) (start end : ℕ) (items : List Item) → IsMild change → AreSound items → AreSound (changed_between change start end items)
changed_sound change start end items mild h = changed_where change start end items (λ k item from below at one. mild_sound change item mild one) h

reported_sound : (count : ℕ) (blocks : List GapAckBlock) (items : List Item) → AreSound items → AreSound (reported_items count blocks items)
reported_sound count [] items h = h
reported_sound count (block ∷ blocks) items h =
    reported_sound count blocks (changed_between Acknowledge (count + block.start - 1) (count + block.end) items)
    (changed_sound Acknowledge (count + block.start - 1) (count + block.end) items tt h)

dropped_sound : (count : ℕ) (items : List Item) → AreSound items → AreSound (drop count items)
dropped_sound zero items h = h
dropped_sound (suc count) [] h = tt
dropped_sound (suc count) (item ∷ items) h = dropped_sound count items h.1

pub added_sound : (items : List Item) (last : Item) → AreSound items → IsSoundItem last → AreSound (items ++ last ∷ [])
added_sound [] last h one = (one, tt)
added_sound (item ∷ items) last h one = (h.0, added_sound items last h.1 one)

-- ---- what is outstanding

pub changed_flight : (change : Change) (start end : ℕ) (old new : OutstandingState) → IsMild change → new.items ≡ changed_between change start end old.items → IsSoundFlight old → IsSoundFlight new
changed_flight change start end old new mild is h =
    record {
      items = subst AreSound (sym is) (changed_sound change start end old.items mild h.items);
      few = (let size = ap length is in let few = h.few in omega (arith, size, changed_length change start end old.items, few));
    }

pub added_flight : (old new : OutstandingState) (last : Item) → new.items ≡ old.items ++ last ∷ [] → IsSoundItem last → length old.items + 1 < 2 ^ 31 → IsSoundFlight old → IsSoundFlight new
added_flight old new last is one room h =
    record {
      items = subst AreSound (sym is) (added_sound old.items last h.items one);
      few = (let size = ap length is in omega (arith, size, length-append old.items (last ∷ []), room));
    }

abbrev pub QueueFliesSound : RetransmissionState → Type 0
QueueFliesSound state = IsSoundFlight state.outstanding

-- ---- a SACK

reported_length : (count : ℕ) (blocks : List GapAckBlock) (items : List Item) → length (reported_items count blocks items) ≡ length items
reported_length count [] items = refl
reported_length count (block ∷ blocks) items =
    reported_length count blocks (changed_between Acknowledge (count + block.start - 1) (count + block.end) items)
    ∙ changed_length Acknowledge (count + block.start - 1) (count + block.end) items

missed_flight : (count limit : ℕ) (newest : Option ℕ) (state : RetransmissionState) → QueueFliesSound state → QueueFliesSound (missed_until count limit newest state)
missed_flight count limit newest state h = go (nat_lt (marked_items state.outstanding.items) (marked_items (changed_between (Miss newest) count limit state.outstanding.items)))
  where
    go : (b : Bool) → let items = changed_between (Miss newest) count limit state.outstanding.items in QueueFliesSound (if b then lossy (with_items items state) else with_items items state)
    go true = changed_flight (Miss newest) count limit state.outstanding _ tt refl h
    go false = changed_flight (Miss newest) count limit state.outstanding _ tt refl h

settled_flight : (now window count : ℕ) (state : RetransmissionState) → QueueFliesSound state → QueueFliesSound (window_after_settling now window count state)
settled_flight now window count state h = go (opens state (record state { peer_window = window }))
  where
    go : (b : Bool) → QueueFliesSound (probes_lost b (record state { peer_window = window }))
    go true = changed_flight Mark 0 (length state.outstanding.items) state.outstanding _ tt refl h
    go false = h

acknowledged_flight : (now cumulative window : ℕ) (blocks : List GapAckBlock) (old new : RetransmissionState) → QueueFliesSound old → AcknowledgesItems now cumulative window blocks old new → QueueFliesSound new
acknowledged_flight now cumulative window blocks old new h does =
    let count : ℕ = acknowledged_count old.outstanding cumulative in
    let newest : Option ℕ = option_map (tsn_at old.outstanding) does.newest in
    let leaving : RetransmissionState = exiting cumulative old in
    let covered : RetransmissionState = with_items (covered_items count blocks leaving.outstanding.items) leaving in
    let missed : RetransmissionState = missed_until count does.limit newest covered in
    let size : length covered.outstanding.items ≡ length old.outstanding.items =
    reported_length count blocks (changed_between Acknowledge 0 count old.outstanding.items) ∙ changed_length Acknowledge 0 count old.outstanding.items in
    let reported : QueueFliesSound covered = record {
      items = reported_sound count blocks (changed_between Acknowledge 0 count old.outstanding.items) (changed_sound Acknowledge 0 count old.outstanding.items tt h.items);
      few = (let few = h.few in omega (arith, size, few));
    } in
    let between : QueueFliesSound missed = missed_flight count does.limit newest covered reported in
    let left : QueueFliesSound (without_first_items count missed) = record {
      items = dropped_sound count missed.outstanding.items between.items;
      few = (let few = between.few in omega (arith, few, length-drop count missed.outstanding.items));
    } in
    subst QueueFliesSound (sym does.is) (settled_flight now window count (acknowledged_until count blocks does.limit newest leaving) left)

abbrev pub TransferFliesSound : Transfer → Type 0
TransferFliesSound transfer = QueueFliesSound transfer.retransmission

pub timed_flight : (round_trip : Option ℕ) (transfer : Transfer) → TransferFliesSound transfer → TransferFliesSound (timed_transfer round_trip transfer)
timed_flight round_trip transfer h = subst IsSoundFlight (sym (timed_outstanding round_trip transfer)) h

pub sack_flight : (now : ℕ) (sack : SackContent) (old new : Transfer) → TransferFliesSound old → TakesSack now sack old new → TransferFliesSound new
sack_flight now sack old new h does =
    subst TransferFliesSound (sym does.is)
    (timed_flight does.round_trip (record old { retransmission = does.left })
    (acknowledged_flight now sack.cumulative_tsn_ack sack.a_rwnd does.blocks old.retransmission does.left h does.acknowledges))
