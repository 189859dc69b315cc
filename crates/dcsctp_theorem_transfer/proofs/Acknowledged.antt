-- A SACK leaves fewer items that none has acknowledged, if it acknowledges the first and none did before.
use Rattle.std.proofs.Common.{◌≡◌, ◌≤◌, ◌<◌, ◌+◌, ◌-◌, ◌%◌, ◌^◌, ◌==◌, ℕ, zero, suc, nat_lt, not, Bool, true, false, if◌then◌else◌, Option, Some, List, [], ◌∷◌, drop, length, slice_get, refl, ap, ◌∙◌, arith}
use Rattle.std.specs.Option.{option_map}
use Rattle.std.proofs.lemmas.List.Sums.{sum_by-cons}
use Rattle.std.proofs.lemmas.Bool.Decides.{nat_tests}
use Rattle.dcsctp_spec_lemmas.specs.wire.declared.chunk.sack.GapAckBlock.{GapAckBlock}
use Rattle.dcsctp_spec_lemmas.specs.types.declared.progress.Change.{Change}
use Rattle.dcsctp_spec_lemmas.specs.types.declared.progress.Change.TheVariants.{Miss, Mark, Acknowledge}
use Rattle.dcsctp_spec_lemmas.specs.types.declared.progress.ItemState.{ItemState}
use Rattle.dcsctp_spec_lemmas.specs.types.declared.progress.ItemState.TheVariants.{InFlight, Marked, Acknowledged, Abandoned}
use Rattle.dcsctp_spec_lemmas.specs.types.declared.progress.Progress.{Progress}
use Rattle.dcsctp_spec_lemmas.specs.types.queues.Progress.{tells_whether_missing, missed_progress, missed_if_told, marked_lost, acknowledged_progress}
use Rattle.dcsctp_spec_lemmas.specs.spec.queues.Acknowledging.{covered_items, lossy, missed_until, exiting, AcknowledgesItems, acknowledged_until, opens, probes_lost, window_after_settling, has_acknowledged}
use Rattle.dcsctp_spec_lemmas.specs.spec.queues.Items.{Item, number_or_zero, never_acknowledged_count, never_acknowledged_items, marked_items, changed_item, changed_between}
use Rattle.dcsctp_spec_lemmas.specs.spec.queues.Outstanding.{tsn_at, acknowledged_count, reported_items}
use Rattle.dcsctp_spec_lemmas.specs.spec.queues.Retransmission.{RetransmissionState, with_items}

-- ---- one item

missed_stays : (progress : Progress) (state : ItemState) → (missed_progress state (record progress { state = state })).was_acknowledged ≡ progress.was_acknowledged
missed_stays progress InFlight = go (progress.misses == 2) (nat_lt progress.misses 2)
  where
    go : (b c : Bool)
        → (if b then record progress { state = Marked; misses = 3 } else if c then record progress { state = InFlight; misses = progress.misses + 1 } else record progress { state = InFlight }).was_acknowledged
        ≡ progress.was_acknowledged
    go true c = refl
    go false true = refl
    go false false = refl
missed_stays progress Marked = refl
missed_stays progress Acknowledged = refl
missed_stays progress Abandoned = refl

acknowledged_now : (progress : Progress) (state : ItemState) → (acknowledged_progress state (record progress { state = state })).was_acknowledged ≡ true
acknowledged_now progress InFlight = refl
acknowledged_now progress Marked = refl
acknowledged_now progress Acknowledged = refl
acknowledged_now progress Abandoned = refl

miss_adds_none : (newest : Option ℕ) (item : Item) → never_acknowledged_count (changed_item (Miss newest) item) ≤ never_acknowledged_count item
miss_adds_none newest item = let same = ap (λ (b : Bool). number_or_zero (not b) 1) (go (tells_whether_missing item.progress.sent_before newest)) in omega (arith, same)
  where
    go : (b : Bool) → (missed_if_told b item.progress).was_acknowledged ≡ item.progress.was_acknowledged
    go true = missed_stays item.progress item.progress.state
    go false = refl

loss_adds_none : (item : Item) → never_acknowledged_count (changed_item Mark item) ≤ never_acknowledged_count item
loss_adds_none item = let same = ap (λ (b : Bool). number_or_zero (not b) 1) (go item.progress.state) in omega (arith, same)
  where
    go : (state : ItemState) → (marked_lost state item.progress).was_acknowledged ≡ item.progress.was_acknowledged
    go InFlight = refl
    go Marked = refl
    go Acknowledged = refl
    go Abandoned = refl

none_left : (item : Item) → never_acknowledged_count (changed_item Acknowledge item) ≡ 0
none_left item = ap (λ (b : Bool). number_or_zero (not b) 1) (acknowledged_now item.progress item.progress.state)

acknowledge_adds_none : (item : Item) → never_acknowledged_count (changed_item Acknowledge item) ≤ never_acknowledged_count item
acknowledge_adds_none item = let none = none_left item in omega (arith, none)

-- ---- all of them

lessened : (change : Change) → ((item : Item) → never_acknowledged_count (changed_item change item) ≤ never_acknowledged_count item) → (start end : ℕ) (items : List Item)
    → never_acknowledged_items (changed_between change start end items) ≤ never_acknowledged_items items
lessened change lessens zero zero items = omega arith
lessened change lessens zero (suc end) [] = omega arith
lessened change lessens zero (suc end) (x ∷ xs) =
    let later = lessened change lessens zero end xs in
    let here = lessens x in
    let old = sum_by-cons never_acknowledged_count x xs in
    let new = sum_by-cons never_acknowledged_count (changed_item change x) (changed_between change zero end xs) in
    omega (arith, later, here, old, new)
lessened change lessens (suc start) zero items = omega arith
lessened change lessens (suc start) (suc end) [] = omega arith
lessened change lessens (suc start) (suc end) (x ∷ xs) =
    let later = lessened change lessens start end xs in
    let old = sum_by-cons never_acknowledged_count x xs in
    let new = sum_by-cons never_acknowledged_count x (changed_between change start end xs) in
    omega (arith, later, old, new)

reported_lessens : (count : ℕ) (blocks : List GapAckBlock) (items : List Item) → never_acknowledged_items (reported_items count blocks items) ≤ never_acknowledged_items items
reported_lessens count [] items = omega arith
reported_lessens count (block ∷ blocks) items =
    let others = reported_lessens count blocks (changed_between Acknowledge (count + block.start - 1) (count + block.end) items) in
    let first = lessened Acknowledge acknowledge_adds_none (count + block.start - 1) (count + block.end) items in
    omega (arith, others, first)

dropped_lessens : (count : ℕ) (items : List Item) → never_acknowledged_items (drop count items) ≤ never_acknowledged_items items
dropped_lessens zero items = omega arith
dropped_lessens (suc count) [] = omega arith
dropped_lessens (suc count) (x ∷ xs) =
    let rest = dropped_lessens count xs in let old = sum_by-cons never_acknowledged_count x xs in omega (arith, rest, old)

-- The first is acknowledged, which wasn't before.
first_falls : (count : ℕ) (items : List Item) (first : Item) → 1 ≤ count → slice_get items 0 ≡ Some first → first.progress.was_acknowledged ≡ false
    → never_acknowledged_items (changed_between Acknowledge 0 count items) < never_acknowledged_items items
first_falls zero items first some at anew = absurd (omega (arith, some))
first_falls (suc count) [] first some at anew = absurd (cc)
first_falls (suc count) (x ∷ xs) first some at anew =
    let same : x ≡ first = cc in
    let was : never_acknowledged_count x ≡ 1 = ap (λ (b : Bool). number_or_zero (not b) 1) (ap (λ (i : Item). i.progress.was_acknowledged) same ∙ anew) in
    let now = none_left x in
    let later = lessened Acknowledge acknowledge_adds_none zero count xs in
    let old = sum_by-cons never_acknowledged_count x xs in
    let new = sum_by-cons never_acknowledged_count (changed_item Acknowledge x) (changed_between Acknowledge zero count xs) in
    omega (arith, was, now, later, old, new)

-- ---- a SACK

missed_lessens : (count limit : ℕ) (newest : Option ℕ) (state : RetransmissionState)
    → never_acknowledged_items (missed_until count limit newest state).outstanding.items ≤ never_acknowledged_items state.outstanding.items
missed_lessens count limit newest state = go (nat_lt (marked_items state.outstanding.items) (marked_items (changed_between (Miss newest) count limit state.outstanding.items)))
  where
    go : (b : Bool) → let items = changed_between (Miss newest) count limit state.outstanding.items in
        never_acknowledged_items (if b then lossy (with_items items state) else with_items items state).outstanding.items ≤ never_acknowledged_items state.outstanding.items
    go true = lessened (Miss newest) (miss_adds_none newest) count limit state.outstanding.items
    go false = lessened (Miss newest) (miss_adds_none newest) count limit state.outstanding.items

settled_lessens : (now window count : ℕ) (state : RetransmissionState)
    → never_acknowledged_items (window_after_settling now window count state).outstanding.items ≤ never_acknowledged_items state.outstanding.items
settled_lessens now window count state = go (opens state (record state { peer_window = window }))
  where
    go : (b : Bool) → never_acknowledged_items (probes_lost b (record state { peer_window = window })).outstanding.items ≤ never_acknowledged_items state.outstanding.items
    go true = lessened Mark loss_adds_none 0 (length state.outstanding.items) state.outstanding.items
    go false = omega arith

-- The SACK acknowledges something.
pub acknowledges_first : (now cumulative window : ℕ) (blocks : List GapAckBlock) (old new : RetransmissionState) (first : Item) → 1 ≤ acknowledged_count old.outstanding cumulative
    → slice_get old.outstanding.items 0 ≡ Some first → first.progress.was_acknowledged ≡ false → AcknowledgesItems now cumulative window blocks old new → has_acknowledged old new ≡ true
acknowledges_first now cumulative window blocks old new first some at anew does =
    let count : ℕ = acknowledged_count old.outstanding cumulative in
    let newest : Option ℕ = option_map (tsn_at old.outstanding) does.newest in
    let leaving : RetransmissionState = exiting cumulative old in
    let covered : RetransmissionState = with_items (covered_items count blocks leaving.outstanding.items) leaving in
    let missed : RetransmissionState = missed_until count does.limit newest covered in
    let less : never_acknowledged_items new.outstanding.items < never_acknowledged_items old.outstanding.items =
    (let is = ap (λ (r : RetransmissionState). never_acknowledged_items r.outstanding.items) does.is in
    let settled = settled_lessens now window count (acknowledged_until count blocks does.limit newest leaving) in
    let dropped = dropped_lessens count missed.outstanding.items in
    let misses = missed_lessens count does.limit newest covered in
    let reported = reported_lessens count blocks (changed_between Acknowledge 0 count old.outstanding.items) in
    let falls = first_falls count old.outstanding.items first some at anew in
    omega (arith, is, settled, dropped, misses, reported, falls)) in
    grind (arith, nat_tests, less)

-- ---- the lowest TSN

missed_first : (count limit : ℕ) (newest : Option ℕ) (state : RetransmissionState) → (missed_until count limit newest state).outstanding.first_tsn ≡ state.outstanding.first_tsn
missed_first count limit newest state = go (nat_lt (marked_items state.outstanding.items) (marked_items (changed_between (Miss newest) count limit state.outstanding.items)))
  where
    go : (b : Bool) → let items = changed_between (Miss newest) count limit state.outstanding.items in
        (if b then lossy (with_items items state) else with_items items state).outstanding.first_tsn ≡ state.outstanding.first_tsn
    go true = refl
    go false = refl

settled_first : (now window count : ℕ) (state : RetransmissionState) → (window_after_settling now window count state).outstanding.first_tsn ≡ state.outstanding.first_tsn
settled_first now window count state = go (opens state (record state { peer_window = window }))
  where
    go : (b : Bool) → (probes_lost b (record state { peer_window = window })).outstanding.first_tsn ≡ state.outstanding.first_tsn
    go true = refl
    go false = refl

pub first_passes : (now cumulative window : ℕ) (blocks : List GapAckBlock) (old new : RetransmissionState) → AcknowledgesItems now cumulative window blocks old new
    → new.outstanding.first_tsn ≡ tsn_at old.outstanding (acknowledged_count old.outstanding cumulative)
first_passes now cumulative window blocks old new does =
    let count : ℕ = acknowledged_count old.outstanding cumulative in
    let newest : Option ℕ = option_map (tsn_at old.outstanding) does.newest in
    let leaving : RetransmissionState = exiting cumulative old in
    let covered : RetransmissionState = with_items (covered_items count blocks leaving.outstanding.items) leaving in
    ap (λ (r : RetransmissionState). r.outstanding.first_tsn) does.is
    ∙ settled_first now window count (acknowledged_until count blocks does.limit newest leaving)
    ∙ ap (λ (n : ℕ). (n + count) % 2 ^ 32) (missed_first count does.limit newest covered)
