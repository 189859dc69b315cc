-- What a SACK acknowledges leaves what is outstanding, and the next TSN is acknowledged once it came.
use Rattle.std.proofs.Common.{◌≡◌, ◌≤◌, ◌+◌, ◌-◌, ◌==◌, ℕ, zero, suc, nat_lt, nat_le, Bool, true, false, cond, ◌&&◌, ◌||◌, if◌then◌else◌, Option, None, Some, List, [], ◌∷◌, length, drop, refl, sym, ap, ◌∙◌, subst, arith, eq-eqb}
use Rattle.std.proofs.lemmas.Bool.Decides.{nat_tests}
use Rattle.std.specs.Option.{option_map}
use Rattle.dcsctp_spec_lemmas.specs.wire.declared.chunk.sack.GapAckBlock.{GapAckBlock}
use Rattle.dcsctp_spec_lemmas.specs.types.declared.progress.Change.{Change}
use Rattle.dcsctp_spec_lemmas.specs.types.declared.progress.Change.TheVariants.{Miss, Mark, Acknowledge}
use Rattle.dcsctp_spec_lemmas.specs.types.declared.tracking.TsnRange.{TsnRange}
use Rattle.dcsctp_spec_lemmas.specs.spec.endpoint.TransferMoves.{timed_transfer}
use Rattle.dcsctp_spec_lemmas.specs.spec.queues.Acknowledging.{covered_items, lossy, missed_until, exiting, AcknowledgesItems, acknowledged_until, opens, probes_lost, window_after_settling}
use Rattle.dcsctp_spec_lemmas.specs.spec.queues.Items.{Item, marked_items, changed_between}
use Rattle.dcsctp_spec_lemmas.specs.spec.queues.Outstanding.{tsn_at, acknowledged_count, reported_items}
use Rattle.dcsctp_spec_lemmas.specs.spec.queues.Ranges.{IsBeyond, is_number_covered, is_received, all_to, put_among, reaching, ranges_with_number}
use Rattle.dcsctp_spec_lemmas.specs.spec.queues.Retransmission.{RetransmissionState, with_items, outstanding_count}
use Rattle.dcsctp_spec_lemmas.specs.spec.queues.Tracker.{nearest_number}
use Rattle.dcsctp_spec_lemmas.specs.spec.queues.Transfer.{Transfer}
use Rattle.dcsctp_theorem_transfer.specs.Leaving.{AcknowledgedDataLeaves, DataLeaves}

-- ---- lengths

pub changed_length : (change : Change) (start end : ℕ) (items : List Item) → length (changed_between change start end items) ≡ length items
changed_length change zero zero items = refl
changed_length change zero (suc end) [] = refl
changed_length change zero (suc end) (item ∷ items) = ap suc (changed_length change zero end items)
changed_length change (suc start) zero items = refl
changed_length change (suc start) (suc end) [] = refl
changed_length change (suc start) (suc end) (item ∷ items) = ap suc (changed_length change start end items)

reported_length : (count : ℕ) (blocks : List GapAckBlock) (items : List Item) → length (reported_items count blocks items) ≡ length items
reported_length count [] items = refl
reported_length count (block ∷ blocks) items =
    reported_length count blocks (changed_between Acknowledge (count + block.start - 1) (count + block.end) items) ∙ changed_length Acknowledge (count + block.start - 1) (count + block.end) items

missed_length : (count limit : ℕ) (newest : Option ℕ) (state : RetransmissionState) → length (missed_until count limit newest state).outstanding.items ≡ length state.outstanding.items
missed_length count limit newest state = go (nat_lt (marked_items state.outstanding.items) (marked_items (changed_between (Miss newest) count limit state.outstanding.items)))
  where
    go : (b : Bool) → let items = changed_between (Miss newest) count limit state.outstanding.items in length (if b then lossy (with_items items state) else with_items items state).outstanding.items ≡ length state.outstanding.items
    go true = changed_length (Miss newest) count limit state.outstanding.items
    go false = changed_length (Miss newest) count limit state.outstanding.items

dropped_length : (count : ℕ) (items : List Item) → length (drop count items) ≡ length items - count
dropped_length zero items = omega arith
dropped_length (suc count) [] = omega arith
dropped_length (suc count) (item ∷ items) = let rest = dropped_length count items in omega (arith, rest)

settled_length : (now window count : ℕ) (state : RetransmissionState) → length (window_after_settling now window count state).outstanding.items ≡ length state.outstanding.items
settled_length now window count state = go (opens state (record state { peer_window = window }))
  where
    go : (b : Bool) → length (probes_lost b (record state { peer_window = window })).outstanding.items ≡ length state.outstanding.items
    go true = changed_length Mark 0 (length state.outstanding.items) state.outstanding.items
    go false = refl

-- ---- a SACK

items_leave : (now cumulative window : ℕ) (blocks : List GapAckBlock) (old new : RetransmissionState) → AcknowledgesItems now cumulative window blocks old new
    → outstanding_count new ≡ outstanding_count old - acknowledged_count old.outstanding cumulative
items_leave now cumulative window blocks old new does =
    let count : ℕ = acknowledged_count old.outstanding cumulative in
    let newest : Option ℕ = option_map (tsn_at old.outstanding) does.newest in
    let leaving : RetransmissionState = exiting cumulative old in
    let covered : RetransmissionState = with_items (covered_items count blocks leaving.outstanding.items) leaving in
    let missed : RetransmissionState = missed_until count does.limit newest covered in
    let same : length missed.outstanding.items ≡ length old.outstanding.items =
    missed_length count does.limit newest covered ∙ reported_length count blocks (changed_between Acknowledge 0 count old.outstanding.items) ∙ changed_length Acknowledge 0 count old.outstanding.items in
    ap (λ (r : RetransmissionState). length r.outstanding.items) does.is
    ∙ settled_length now window count (acknowledged_until count blocks does.limit newest leaving)
    ∙ dropped_length count missed.outstanding.items ∙ ap (λ (n : ℕ). n - count) same

timed_length : (round_trip : Option ℕ) (t : Transfer) → outstanding_count (timed_transfer round_trip t).retransmission ≡ outstanding_count t.retransmission
timed_length None t = refl
timed_length (Some round_trip) t = refl

pub sack_leaves : AcknowledgedDataLeaves
sack_leaves now sack old new does =
    ap (λ (t : Transfer). outstanding_count t.retransmission) does.is ∙ timed_length does.round_trip (record old { retransmission = does.left })
    ∙ items_leave now sack.cumulative_tsn_ack sack.a_rwnd does.blocks old.retransmission does.left does.acknowledges

-- ---- the next TSN

-- A number is missing before the first range.
none_covers : (number later : ℕ) (ranges : List TsnRange) → number ≤ later → IsBeyond later ranges → is_number_covered (number + 1) ranges ≡ false
none_covers number later [] before beyond = refl
none_covers number later (range ∷ ranges) before beyond =
    let rest : is_number_covered (number + 1) ranges ≡ false = none_covers number range.last ranges (omega (arith, before, beyond.0, beyond.1)) beyond.2 in
    let first : nat_le range.first (number + 1) ≡ false = grind (arith, nat_tests, before, beyond.0) in
    ap (λ (b : Bool). (b && nat_le (number + 1) range.last) || is_number_covered (number + 1) ranges) first ∙ rest

not_received : (cumulative : ℕ) (ranges : List TsnRange) → IsBeyond cumulative ranges → is_received cumulative (cumulative + 1) ranges ≡ false
not_received cumulative ranges beyond =
    let above : nat_le (cumulative + 1) cumulative ≡ false = grind (arith, nat_tests) in
    ap (λ (b : Bool). b || is_number_covered (cumulative + 1) ranges) above ∙ none_covers cumulative cumulative ranges (omega arith) beyond

reaches : (number : ℕ) (ranges : List TsnRange) → number ≤ (reaching number ranges).cumulative
reaches number [] = omega arith
reaches number (range ∷ ranges) = go (nat_lt (number + 1) range.first) (nat_le number range.last) refl (reaches number ranges)
  where
    go : (missing within : Bool) → nat_le number range.last ≡ within → number ≤ (reaching number ranges).cumulative
        → number ≤ (cond missing (all_to number (range ∷ ranges)) (cond within (all_to range.last ranges) (reaching number ranges))).cumulative
    go true within is rest = omega arith
    go false true is rest = grind (arith, nat_tests, is)
    go false false is rest = rest

pub next_reached : (number cumulative : ℕ) (ranges : List TsnRange) → IsBeyond cumulative ranges → number ≡ cumulative + 1 → cumulative + 1 ≤ (ranges_with_number number cumulative ranges).cumulative
next_reached number cumulative ranges beyond is =
    subst (λ (n : ℕ). cumulative + 1 ≤ (ranges_with_number n cumulative ranges).cumulative) (sym is) (go (is_received cumulative (cumulative + 1) ranges) ((cumulative + 1) == (cumulative + 1)) (not_received cumulative ranges beyond)
    (eq-eqb (cumulative + 1) (cumulative + 1) refl))
  where
    go : (known next : Bool) → known ≡ false → next ≡ true
        → cumulative + 1 ≤ (cond known (all_to cumulative ranges) (cond next (reaching (cumulative + 1) ranges) (all_to cumulative (put_among (cumulative + 1) ranges)))).cumulative
    go true next none is_next = absurd (cc)
    go false true none is_next = reaches (cumulative + 1) ranges
    go false false none is_next = absurd (cc)

pub data_leaves : DataLeaves
data_leaves =
    record {
      sender = sack_leaves;
      receiver = λ tsn immediate tracker beyond is. next_reached (nearest_number tracker.cumulative tsn) tracker.cumulative tracker.ranges beyond is;
    }
