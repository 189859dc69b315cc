-- What is received from now on, as the definitions say it.
use Rattle.std.proofs.Common.{◌≡◌, ◌<◌, ◌-◌, ◌^◌, ◌+◌, ℕ, zero, suc, nat_lt, slice_get, Option, Some, Bool, true, false, not, List, [], ◌∷◌, map, length, refl, sym, ap, ◌∙◌, arith}
use Rattle.std.specs.Bool.{IsTrue}
use Rattle.std.proofs.lemmas.Bool.Decides.{nat_tests}
use Rattle.dcsctp_spec_lemmas.specs.types.declared.tracking.TsnRange.{TsnRange}
use Rattle.dcsctp_spec_lemmas.specs.spec.queues.Ranges.{IsBeyond, ReceivesNumber, MovesForwardTo, ranges_with_number, forwarded_ranges}
use Rattle.dcsctp_spec_lemmas.specs.spec.queues.Tracker.{TrackerState, nearest_number, highest, after_arrival, with_duplicate, has_ranges, stopped_timer, is_new_tsn, is_urgent, tracker_after_data, has_numbers_left, after_forward}
use Rattle.dcsctp_spec_lemmas.proofs.RangesLemmas.{received_only, forwarded_only}
use Rattle.dcsctp_receive_tracker.specs.Received.{range_of}

-- the tracker with these numbers, once data was received
abbrev observing : ℕ → Bool → Bool → TrackerState → ℕ → List TsnRange → TrackerState
observing tsn immediate is_new tracker cumulative ranges =
    record tracker {
      cumulative = cumulative;
      ranges = ranges;
      duplicates = with_duplicate tsn is_new tracker.duplicates;
      has_seen_data = true;
      acknowledgement = after_arrival tracker.acknowledgement (is_urgent is_new immediate tracker ranges);
      delay = stopped_timer tracker.delay;
    }

pub observes : (tsn : ℕ) (immediate is_new : Bool) (old new : TrackerState) (reached : ℕ) (ranges : List TsnRange) → IsBeyond old.cumulative old.ranges
    → ReceivesNumber (nearest_number old.cumulative tsn) old.cumulative old.ranges is_new reached ranges → new ≡ observing tsn immediate is_new old reached ranges → new ≡ tracker_after_data tsn immediate old
observes tsn immediate is_new old new reached ranges beyond takes is =
    let number = nearest_number old.cumulative tsn in
    let only = received_only number old.cumulative old.ranges is_new reached ranges beyond takes in
    is
    ∙ ap (λ (b : Bool). observing tsn immediate b old reached ranges) takes.answer
    ∙ ap (λ (n : ℕ). observing tsn immediate (is_new_tsn tsn old) old n ranges) only.0
    ∙ ap (λ (rs : List TsnRange). observing tsn immediate (is_new_tsn tsn old) old (ranges_with_number number old.cumulative old.ranges).cumulative rs) only.1

-- the same once all up to a TSN counts as received
abbrev moving : TrackerState → ℕ → List TsnRange → TrackerState
moving tracker cumulative ranges =
    record tracker { cumulative = cumulative; ranges = ranges; acknowledgement = after_arrival tracker.acknowledgement false; delay = stopped_timer tracker.delay }

pub moves : (tsn number : ℕ) (old new : TrackerState) (reached : ℕ) (ranges : List TsnRange) → IsBeyond old.cumulative old.ranges → number ≡ nearest_number old.cumulative tsn
    → old.cumulative < 2 ^ 64 - 2 ^ 32 → old.cumulative < number → MovesForwardTo number old.ranges reached ranges → new ≡ moving old reached ranges → new ≡ after_forward tsn old
moves tsn number old new reached ranges beyond of few above takes is =
    let above' : old.cumulative < nearest_number old.cumulative tsn = rw (← of) above in
    let only = forwarded_only number old.cumulative old.ranges reached ranges above beyond takes in
    let left : has_numbers_left old.cumulative ≡ true = grind (arith, nat_tests) in
    let ahead : nat_lt old.cumulative (nearest_number old.cumulative tsn) ≡ true = grind (arith, nat_tests) in
    rw (left, ahead) (is
    ∙ ap (λ (n : ℕ). moving old n ranges) only.0
    ∙ ap (λ (rs : List TsnRange). moving old (forwarded_ranges number old.cumulative old.ranges).cumulative rs) only.1
    ∙ ap (λ (n : ℕ). moving old (forwarded_ranges n old.cumulative old.ranges).cumulative (forwarded_ranges n old.cumulative old.ranges).ranges) of)

-- A tracker has ranges unless its map is empty.
pub has_entries : (is_empty : Bool) (entries : List (ℕ × ℕ)) → (IsTrue is_empty → length entries ≡ 0) × (length entries ≡ 0 → IsTrue is_empty) → has_ranges (map range_of entries) ≡ not is_empty
has_entries true [] is = refl
has_entries true (entry ∷ entries) is = absurd (omega (arith, is.0 refl))
has_entries false [] is = absurd (let empty = is.1 refl in cc)
has_entries false (entry ∷ entries) is = refl

-- The last entry of the map ends at the highest number.
highest_at : (cumulative k : ℕ) (entries : List (ℕ × ℕ)) (first last : ℕ) → k + 1 ≡ length entries → slice_get entries k ≡ Some (first, last) → last ≡ highest cumulative (map range_of entries)
highest_at cumulative k [] first last count is = absurd (omega (arith, count))
highest_at cumulative zero (entry ∷ []) first last count is = grind arith
highest_at cumulative (suc k) (entry ∷ []) first last count is = absurd (omega (arith, count))
highest_at cumulative zero (entry ∷ next ∷ entries) first last count is = absurd (omega (arith, count))
highest_at cumulative (suc k) (entry ∷ next ∷ entries) first last count is = highest_at entry.1 k (next ∷ entries) first last (omega (arith, count)) is

pub highest_is : (cumulative : ℕ) (entries : List (ℕ × ℕ)) (first last : ℕ) → slice_get entries (length entries - 1) ≡ Some (first, last) → last ≡ highest cumulative (map range_of entries)
highest_is cumulative [] first last is = absurd (cc)
highest_is cumulative (entry ∷ entries) first last is = highest_at cumulative (length (entry ∷ entries) - 1) (entry ∷ entries) first last (omega arith) is
