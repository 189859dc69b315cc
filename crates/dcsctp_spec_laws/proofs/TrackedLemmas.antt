-- What a tracker holds stays a set of TSNs none of which is too far ahead.
use Rattle.std.proofs.Common.{◌≡◌, ℕ, ◌==◌, ◌+◌, ◌<◌, ◌≤◌, nat_le, nat_lt, Bool, true, false, ◌||◌, ◌&&◌, cond, refl, arith}
use Rattle.std.proofs.lemmas.Bool.Decides.{nat_tests}
use Rattle.dcsctp_spec_lemmas.specs.spec.queues.Ranges.{is_number_covered, ranges_with_number, forwarded_ranges}
use Rattle.dcsctp_spec_lemmas.specs.spec.queues.Tracker.{TrackerState, nearest_number, tracker_after_data, is_valid_tsn, has_numbers_left, is_forward, moved_forward, delay_over, greatest_distance}
use Rattle.dcsctp_spec_lemmas.proofs.RangesLemmas.{received_is, forwarded_is}
use Rattle.dcsctp_spec_laws.specs.SackLaws.{IsTracked, TrackersStayTracked}

-- What is in the new ranges was in the old ones, or is the number that was received.
near_received : (cumulative reached number other : ℕ) (in_old in_new : Bool) → cumulative ≤ reached → number ≤ cumulative + greatest_distance
    → (in_old ≡ true → other ≤ cumulative + greatest_distance)
    → (nat_le other reached || in_new) ≡ ((nat_le other cumulative || in_old) || (other == number)) → in_new ≡ true
    → other ≤ reached + greatest_distance
near_received cumulative reached number other in_old in_new forward valid near members is =
    grind
    (arith, nat_tests, forward, valid, near, members, is)

near_moved : (cumulative reached number other : ℕ) (in_old in_new : Bool) → cumulative < number → number ≤ reached
    → (in_old ≡ true → other ≤ cumulative + greatest_distance)
    → (nat_le other reached || in_new) ≡ (nat_le other number || in_old) → in_new ≡ true → other ≤ reached + greatest_distance
near_moved cumulative reached number other in_old in_new ahead forward near members is = grind (arith, nat_tests, ahead, forward, near, members, is)

valid_is_near : (cumulative number : ℕ) (left : Bool) → (left && nat_le number (cumulative + greatest_distance)) ≡ true
    → number ≤ cumulative + greatest_distance
valid_is_near cumulative number true is = grind (arith, nat_tests, is)
valid_is_near cumulative number false is = absurd (cc)

forward_is_ahead : (cumulative number : ℕ) (left : Bool) → (left && nat_lt cumulative number) ≡ true → cumulative < number
forward_is_ahead cumulative number true is = grind (arith, nat_tests, is)
forward_is_ahead cumulative number false is = absurd (cc)

observed_tracked : (tsn : ℕ) (immediate : Bool) (tracker : TrackerState) → is_valid_tsn tracker.cumulative tsn ≡ true → IsTracked tracker
    → IsTracked (tracker_after_data tsn immediate tracker)
observed_tracked tsn immediate tracker valid tracked =
    let number : ℕ = nearest_number tracker.cumulative tsn in
    let takes = received_is number tracker.cumulative tracker.ranges tracked.beyond in
    let near_one = valid_is_near tracker.cumulative number (has_numbers_left tracker.cumulative) valid in
    record {
      beyond = takes.beyond;
      near = λ other is.
          near_received tracker.cumulative (ranges_with_number number tracker.cumulative tracker.ranges).cumulative number other (is_number_covered other tracker.ranges)
          (is_number_covered other (ranges_with_number number tracker.cumulative tracker.ranges).ranges)
          takes.forward near_one (tracked.near other) (takes.members other) is;
    }

forward_tracked : (tsn : ℕ) (tracker : TrackerState) (b : Bool) → is_forward tracker.cumulative tsn ≡ b → IsTracked tracker
    → IsTracked (cond b (moved_forward tsn tracker) (delay_over tracker))
forward_tracked tsn tracker false is tracked = record { beyond = tracked.beyond; near = tracked.near }
forward_tracked tsn tracker true is tracked =
    let number : ℕ = nearest_number tracker.cumulative tsn in
    let ahead = forward_is_ahead tracker.cumulative number (has_numbers_left tracker.cumulative) is in
    let takes = forwarded_is number tracker.cumulative tracker.ranges ahead tracked.beyond in
    record {
      beyond = takes.beyond;
      near = λ other here.
          near_moved tracker.cumulative (forwarded_ranges number tracker.cumulative tracker.ranges).cumulative number other (is_number_covered other tracker.ranges)
          (is_number_covered other (forwarded_ranges number tracker.cumulative tracker.ranges).ranges)
          ahead takes.forward (tracked.near other) (takes.members other) here;
    }

pub trackers_stay_tracked : TrackersStayTracked
trackers_stay_tracked =
    record {
      begins = λ options first. record { beyond = tt; near = λ number is. absurd (cc) };
      observes = observed_tracked;
      forwards = λ tsn tracker tracked. forward_tracked tsn tracker (is_forward tracker.cumulative tsn) refl tracked;
    }
