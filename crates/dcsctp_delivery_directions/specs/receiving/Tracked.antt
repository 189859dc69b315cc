-- The data tracker distinguishes new TSNs from received ones, while fewer than 2^31 are assigned (RFC
-- 9260, sections 1.6 and 6.2).
use Rattle.std.specs.Prelude.{◌≡◌, ◌<◌, ◌≤◌, ◌+◌, ◌-◌, ◌%◌, ◌^◌, ℕ, Bool, true, List, ◌∷◌}
use Rattle.dcsctp_spec_lemmas.specs.spec.queues.Numbers.{number_near}
use Rattle.dcsctp_spec_lemmas.specs.spec.queues.Ranges.{IsBeyond}
use Rattle.dcsctp_spec_lemmas.specs.spec.queues.Tracker.{TrackerState, has_received, is_new_tsn, tracker_after_data, is_forward, after_forward}
use Rattle.dcsctp_delivery_directions.specs.sending.Places.{HasEntry}

-- the number that the tracker has for the TSN of this offset from the first
abbrev pub tracked_number : ℕ → ℕ → ℕ
tracked_number first offset = (first + (2 ^ 32 - 1)) % 2 ^ 32 + 1 + offset

-- So many TSNs were assigned. Each that was taken counts as received, and none does that wasn't assigned.
pub record Tracks (first count : ℕ) (taken : List ℕ) (tracker : TrackerState) : Type 0 where
  pub beyond : IsBeyond tracker.cumulative tracker.ranges
  pub reached : tracker.cumulative + 1 ≤ tracked_number first count
  pub started : tracked_number first 0 ≤ tracker.cumulative + 1
  pub sent : (number : ℕ) → has_received tracker number ≡ true → number + 1 ≤ tracked_number first count
  pub received : (offset : ℕ) → HasEntry offset taken → has_received tracker (tracked_number first offset) ≡ true

-- A TSN that is new wasn't taken before, and is taken from now on.
abbrev pub NewTsnsAreNew : Type 0
NewTsnsAreNew =
    (first count offset : ℕ) (immediate : Bool) (taken : List ℕ) (tracker : TrackerState) → first < 2 ^ 32 → count < 2 ^ 31 → offset < count → Tracks first count taken tracker
    → Tracks first count (offset ∷ taken) (tracker_after_data ((first + offset) % 2 ^ 32) immediate tracker)
    × (is_new_tsn ((first + offset) % 2 ^ 32) tracker ≡ true → HasEntry offset taken → ⊥)

-- What a FORWARD-TSN passes counts as received.
abbrev pub PassingKeeps : Type 0
PassingKeeps =
    (first count offset : ℕ) (taken : List ℕ) (tracker : TrackerState) → first < 2 ^ 32 → count < 2 ^ 31 → offset < count → Tracks first count taken tracker
    → is_forward tracker.cumulative ((first + offset) % 2 ^ 32) ≡ true
    → Tracks first count taken (after_forward ((first + offset) % 2 ^ 32) tracker)

-- More TSNs may be assigned.
abbrev pub MoreAreAssigned : Type 0
MoreAreAssigned = (first count more : ℕ) (taken : List ℕ) (tracker : TrackerState) → count ≤ more → Tracks first count taken tracker → Tracks first more taken tracker

-- The reassembly queue finds the number of a TSN. That of the first, `base`, is fixed by the first TSN that is handled.
abbrev pub TsnsAreRead : Type 0
TsnsAreRead =
    (base worked offset : ℕ) → worked < 2 ^ 31 → offset < 2 ^ 31 → base + 2 ^ 32 < 2 ^ 64
    → number_near (base + worked) ((base + offset) % 2 ^ 32) ≡ base + offset
