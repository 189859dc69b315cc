-- What data that comes leaves of a tracker.
use Rattle.std.proofs.Common.{◌≡◌, ◌≤◌, ◌<◌, ◌+◌, ◌-◌, ◌%◌, ◌^◌, ◌==◌, ℕ, nat_lt, nat_le, Bool, true, false, ◌&&◌, ◌||◌, refl, sym, ap, ◌∙◌, subst, arith}
use Rattle.std.proofs.lemmas.Bool.Decides.{nat_tests}
use Rattle.dcsctp_spec_lemmas.specs.types.declared.tracking.AckState.{AckState}
use Rattle.dcsctp_spec_lemmas.specs.types.declared.tracking.AckState.TheVariants.{Idle, BecomingDelayed, Delayed, Immediate}
use Rattle.dcsctp_spec_lemmas.specs.spec.endpoint.Outcome.{behind}
use Rattle.dcsctp_spec_lemmas.specs.spec.endpoint.TransferMoves.{dropping, ReceivesIfRoom}
use Rattle.dcsctp_spec_lemmas.specs.spec.queues.Arrivals.{Arrival}
use Rattle.dcsctp_spec_lemmas.specs.spec.queues.Ranges.{is_number_covered, is_received}
use Rattle.dcsctp_spec_lemmas.specs.spec.queues.Tracker.{TrackerState, nearest_number, has_received, is_valid_tsn, after_arrival, tracker_after_data}
use Rattle.dcsctp_spec_lemmas.specs.spec.queues.Transfer.{Transfer}
use Rattle.dcsctp_spec_lemmas.proofs.RangesLemmas.{received_members, received_is}
use Rattle.dcsctp_spec_laws.specs.SackLaws.{IsTracked}
use Rattle.dcsctp_spec_laws.proofs.TrackedLemmas.{trackers_stay_tracked}

-- ---- what a tracker has received

-- Data came since the last SACK, and isn't delayed yet.
abbrev pub HasJustCome : AckState → Type 0
HasJustCome Idle = ⊥
HasJustCome BecomingDelayed = Unit {0}
HasJustCome Delayed = ⊥
HasJustCome Immediate = Unit {0}

pub arrival_comes : (state : AckState) (urgent : Bool) → HasJustCome (after_arrival state urgent)
arrival_comes Idle true = tt
arrival_comes BecomingDelayed true = tt
arrival_comes Delayed true = tt
arrival_comes Immediate true = tt
arrival_comes Idle false = tt
arrival_comes BecomingDelayed false = tt
arrival_comes Delayed false = tt
arrival_comes Immediate false = tt

-- It has received nothing from this number on.
abbrev pub HasReceivedBelow : ℕ → TrackerState → Type 0
HasReceivedBelow bound tracker = (number : ℕ) → has_received tracker number ≡ true → number < bound

pub cumulative_below : (bound : ℕ) (tracker : TrackerState) → HasReceivedBelow bound tracker → tracker.cumulative < bound
cumulative_below bound tracker below =
    let itself : nat_le tracker.cumulative tracker.cumulative ≡ true = grind (arith, nat_tests) in
    below tracker.cumulative (ap (λ (b : Bool). b || is_number_covered tracker.cumulative tracker.ranges) itself)

-- What data leaves of a tracker, where nothing comes from this number on.
pub record Follows (bound : ℕ) (old new : TrackerState) : Type 0 where
  pub follows : new.follows_rfc ≡ true
  pub tracked : IsTracked new
  pub below : HasReceivedBelow bound new
  pub on : old.cumulative ≤ new.cumulative
  pub comes : HasJustCome old.acknowledgement → HasJustCome new.acknowledgement

pub follows_itself : (bound : ℕ) (tracker : TrackerState) → tracker.follows_rfc ≡ true → IsTracked tracker → HasReceivedBelow bound tracker → Follows bound tracker tracker
follows_itself bound tracker follows tracked below = record { follows = follows; tracked = tracked; below = below; on = omega arith; comes = λ comes. comes }

or_split : (a b : Bool) → (a || b) ≡ true → (b ≡ false → a ≡ true)
or_split true b is none = refl
or_split false b is none = absurd (let both : true ≡ false = sym is ∙ none in cc)

-- Data was received whose number is below that.
observed : (bound tsn : ℕ) (immediate : Bool) (tracker : TrackerState) → tracker.follows_rfc ≡ true → IsTracked tracker → HasReceivedBelow bound tracker → is_valid_tsn tracker.cumulative tsn ≡ true
    → nearest_number tracker.cumulative tsn < bound → Follows bound tracker (tracker_after_data tsn immediate tracker)
observed bound tsn immediate tracker follows tracked below valid near =
    record {
      follows = follows;
      tracked = trackers_stay_tracked.observes tsn immediate tracker valid tracked;
      below = λ other received. below_by other (other == nearest_number tracker.cumulative tsn) refl
          (sym (received_members (nearest_number tracker.cumulative tsn) tracker.cumulative tracker.ranges tracked.beyond other) ∙ received);
      on = (received_is (nearest_number tracker.cumulative tsn) tracker.cumulative tracker.ranges tracked.beyond).forward;
      comes = λ comes. arrival_comes tracker.acknowledgement _;
    }
  where
    below_by : (other : ℕ) (b : Bool) → (other == nearest_number tracker.cumulative tsn) ≡ b → (is_received tracker.cumulative other tracker.ranges || b) ≡ true → other < bound
    below_by other true is some = grind (arith, nat_tests, is, near)
    below_by other false is some = below other (or_split (is_received tracker.cumulative other tracker.ranges) false some refl)

-- so of data that is received or dropped
dropped : (b : Bool) (bound : ℕ) (transfer : Transfer) → transfer.tracker.follows_rfc ≡ true → IsTracked transfer.tracker → HasReceivedBelow bound transfer.tracker
    → Follows bound transfer.tracker (dropping b transfer).tracker
dropped true bound transfer follows tracked below =
    record { follows = follows; tracked = record { beyond = tracked.beyond; near = tracked.near }; below = below; on = omega arith; comes = λ comes. tt }
dropped false bound transfer follows tracked below = follows_itself bound transfer.tracker follows tracked below

pub received_follows : (a b : Bool) (bound : ℕ) (arrival : Arrival) (old new : Transfer) → is_valid_tsn old.tracker.cumulative arrival.tsn ≡ b → old.tracker.follows_rfc ≡ true → IsTracked old.tracker
    → HasReceivedBelow bound old.tracker → nearest_number old.tracker.cumulative arrival.tsn < bound → ReceivesIfRoom (a && b) arrival old new → Follows bound old.tracker new.tracker
received_follows true true bound arrival old new valid follows tracked below near does =
    subst (λ (t : Transfer). Follows bound old.tracker t.tracker) (sym does.rest) (observed bound arrival.tsn arrival.immediate_ack old.tracker follows tracked below valid near)
received_follows true false bound arrival old new valid follows tracked below near does =
    subst (λ (t : Transfer). Follows bound old.tracker t.tracker) (sym does) (dropped (old.tracker.follows_rfc && is_valid_tsn old.tracker.cumulative arrival.tsn) bound old follows tracked below)
received_follows false b bound arrival old new valid follows tracked below near does =
    subst (λ (t : Transfer). Follows bound old.tracker t.tracker) (sym does) (dropped (old.tracker.follows_rfc && is_valid_tsn old.tracker.cumulative arrival.tsn) bound old follows tracked below)

-- ---- numbers

-- The number that is nearest to the cumulative one, of a TSN that is a number of less than 2^31 beyond it, or at most so many before.
pub near_is : (cumulative number tsn : ℕ) → tsn ≡ number % 2 ^ 32 → number < cumulative + 2 ^ 31 → cumulative ≤ number + 2 ^ 31 → nearest_number cumulative tsn ≡ number
near_is cumulative number tsn is ahead behind = subst (λ (n : ℕ). nearest_number cumulative n ≡ number) (sym is) (go (nat_le cumulative number) refl)
  where
    ahead_of : cumulative ≤ number → (number % 2 ^ 32 + (2 ^ 32 - cumulative % 2 ^ 32)) % 2 ^ 32 ≡ number - cumulative
    ahead_of beyond = omega (arith, ahead, beyond)

    behind_of : number < cumulative → (number % 2 ^ 32 + (2 ^ 32 - cumulative % 2 ^ 32)) % 2 ^ 32 ≡ 2 ^ 32 - (cumulative - number)
    behind_of before = omega (arith, behind, before)

    go : (b : Bool) → nat_le cumulative number ≡ b → nearest_number cumulative (number % 2 ^ 32) ≡ number
    go true beyond =
        let le : cumulative ≤ number = grind (arith, nat_tests, beyond) in
        let distance = ahead_of le in
        let first : nat_lt (number - cumulative) (2 ^ 31) ≡ true = grind (arith, nat_tests, ahead, le) in
        rw distance (rw first (omega (arith, le)))
    go false before =
        let lt : number < cumulative = grind (arith, nat_tests, before) in
        let distance = behind_of lt in
        let second : nat_lt (2 ^ 32 - (cumulative - number)) (2 ^ 31) ≡ false = grind (arith, nat_tests, behind, lt) in
        rw distance (rw second (omega (arith, lt, behind)))
