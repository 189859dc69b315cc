-- The functions on sets of TSNs give the one set that the rule allows (RFC 9260, section 6.2; RFC 3758, section 3.6).
use Rattle.std.specs.Prelude.{◌≡◌, ℕ, ◌+◌, ◌<◌, ◌≤◌, Bool, false, not, List}
use Rattle.dcsctp_spec_lemmas.specs.types.declared.tracking.TsnRange.{TsnRange}
use Rattle.dcsctp_spec_lemmas.specs.spec.queues.Ranges.{IsBeyond, is_received, ReceivesNumber, MovesForwardTo, all_to, ranges_with_number, forwarded_ranges}

-- For every cumulative number, ranges beyond it and number:
pub record SetsFollowRule : Type 0 where
  -- A set has one form: the same numbers have the same cumulative number and the same ranges.
  pub canonical : (one other : ℕ) (ranges others : List TsnRange) → IsBeyond one ranges → IsBeyond other others
      → ((number : ℕ) → is_received one number ranges ≡ is_received other number others) → (one ≡ other) × (ranges ≡ others)
  -- The cumulative number is the last before the first that is missing.
  pub first_missing : (cumulative : ℕ) (ranges : List TsnRange) → IsBeyond cumulative ranges → is_received cumulative (cumulative + 1) ranges ≡ false
  -- Once the number is received, the set is what the rule says,
  pub receives : (number cumulative : ℕ) (ranges : List TsnRange) → IsBeyond cumulative ranges
      → ReceivesNumber number cumulative ranges (not (is_received cumulative number ranges))
      (ranges_with_number number cumulative ranges).cumulative (ranges_with_number number cumulative ranges).ranges
  -- and the rule allows no other one.
  pub receives_only : (number cumulative : ℕ) (old : List TsnRange) (is_new : Bool) (reached : ℕ) (new : List TsnRange) → IsBeyond cumulative old
      → ReceivesNumber number cumulative old is_new reached new → all_to reached new ≡ ranges_with_number number cumulative old
  -- Once all up to a number that is ahead count as received, the set is what the rule says,
  pub moves : (number cumulative : ℕ) (ranges : List TsnRange) → cumulative < number → IsBeyond cumulative ranges
      → MovesForwardTo number ranges (forwarded_ranges number cumulative ranges).cumulative (forwarded_ranges number cumulative ranges).ranges
  -- and the rule allows no other one.
  pub moves_only : (number cumulative : ℕ) (old : List TsnRange) (reached : ℕ) (new : List TsnRange) → cumulative < number → IsBeyond cumulative old
      → MovesForwardTo number old reached new → all_to reached new ≡ forwarded_ranges number cumulative old
  -- A number that isn't ahead changes nothing.
  pub stays : (number cumulative : ℕ) (ranges : List TsnRange) → number ≤ cumulative → forwarded_ranges number cumulative ranges ≡ all_to cumulative ranges
