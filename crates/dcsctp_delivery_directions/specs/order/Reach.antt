-- How far stream sequence numbers reach, which have 16 bits (RFC 9260, section 3.3.1): they are read
-- right within the window of TSNs, and in a FORWARD-TSN (RFC 3758, section 3.2) where fewer than
-- 2^15 ordered messages of a stream are in flight.
use Rattle.std.specs.Prelude.{◌≡◌, ◌⊎◌, ◌<◌, ◌≤◌, ◌+◌, ◌-◌, ◌%◌, ◌^◌, ℕ, Bool, true, false}
use Rattle.dcsctp_spec_lemmas.specs.spec.queues.Numbers.{short_number_near, short_number_from}

-- The TSNs of the ordered messages of a stream since its last reset, as offsets from the first TSN. `number` counts the messages
-- that were begun before. They are begun in turn, and each takes one TSN at least.
pub record TakesTurns (on_it : ℕ → Bool) (number : ℕ → ℕ) : Type 0 where
  pub ascend : (m n : ℕ) → (on_it m ≡ true) → (on_it n ≡ true) → m ≤ n → number m ≤ number n
  pub climb : (m n : ℕ) → (on_it m ≡ true) → (on_it n ≡ true) → m ≤ n → number n ≤ number m + (n - m)
  pub each : (n k : ℕ) → (on_it n ≡ true) → k ≤ number n → (m : ℕ) × (on_it m ≡ true) × (number m ≡ k)
  pub few : (n : ℕ) → (on_it n ≡ true) → number n < 2 ^ 32

-- What a receiver has of them: it counts from 2^32 on, has handled these TSNs, and each before the cumulative one. It has
-- handled all TSNs of the messages before the next. Of the next one it lacks one TSN, if a later message was sent.
pub record HasTurns (on_it : ℕ → Bool) (number : ℕ → ℕ) (handled : ℕ → Bool) (cumulative next : ℕ) : Type 0 where
  pub passed : (n : ℕ) → n < cumulative → handled n ≡ true
  pub from : 2 ^ 32 ≤ next
  pub begun : (next ≡ 2 ^ 32) ⊎ ((n : ℕ) × (on_it n ≡ true) × (number n + 2 ^ 32 + 1 ≡ next))
  pub done : (n : ℕ) → (on_it n ≡ true) → number n + 2 ^ 32 < next → handled n ≡ true
  pub lacks : (n : ℕ) → (on_it n ≡ true) → next < number n + 2 ^ 32 → (m : ℕ) × (on_it m ≡ true) × (number m + 2 ^ 32 ≡ next) × (handled m ≡ false)

-- Fewer than 2^15 messages of the stream have a TSN from the cumulative one on.
abbrev pub FewFrom : (ℕ → Bool) → (ℕ → ℕ) → ℕ → Type 0
FewFrom on_it number cumulative = (m n : ℕ) → (on_it m ≡ true) → (on_it n ≡ true) → cumulative ≤ m → cumulative ≤ n → number n + 1 < number m + 2 ^ 15

-- A new TSN is at most 65,535 ahead, so its stream sequence number is read right.
abbrev pub SsnsAreReadRight : Type 0
SsnsAreReadRight =
    (on_it : ℕ → Bool) (number : ℕ → ℕ) (handled : ℕ → Bool) (cumulative next n : ℕ) → TakesTurns on_it number → HasTurns on_it number handled cumulative next
    → (on_it n ≡ true) → (handled n ≡ false) → n < cumulative + 2 ^ 16 → short_number_from next (number n % 2 ^ 16) ≡ 2 ^ 32 + number n

-- A FORWARD-TSN passes TSNs beyond the cumulative one. It names the last message that has one of them, and its number is read
-- right if few are in flight.
abbrev pub SkippedSsnsAreReadRight : Type 0
SkippedSsnsAreReadRight =
    (on_it : ℕ → Bool) (number : ℕ → ℕ) (handled : ℕ → Bool) (cumulative next passed n : ℕ) → TakesTurns on_it number → HasTurns on_it number handled cumulative next
    → FewFrom on_it number cumulative → cumulative ≤ passed → (on_it n ≡ true) → n < passed → ((m : ℕ) → (on_it m ≡ true) → m < passed → number m ≤ number n) → short_number_near next (number n % 2 ^ 16) ≡ 2 ^ 32 + number n
