-- Stream sequence numbers are read right.
use Rattle.std.proofs.Common.{◌≡◌, ℕ, Bool, true, false, ◌<◌, ◌≤◌, ◌+◌, ◌%◌, ◌^◌, sym, ◌∙◌, ap, arith, inl, inr}
use Rattle.std.proofs.lemmas.Bool.Decides.{nat_tests, leb_tells}
use Rattle.dcsctp_spec_lemmas.specs.spec.queues.Numbers.{short_number_near, short_number_from}
use Rattle.dcsctp_delivery_directions.specs.order.Reach.{TakesTurns, HasTurns, FewFrom}

from_exact : (next number : ℕ) → next ≤ number → number < next + 2 ^ 16 → number + 1 < 2 ^ 64 → short_number_from next (number % 2 ^ 16) ≡ number
from_exact next number low high small = grind (arith, nat_tests)

pub near_exact : (next number : ℕ) → number < next + 2 ^ 15 → next ≤ number + 2 ^ 15 → number + 1 < 2 ^ 64 → 2 ^ 16 ≤ next → short_number_near next (number % 2 ^ 16) ≡ number
near_exact next number low high small room = grind (arith, nat_tests)

-- it agrees with the number of the sender
agrees : (number : ℕ) → number % 2 ^ 16 ≡ (2 ^ 32 + number) % 2 ^ 16
agrees number = omega arith

module _ (on_it : ℕ → Bool) (number : ℕ → ℕ) (handled : ℕ → Bool) (cumulative next : ℕ) (turns : TakesTurns on_it number) (has : HasTurns on_it number handled cumulative next) where
  clash : (n : ℕ) → handled n ≡ true → handled n ≡ false → ⊥
  clash n is isnt = (let both : true ≡ false = sym is ∙ isnt in absurd (cc))

  -- what wasn't handled lies from the cumulative TSN on
  beyond : (n : ℕ) → (handled n ≡ false) → cumulative ≤ n
  beyond n new = elim (leb_tells cumulative n) [ inl e ↦ e.1 | inr e ↦ absurd (clash n (has.passed n e.1) new) ]

  -- of an earlier message it comes earlier
  before : (m n : ℕ) → (on_it m ≡ true) → (on_it n ≡ true) → number m < number n → m < n
  before m n on on' less = elim (leb_tells n m) [
    | inl e ↦ absurd (let up = turns.ascend n m on' on e.1 in omega (arith, up, less))
    | inr e ↦ e.1
  ]

  within : (n : ℕ) → (on_it n ≡ true) → (handled n ≡ false) → n < cumulative + 2 ^ 16 → (next ≤ 2 ^ 32 + number n) × (2 ^ 32 + number n < next + 2 ^ 16)
  within n on new ahead = (
    elim (leb_tells next (2 ^ 32 + number n)) [
      | inl e ↦ e.1
      | inr e ↦ absurd (clash n (has.done n on (let less : 2 ^ 32 + number n < next = e.1 in omega (arith, less))) new)
    ],
    elim (leb_tells (2 ^ 32 + number n) next) [
      | inl e ↦ (let low : 2 ^ 32 + number n ≤ next = e.1 in omega (arith, low))
      | inr e ↦
          (let more : next < 2 ^ 32 + number n = e.1 in
          let lacks = has.lacks n on (omega (arith, more)) in
          let is = lacks.2 in
          let less = before lacks.0 n lacks.1 on (omega (arith, more, is)) in
          let climbs = turns.climb lacks.0 n lacks.1 on (omega (arith, less)) in
          let from = beyond lacks.0 lacks.3 in
          omega (arith, climbs, from, ahead, is, less))
    ],
  )

  pub ssns_are_read : (n : ℕ) → (on_it n ≡ true) → (handled n ≡ false) → n < cumulative + 2 ^ 16 → short_number_from next (number n % 2 ^ 16) ≡ 2 ^ 32 + number n
  ssns_are_read n on new ahead =
      let inside = within n on new ahead in
      let few = turns.few n on in
      ap (short_number_from next) (agrees (number n)) ∙ from_exact next (2 ^ 32 + number n) inside.0 inside.1 (omega (arith, few))

  -- ---- a message that is skipped

  module _ (few_from : FewFrom on_it number cumulative) (passed n : ℕ) (forward : cumulative ≤ passed) (on : (on_it n ≡ true)) (inside : n < passed) (last : (m : ℕ) → (on_it m ≡ true) → m < passed → number m ≤ number n) where
    later : (m : ℕ) → (on_it m ≡ true) → number n < number m → cumulative ≤ m
    later m on' more = elim (leb_tells passed m) [
      | inl e ↦ (let up : passed ≤ m = e.1 in omega (arith, up, forward))
      | inr e ↦ absurd (let up = last m on' e.1 in omega (arith, up, more))
    ]

    not_far_back : next ≤ 2 ^ 32 + number n + 2 ^ 15
    not_far_back = elim has.begun [
      | inl is ↦ omega (arith, is)
      | inr b ↦
          (let is = b.2 in
          elim (leb_tells (number b.0) (number n)) [
            | inl e ↦ (let low : number b.0 ≤ number n = e.1 in omega (arith, low, is))
            | inr e ↦
                (let more : number n < number b.0 = e.1 in
                let first = turns.each b.0 (number n + 1) b.1 (omega (arith, more)) in
                let first_is = first.2 in
                let few = few_from first.0 b.0 first.1 b.1 (later first.0 first.1 (omega (arith, first_is))) (later b.0 b.1 more) in
                omega (arith, few, first_is, is))
          ])
    ]

    not_far_ahead : 2 ^ 32 + number n < next + 2 ^ 15
    not_far_ahead = elim (leb_tells (2 ^ 32 + number n) next) [
      | inl e ↦ (let low : 2 ^ 32 + number n ≤ next = e.1 in omega (arith, low))
      | inr e ↦
          (let more : next < 2 ^ 32 + number n = e.1 in
          let lacks = has.lacks n on (omega (arith, more)) in
          let is = lacks.2 in
          let less = before lacks.0 n lacks.1 on (omega (arith, more, is)) in
          let from = beyond lacks.0 lacks.3 in
          let few = few_from lacks.0 n lacks.1 on from (omega (arith, from, less)) in
          omega (arith, few, is))
    ]

    pub skipped_ssns_are_read : short_number_near next (number n % 2 ^ 16) ≡ 2 ^ 32 + number n
    skipped_ssns_are_read =
        let few = turns.few n on in
        let room = has.from in
        ap (short_number_near next) (agrees (number n)) ∙ near_exact next (2 ^ 32 + number n) not_far_ahead not_far_back (omega (arith, few)) (omega (arith, room))
