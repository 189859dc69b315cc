-- Lemmas on received numbers.
use Rattle.std.proofs.Common.{◌≡◌, ◌==◌, ℕ, ◌+◌, ◌-◌, ◌<◌, ◌≤◌, nat_le, nat_lt, Bool, true, false, not, ◌||◌, cond, List, [], ◌∷◌, refl, sym, ◌∙◌, ap, arith}
use Rattle.std.proofs.lemmas.Bool.{cond_both}
use Rattle.std.proofs.lemmas.Bool.Decides.{nat_tests}
use Rattle.dcsctp_spec.specs.types.declared.tracking.TsnRange.{TsnRange}
use Rattle.dcsctp_spec.specs.queues.Ranges.{IsBeyond, is_number_covered, is_received, ReceivesNumber, MovesForwardTo, ReceivedTsns, tsn_range_of, put_before, put_among, reaching, ranges_with_number, forwarded_ranges}

-- ---- the numbers determine the ranges

-- a number that is missing before the ranges
missing : (cumulative from number : ℕ) (ranges : List TsnRange) → IsBeyond from ranges → cumulative < number → number ≤ from + 1 → is_received cumulative number ranges ≡ false
missing cumulative from number [] beyond above below = grind (arith, nat_tests)
missing cumulative from number (range ∷ ranges) beyond above below =
    grind (arith, nat_tests, missing cumulative range.last number ranges beyond.2 above (omega (arith, beyond.0, beyond.1)), beyond.0, beyond.1)

pub next_missing : (cumulative : ℕ) (ranges : List TsnRange) → IsBeyond cumulative ranges → is_received cumulative (cumulative + 1) ranges ≡ false
next_missing cumulative ranges beyond = missing cumulative cumulative (cumulative + 1) ranges beyond (omega arith) (omega arith)

abbrev Same : ℕ → ℕ → List TsnRange → List TsnRange → Type 0
Same c d xs ys = (other : ℕ) → is_received c other xs ≡ is_received d other ys

-- nothing is received right after the cumulative number
no_further : (c d : ℕ) (xs ys : List TsnRange) → IsBeyond c xs → Same c d xs ys → d ≤ c
no_further c d xs ys beyond same = grind (arith, nat_tests, missing c c (c + 1) xs beyond (omega arith) (omega arith), same (c + 1))

same_cumulative : (c d : ℕ) (xs ys : List TsnRange) → IsBeyond c xs → IsBeyond d ys → Same c d xs ys → c ≡ d
same_cumulative c d xs ys left right same = omega (arith, no_further c d xs ys left same, no_further d c ys xs right (λ other. sym (same other)))

-- nor before the first range
no_earlier : (c d : ℕ) (x y : TsnRange) (xs ys : List TsnRange) → IsBeyond c (x ∷ xs) → IsBeyond d (y ∷ ys) → c ≡ d → Same c d (x ∷ xs) (y ∷ ys) → y.first ≤ x.first
no_earlier c d x y xs ys left right at same =
    let none = λ (before : x.first < y.first). missing d (x.first - 1) x.first (y ∷ ys) (omega arith, right.1, right.2) (omega (arith, left.0)) (omega arith) in
    grind (arith, nat_tests, none, same x.first, left.1)

-- the numbers up to the end of the first range
from_end : (c : ℕ) (x : TsnRange) (xs : List TsnRange) → IsBeyond c (x ∷ xs) → (other : ℕ) → is_received x.last other xs ≡ (nat_le other x.first || is_received c other (x ∷ xs))
from_end c x xs beyond other = grind (arith, nat_tests, beyond.0, beyond.1)

joined_up : (a b a' b' : ℕ) (xs ys : List TsnRange) → a ≡ a' → b ≡ b' → xs ≡ ys → tsn_range_of a b ∷ xs ≡ tsn_range_of a' b' ∷ ys
joined_up a b a' b' xs ys first last rest = cc

pub same_numbers : (c d : ℕ) (xs ys : List TsnRange) → IsBeyond c xs → IsBeyond d ys → ((other : ℕ) → is_received c other xs ≡ is_received d other ys) → (c ≡ d) × (xs ≡ ys)
same_numbers c d [] [] left right same = (same_cumulative c d [] [] left right same, refl)
same_numbers c d [] (y ∷ ys) left right same = absurd (grind (arith, nat_tests, same_cumulative c d [] (y ∷ ys) left right same, same y.first, right.0, right.1))
same_numbers c d (x ∷ xs) [] left right same = absurd (grind (arith, nat_tests, same_cumulative c d (x ∷ xs) [] left right same, same x.first, left.0, left.1))
same_numbers c d (x ∷ xs) (y ∷ ys) left right same =
    let at : c ≡ d = same_cumulative c d (x ∷ xs) (y ∷ ys) left right same in
    let first : x.first ≡ y.first = omega (arith, no_earlier c d x y xs ys left right at same, no_earlier d c y x ys xs right left (sym at) (λ other. sym (same other))) in
    let rest = same_numbers x.last y.last xs ys left.2 right.2 (λ other.
    from_end c x xs left other
    ∙ ap (λ b. nat_le other x.first || b) (same other)
    ∙ ap (λ n. nat_le other n || is_received d other (y ∷ ys)) first
    ∙ sym (from_end d y ys right other)) in
    (at, joined_up x.first x.last y.first y.last xs ys first rest.0 rest.1)

-- ---- what the functions give

three_ways : {A : Type 0} (a b : Bool) (x y z : A) (P : A → Type 0) → (a ≡ true → P x) → (a ≡ false → b ≡ true → P y) → (a ≡ false → b ≡ false → P z) → P (cond a x (cond b y z))
three_ways a b x y z P first second third = cond_both a x (cond b y z) P first (λ no. cond_both b y z P (second no) (third no))

-- the ranges lie beyond the number, and these numbers are in them
abbrev Holds : ℕ → (ℕ → Bool) → List TsnRange → Type 0
Holds from members ranges = IsBeyond from ranges × ((other : ℕ) → is_number_covered other ranges ≡ members other)

-- the ranges lie beyond the cumulative number, and these numbers are received
abbrev Receives : (ℕ → Bool) → ReceivedTsns → Type 0
Receives members r = IsBeyond r.cumulative r.ranges × ((other : ℕ) → is_received r.cumulative other r.ranges ≡ members other)

reaching_receives : (from number : ℕ) (ranges : List TsnRange) → IsBeyond from ranges → Receives (λ other. nat_le other number || is_number_covered other ranges) (reaching number ranges)
reaching_receives from number [] beyond = (tt, λ other. refl)
reaching_receives from number (range ∷ ranges) beyond =
    let rest = reaching_receives range.last number ranges beyond.2 in
    three_ways (nat_lt (number + 1) range.first) (nat_le number range.last) _ _ _ (Receives (λ other. nat_le other number || is_number_covered other (range ∷ ranges)))
    (λ missing. ((grind (arith, nat_tests), beyond.1, beyond.2), λ other. refl))
    (λ touching held. (beyond.2, λ other. grind (arith, nat_tests)))
    (λ touching gone. (rest.0, λ other. grind (arith, nat_tests, rest.1 other)))

put_before_holds : (from to : ℕ) (range : TsnRange) (ranges : List TsnRange) → from + 1 < range.first → range.first ≤ range.last → range.last ≤ to + 1 → IsBeyond to ranges → Holds from (λ other. is_number_covered other (range ∷ ranges)) (put_before range ranges)
put_before_holds from to range [] above filled behind beyond = ((above, filled, tt), λ other. refl)
put_before_holds from to range (next ∷ ranges) above filled behind beyond =
    cond_both (next.first == range.last + 1) _ _ (Holds from (λ other. is_number_covered other (range ∷ (next ∷ ranges))))
    (λ touching. ((above, omega (arith, beyond.0, beyond.1), beyond.2), λ other. grind (arith, nat_tests, beyond.1)))
    (λ apart. ((above, filled, (grind (arith, nat_tests, beyond.0), beyond.1, beyond.2)), λ other. refl))

put_among_holds : (from number : ℕ) (ranges : List TsnRange) → IsBeyond from ranges → from + 1 < number → is_number_covered number ranges ≡ false → Holds from (λ other. is_number_covered other ranges || (other == number)) (put_among number ranges)
put_among_holds from number [] beyond above new = ((above, omega arith, tt), λ other. grind (arith, nat_tests))
put_among_holds from number (range ∷ ranges) beyond above new =
    three_ways (nat_lt number range.first) (number == range.last + 1) _ _ _ (Holds from (λ other. is_number_covered other (range ∷ ranges) || (other == number)))
    (λ before.
    let put = put_before_holds from (number - 1) (tsn_range_of number number) (range ∷ ranges) above (omega arith) (omega arith) (grind (arith, nat_tests), beyond.1, beyond.2) in
    (put.0, λ other. grind (arith, nat_tests, put.1 other)))
    (λ behind touching.
    let put = put_before_holds from range.last (tsn_range_of range.first number) ranges beyond.0 (grind (arith, nat_tests)) (grind (arith, nat_tests)) beyond.2 in
    (put.0, λ other. grind (arith, nat_tests, put.1 other, beyond.1)))
    (λ behind apart.
    let put = put_among_holds range.last number ranges beyond.2 (grind (arith, nat_tests)) (grind (arith, nat_tests)) in
    ((beyond.0, beyond.1, put.0), λ other. grind (arith, nat_tests, put.1 other)))

-- ---- a number is received

received_receives : (number cumulative : ℕ) (ranges : List TsnRange) → IsBeyond cumulative ranges → Receives (λ other. is_received cumulative other ranges || (other == number)) (ranges_with_number number cumulative ranges)
received_receives number cumulative ranges beyond =
    let reached = reaching_receives cumulative number ranges beyond in
    three_ways (is_received cumulative number ranges) (number == cumulative + 1) _ _ _ (Receives (λ other. is_received cumulative other ranges || (other == number)))
    (λ known. (beyond, λ other. grind (arith, nat_tests)))
    (λ new next. (reached.0, λ other. grind (arith, nat_tests, reached.1 other)))
    (λ new apart.
    let put = put_among_holds cumulative number ranges beyond (grind (arith, nat_tests)) (grind (arith, nat_tests)) in
    (put.0, λ other. grind (arith, nat_tests, put.1 other)))

pub received_beyond : (number cumulative : ℕ) (ranges : List TsnRange) → IsBeyond cumulative ranges → IsBeyond (ranges_with_number number cumulative ranges).cumulative (ranges_with_number number cumulative ranges).ranges
received_beyond number cumulative ranges beyond = (received_receives number cumulative ranges beyond).0

pub received_members : (number cumulative : ℕ) (ranges : List TsnRange) → IsBeyond cumulative ranges → (other : ℕ) → is_received (ranges_with_number number cumulative ranges).cumulative other (ranges_with_number number cumulative ranges).ranges ≡ (is_received cumulative other ranges || (other == number))
received_members number cumulative ranges beyond = (received_receives number cumulative ranges beyond).1

-- ---- all up to a number are received

forwarded_receives : (number cumulative : ℕ) (ranges : List TsnRange) → IsBeyond cumulative ranges → Receives (λ other. is_received cumulative other ranges || nat_le other number) (forwarded_ranges number cumulative ranges)
forwarded_receives number cumulative ranges beyond =
    let reached = reaching_receives cumulative number ranges beyond in
    cond_both (nat_le number cumulative) _ _ (Receives (λ other. is_received cumulative other ranges || nat_le other number))
    (λ known. (beyond, λ other. grind (arith, nat_tests)))
    (λ new. (reached.0, λ other. grind (arith, nat_tests, reached.1 other)))

pub forwarded_beyond : (number cumulative : ℕ) (ranges : List TsnRange) → IsBeyond cumulative ranges → IsBeyond (forwarded_ranges number cumulative ranges).cumulative (forwarded_ranges number cumulative ranges).ranges
forwarded_beyond number cumulative ranges beyond = (forwarded_receives number cumulative ranges beyond).0

-- Also a number that isn't above the cumulative one satisfies this.
pub forwarded_members : (number cumulative : ℕ) (ranges : List TsnRange) → cumulative < number → IsBeyond cumulative ranges → (other : ℕ) → is_received (forwarded_ranges number cumulative ranges).cumulative other (forwarded_ranges number cumulative ranges).ranges ≡ (is_received cumulative other ranges || nat_le other number)
forwarded_members number cumulative ranges _ beyond = (forwarded_receives number cumulative ranges beyond).1

-- ---- the rule

-- Where all up to a number are received, the cumulative number isn't below it.
not_below : (bound reached : ℕ) (ranges : List TsnRange) (members : ℕ → Bool) → IsBeyond reached ranges → ((other : ℕ) → is_received reached other ranges ≡ members other) → ((other : ℕ) → other ≤ bound → members other ≡ true) → bound ≤ reached
not_below bound reached ranges members beyond is all =
    let gap : is_received reached (reached + 1) ranges ≡ false = next_missing reached ranges beyond in
    go (members (reached + 1)) (sym (is (reached + 1)) ∙ gap) (all (reached + 1))
  where
    go : (b : Bool) → b ≡ false → (reached + 1 ≤ bound → b ≡ true) → bound ≤ reached
    go true here all_received = absurd (cc)
    go false here all_received = grind (arith, all_received)

up_to : (bound other : ℕ) (rest : Bool) → other ≤ bound → (nat_le other bound || rest) ≡ true
up_to bound other rest within = grind (arith, nat_tests)

-- The function gives what the rule allows,
pub received_is : (number cumulative : ℕ) (ranges : List TsnRange) → IsBeyond cumulative ranges
    → ReceivesNumber number cumulative ranges (not (is_received cumulative number ranges)) (ranges_with_number number cumulative ranges).cumulative (ranges_with_number number cumulative ranges).ranges
received_is number cumulative ranges beyond =
    let members = received_members number cumulative ranges beyond in
    let after = received_beyond number cumulative ranges beyond in
    record {
      answer = refl;
      forward = not_below cumulative (ranges_with_number number cumulative ranges).cumulative (ranges_with_number number cumulative ranges).ranges (λ other. is_received cumulative other ranges || (other == number)) after members
          (λ other within. ap (λ b. b || (other == number)) (up_to cumulative other (is_number_covered other ranges) within));
      beyond = after;
      members = members;
      known = unchanged (is_received cumulative number ranges) _ _;
    }
  where
    unchanged : (b : Bool) (kept other : ReceivedTsns) → not b ≡ false → ((cond b kept other).cumulative ≡ kept.cumulative) × ((cond b kept other).ranges ≡ kept.ranges)
    unchanged true kept other old = (refl, refl)
    unchanged false kept other old = absurd (cc)

-- and the rule allows nothing else.
pub received_only : (number cumulative : ℕ) (old : List TsnRange) (is_new : Bool) (reached : ℕ) (new : List TsnRange) → IsBeyond cumulative old → ReceivesNumber number cumulative old is_new reached new
    → (reached ≡ (ranges_with_number number cumulative old).cumulative) × (new ≡ (ranges_with_number number cumulative old).ranges)
received_only number cumulative old is_new reached new beyond takes =
    same_numbers reached (ranges_with_number number cumulative old).cumulative new (ranges_with_number number cumulative old).ranges takes.beyond (received_beyond number cumulative old beyond)
    (λ other. takes.members other ∙ sym (received_members number cumulative old beyond other))

-- The same where all up to a number count as received.
both_orders : (cumulative number other : ℕ) (b : Bool) → cumulative < number → ((nat_le other cumulative || b) || nat_le other number) ≡ (nat_le other number || b)
both_orders cumulative number other b above = grind (arith, nat_tests)

forwarded_numbers : (number cumulative : ℕ) (ranges : List TsnRange) → cumulative < number → IsBeyond cumulative ranges → (other : ℕ)
    → is_received (forwarded_ranges number cumulative ranges).cumulative other (forwarded_ranges number cumulative ranges).ranges ≡ is_received number other ranges
forwarded_numbers number cumulative ranges above beyond other = forwarded_members number cumulative ranges above beyond other ∙ both_orders cumulative number other (is_number_covered other ranges) above

pub forwarded_is : (number cumulative : ℕ) (ranges : List TsnRange) → cumulative < number → IsBeyond cumulative ranges
    → MovesForwardTo number ranges (forwarded_ranges number cumulative ranges).cumulative (forwarded_ranges number cumulative ranges).ranges
forwarded_is number cumulative ranges above beyond =
    let members = forwarded_numbers number cumulative ranges above beyond in
    let after = forwarded_beyond number cumulative ranges beyond in
    record {
      forward = not_below number (forwarded_ranges number cumulative ranges).cumulative (forwarded_ranges number cumulative ranges).ranges (λ other. is_received number other ranges) after members
          (λ other within. up_to number other (is_number_covered other ranges) within);
      beyond = after;
      members = members;
    }

pub forwarded_only : (number cumulative : ℕ) (old : List TsnRange) (reached : ℕ) (new : List TsnRange) → cumulative < number → IsBeyond cumulative old → MovesForwardTo number old reached new
    → (reached ≡ (forwarded_ranges number cumulative old).cumulative) × (new ≡ (forwarded_ranges number cumulative old).ranges)
forwarded_only number cumulative old reached new above beyond takes =
    same_numbers reached (forwarded_ranges number cumulative old).cumulative new (forwarded_ranges number cumulative old).ranges takes.beyond (forwarded_beyond number cumulative old beyond)
    (λ other. takes.members other ∙ sym (forwarded_numbers number cumulative old above beyond other))
