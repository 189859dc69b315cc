-- What is received follows the rule, since the lemmas on ranges say so.
use Rattle.std.proofs.Common.{◌≡◌, ℕ, ◌≤◌, nat_le, true, List, ap, arith, cond}
use Rattle.std.proofs.lemmas.Bool.Decides.{nat_tests}
use Rattle.dcsctp_spec_lemmas.specs.types.declared.tracking.TsnRange.{TsnRange}
use Rattle.dcsctp_spec_lemmas.specs.spec.queues.Ranges.{ReceivedTsns, all_to, reaching, forwarded_ranges}
use Rattle.dcsctp_spec_lemmas.proofs.RangesLemmas.{same_numbers, next_missing, received_is, received_only, forwarded_is, forwarded_only}
use Rattle.dcsctp_spec_laws.specs.RangeLaws.{SetsFollowRule}

both_same : (one other : ℕ) (ranges others : List TsnRange) → one ≡ other → ranges ≡ others → all_to one ranges ≡ all_to other others
both_same one other ranges others same same_ranges = cc

same_set : (cumulative : ℕ) (ranges : List TsnRange) (r : ReceivedTsns) → (cumulative ≡ r.cumulative) × (ranges ≡ r.ranges) → all_to cumulative ranges ≡ r
same_set cumulative ranges r same = both_same cumulative r.cumulative ranges r.ranges same.0 same.1

not_ahead : (number cumulative : ℕ) (ranges : List TsnRange) → number ≤ cumulative → forwarded_ranges number cumulative ranges ≡ all_to cumulative ranges
not_ahead number cumulative ranges within =
    let is : nat_le number cumulative ≡ true = grind (arith, nat_tests) in
    ap (λ b. cond b (all_to cumulative ranges) (reaching number ranges)) is

pub sets_follow_rule : SetsFollowRule
sets_follow_rule =
    record {
      canonical = same_numbers;
      first_missing = next_missing;
      receives = received_is;
      receives_only = λ number cumulative old is_new reached new beyond takes. same_set reached new _
          (received_only number cumulative old is_new reached new beyond takes);
      moves = forwarded_is;
      moves_only = λ number cumulative old reached new above beyond takes. same_set reached new _
          (forwarded_only number cumulative old reached new above beyond takes);
      stays = not_ahead;
    }
