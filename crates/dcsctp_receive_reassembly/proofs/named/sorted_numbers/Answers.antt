-- Each turn adds a number, and sorting moves them.
use Rattle.std.proofs.Common.{◌∙◌, List, ℕ, subst, arith}
use Rattle.std.specs.List.Sorted.{IsPermutation}
use Rattle.dcsctp_receive_reassembly.proofs.NamedLemmas.{numbers_more, numbers_all}
use Rattle.dcsctp_receive_reassembly.proofs.named.sorted_numbers.Goals as goal

pub loop-id-init : goal.loop-id-init
loop-id-init c = c.in_ok-numbers.ensures.items

pub loop-id-preserved : goal.loop-id-preserved
loop-id-preserved c =
    c.in_ok-push.ensures.items ∙ numbers_more c.args.streams.now c.loop-id.id-index _ c.loop-id.numbers.items (omega arith) c.loop-id.invariant

pub returns : goal.returns
returns c =
    record {
      same = subst (λ (numbers : List ℕ). IsPermutation numbers c.sort.new.self.items) (c.loop-id.invariant ∙ numbers_all c.loop-id.id-index c.args.streams.now (omega arith)) c.sort.ensures.permutation;
      ascending = c.in_ok-sort.ensures.sorted;
    }
