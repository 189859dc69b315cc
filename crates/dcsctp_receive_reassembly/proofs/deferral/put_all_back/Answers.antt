-- The last that was replaced is put back, and then those before it.
use Rattle.std.proofs.Common.{ℕ, List, sym, subst}
use Rattle.dcsctp_api.specs.types.declared.arrivals.SkippedTo.{SkippedTo}
use Rattle.dcsctp_receive_reassembly.specs.declared.deferral.Replaced.{Replaced}
use Rattle.dcsctp_receive_reassembly.specs.Skips.{WereReplaced}
use Rattle.dcsctp_receive_reassembly.proofs.SkipsLemmas.{WereReplaced-last}
use Rattle.dcsctp_receive_reassembly.proofs.deferral.put_all_back.Goals as goal

pub loop-one-preserved : goal.loop-one-preserved
loop-one-preserved c = λ before were.
    let last = WereReplaced-last c.pop.new.self.items c.in-Some.one before c.loop-one.kept.entries
    (subst (λ (items : List Replaced). WereReplaced items before c.loop-one.kept.entries) c.in-Some.ensures.items (c.loop-one.invariant before were)) in
    subst (λ (es : List (ℕ × SkippedTo)). WereReplaced c.pop.new.self.items before es) (sym (c.put_back.ensures last.0 last.2)) last.1
