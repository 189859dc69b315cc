use Rattle.std.proofs.Common.{◌∙◌}
use Rattle.dcsctp_core_resets.proofs.StreamLemmas.{slices_same}
use Rattle.dcsctp_core_resets.proofs.handling.are_same.Goals as goal

pub returns : goal.returns
returns c = c.eq.ensures ∙ slices_same c.args.one.now c.args.other.now
