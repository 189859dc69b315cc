use Rattle.dcsctp_core.proofs.RelistLemmas.{relist_tells}
use Rattle.dcsctp_core.proofs.deadlines.relist_tells.Goals as goal

pub returns : goal.returns
returns c = relist_tells
