use Rattle.dcsctp_theorem_transfer.proofs.Leaving.{data_leaves}
use Rattle.dcsctp_theorem_transfer.proofs.laws.data_leaves.Goals as goal

pub returns : goal.returns
returns c = data_leaves
