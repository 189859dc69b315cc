use Rattle.dcsctp_theorem_transfer.proofs.Taking.{data_is_taken}
use Rattle.dcsctp_theorem_transfer.proofs.laws.data_is_taken.Goals as goal

pub returns : goal.returns
returns c = data_is_taken
