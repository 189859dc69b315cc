use Rattle.dcsctp_theorem_transfer.proofs.RecoveringBehind.{lost_data_comes_behind}
use Rattle.dcsctp_theorem_transfer.proofs.laws.lost_data_comes_behind.Goals as goal

pub returns : goal.returns
returns c = lost_data_comes_behind c.sacks_fit.ensures
