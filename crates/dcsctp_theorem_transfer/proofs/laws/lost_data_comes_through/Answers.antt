use Rattle.dcsctp_theorem_transfer.proofs.Recovering.{lost_data_comes_through}
use Rattle.dcsctp_theorem_transfer.proofs.laws.lost_data_comes_through.Goals as goal

pub returns : goal.returns
returns c = lost_data_comes_through c.sacks_fit.ensures
