use Rattle.dcsctp_theorem_transfer.proofs.ResendingLosses.{lost_data_is_sent_again}
use Rattle.dcsctp_theorem_transfer.proofs.laws.lost_data_is_sent_again.Goals as goal

pub returns : goal.returns
returns c = lost_data_is_sent_again
