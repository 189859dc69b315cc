use Rattle.dcsctp_theorem_transfer.proofs.Hearing.{sender_hears}
use Rattle.dcsctp_theorem_transfer.proofs.laws.sender_hears.Goals as goal

pub returns : goal.returns
returns c = sender_hears
