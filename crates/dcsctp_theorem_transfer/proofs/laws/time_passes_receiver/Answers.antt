use Rattle.dcsctp_theorem_transfer.proofs.Ticking.{time_passes_receiver}
use Rattle.dcsctp_theorem_transfer.proofs.laws.time_passes_receiver.Goals as goal

pub returns : goal.returns
returns c = time_passes_receiver
