use Rattle.dcsctp_theorem_sockets.proofs.BurstTurns.{sockets_keep_bursts}
use Rattle.dcsctp_theorem_sockets.proofs.laws.sockets_keep_bursts.Goals as goal

pub returns : goal.returns
returns c = sockets_keep_bursts
