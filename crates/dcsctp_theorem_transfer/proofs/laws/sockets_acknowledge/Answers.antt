use Rattle.dcsctp_theorem_transfer.proofs.PacketEnds.{sockets_acknowledge}
use Rattle.dcsctp_theorem_transfer.proofs.laws.sockets_acknowledge.Goals as goal

pub returns : goal.returns
returns c = sockets_acknowledge c.sacks_fit.ensures
