use Rattle.dcsctp_theorem_transfer.proofs.Packing.{sockets_fit_packets}
use Rattle.dcsctp_theorem_transfer.proofs.laws.sockets_fit_packets.Goals as goal

pub returns : goal.returns
returns c = sockets_fit_packets c.sockets_keep_options.ensures
