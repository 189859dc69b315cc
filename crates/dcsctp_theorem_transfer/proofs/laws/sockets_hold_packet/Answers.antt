use Rattle.dcsctp_theorem_transfer.proofs.Wide.{sockets_hold_packet}
use Rattle.dcsctp_theorem_transfer.proofs.laws.sockets_hold_packet.Goals as goal

pub returns : goal.returns
returns c = sockets_hold_packet c.sockets_keep_options.ensures
