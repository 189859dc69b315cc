use Rattle.dcsctp_wire.proofs.Packets.{same_packet}
use Rattle.dcsctp_wire.proofs.packet.one_reading.Goals as goal

pub returns : goal.returns
returns c = same_packet
