use Rattle.dcsctp_wire_laws.proofs.ReadFitsPackets.{read_packet_fits}
use Rattle.dcsctp_wire_laws.proofs.laws.read_packet_fits.Goals as goal

pub returns : goal.returns
returns c = read_packet_fits
