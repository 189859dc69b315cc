use Rattle.dcsctp_wire_laws.proofs.ReadsBack.{built_packet_reads_back}
use Rattle.dcsctp_wire_laws.proofs.laws.built_packet_reads_back.Goals as goal

pub returns : goal.returns
returns c = built_packet_reads_back
