use Rattle.dcsctp_wire_laws.proofs.ReadsBack.{built_packet_reads_as_itself}
use Rattle.dcsctp_wire_laws.proofs.laws.built_packet_reads_as_itself.Goals as goal

pub returns : goal.returns
returns c = built_packet_reads_as_itself
