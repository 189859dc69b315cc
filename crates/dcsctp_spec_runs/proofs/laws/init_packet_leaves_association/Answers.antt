use Rattle.dcsctp_spec_runs.proofs.InitPacketLemmas.{init_packet_leaves_association}
use Rattle.dcsctp_spec_runs.proofs.laws.init_packet_leaves_association.Goals as goal

pub returns : goal.returns
returns c = init_packet_leaves_association
