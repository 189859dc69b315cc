use Rattle.dcsctp_spec_runs.proofs.LawLemmas.{init_brings_one_packet}
use Rattle.dcsctp_spec_runs.proofs.laws.init_brings_one_packet.Goals as goal

pub returns : goal.returns
returns c = init_brings_one_packet
