use Rattle.dcsctp_spec_runs.proofs.ReadBackLemmas.{refused_packet_adds_one_error}
use Rattle.dcsctp_spec_runs.proofs.laws.refused_packet_adds_one_error.Goals as goal

pub returns : goal.returns
returns c = refused_packet_adds_one_error c.one_reading.ensures
