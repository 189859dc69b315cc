use Rattle.dcsctp_spec_laws.proofs.SackBlockLemmas.{sacks_cover_received}
use Rattle.dcsctp_spec_laws.proofs.laws.sacks_cover_received.Goals as goal

pub returns : goal.returns
returns c = sacks_cover_received
