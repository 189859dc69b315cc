use Rattle.dcsctp_spec_laws.proofs.SackBlockLemmas.{sacks_fit}
use Rattle.dcsctp_spec_laws.proofs.laws.sacks_fit.Goals as goal

pub returns : goal.returns
returns c = sacks_fit
