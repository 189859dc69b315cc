use Rattle.dcsctp_spec_runs.proofs.LawLemmas.{negotiation_is_mutual}
use Rattle.dcsctp_spec_runs.proofs.laws.negotiation_is_mutual.Goals as goal

pub returns : goal.returns
returns c = negotiation_is_mutual
