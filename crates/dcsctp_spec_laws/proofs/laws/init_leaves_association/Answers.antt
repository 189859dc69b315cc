use Rattle.dcsctp_spec_laws.proofs.InitLemmas.{init_leaves_association}
use Rattle.dcsctp_spec_laws.proofs.laws.init_leaves_association.Goals as goal

pub returns : goal.returns
returns c = init_leaves_association
