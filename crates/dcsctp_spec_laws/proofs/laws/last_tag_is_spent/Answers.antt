use Rattle.dcsctp_spec_laws.proofs.LastTagLemmas.{last_tag_stays, last_tag_is_spent}
use Rattle.dcsctp_spec_laws.proofs.laws.last_tag_is_spent.Goals as goal

pub returns-clause-stays : goal.returns-clause-stays
returns-clause-stays c = last_tag_stays

pub returns-clause-spent : goal.returns-clause-spent
returns-clause-spent c = last_tag_is_spent
