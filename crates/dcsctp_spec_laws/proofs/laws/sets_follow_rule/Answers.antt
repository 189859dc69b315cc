use Rattle.dcsctp_spec_laws.proofs.RangeLemmas.{sets_follow_rule}
use Rattle.dcsctp_spec_laws.proofs.laws.sets_follow_rule.Goals as goal

pub returns : goal.returns
returns c = sets_follow_rule
