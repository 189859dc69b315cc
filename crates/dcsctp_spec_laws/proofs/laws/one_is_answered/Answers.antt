use Rattle.dcsctp_spec_laws.proofs.AnswerLemmas.{one_is_answered}
use Rattle.dcsctp_spec_laws.proofs.laws.one_is_answered.Goals as goal

pub returns : goal.returns
returns c = one_is_answered
