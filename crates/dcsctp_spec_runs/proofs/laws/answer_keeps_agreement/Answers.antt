use Rattle.dcsctp_spec_runs.proofs.LawLemmas.{answer_keeps_agreement}
use Rattle.dcsctp_spec_runs.proofs.laws.answer_keeps_agreement.Goals as goal

pub returns : goal.returns
returns c = answer_keeps_agreement
