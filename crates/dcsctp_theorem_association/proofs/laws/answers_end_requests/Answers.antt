use Rattle.dcsctp_theorem_association.proofs.AnswerEndsTurns.{answers_end_requests}
use Rattle.dcsctp_theorem_association.proofs.laws.answers_end_requests.Goals as goal

pub returns : goal.returns
returns c = answers_end_requests
