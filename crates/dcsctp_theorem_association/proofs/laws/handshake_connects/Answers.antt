use Rattle.dcsctp_theorem_association.proofs.InTurnLemmas.{handshake_connects}
use Rattle.dcsctp_theorem_association.proofs.laws.handshake_connects.Goals as goal

pub returns : goal.returns
returns c = handshake_connects c.answer_keeps_agreement.ensures
