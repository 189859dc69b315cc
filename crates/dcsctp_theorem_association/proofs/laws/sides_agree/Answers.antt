use Rattle.dcsctp_theorem_association.proofs.Agreement.{sides_agree}
use Rattle.dcsctp_theorem_association.proofs.laws.sides_agree.Goals as goal

pub returns : goal.returns
returns c = sides_agree c.answer_keeps_agreement.ensures c.effects_in_place.ensures c.sides_run_alone.ensures
