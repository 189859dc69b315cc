use Rattle.dcsctp_theorem_association.proofs.OneSideTurns.{effects_in_place}
use Rattle.dcsctp_theorem_association.proofs.laws.effects_in_place.Goals as goal

pub returns : goal.returns
returns c = effects_in_place
