use Rattle.dcsctp_theorem_association.proofs.MeaningTurns.{effects_mean}
use Rattle.dcsctp_theorem_association.proofs.laws.effects_mean.Goals as goal

pub returns : goal.returns
returns c = effects_mean
