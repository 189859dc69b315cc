use Rattle.dcsctp_theorem_association.proofs.Alone.{sides_run_alone}
use Rattle.dcsctp_theorem_association.proofs.laws.sides_run_alone.Goals as goal

pub returns : goal.returns
returns c = sides_run_alone
