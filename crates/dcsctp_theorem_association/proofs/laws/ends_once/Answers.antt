use Rattle.dcsctp_theorem_association.proofs.OneSideEnds.{ends_once}
use Rattle.dcsctp_theorem_association.proofs.laws.ends_once.Goals as goal

pub returns : goal.returns
returns c = ends_once
