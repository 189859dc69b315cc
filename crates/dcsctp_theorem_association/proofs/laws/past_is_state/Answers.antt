use Rattle.dcsctp_theorem_association.proofs.OneSideTurns.{past_is_state}
use Rattle.dcsctp_theorem_association.proofs.laws.past_is_state.Goals as goal

pub returns : goal.returns
returns c = past_is_state
