use Rattle.dcsctp_spec_laws.proofs.LeftTurns.{messages_left_stay}
use Rattle.dcsctp_spec_laws.proofs.laws.messages_left_stay.Goals as goal

pub returns : goal.returns
returns c = messages_left_stay
