use Rattle.dcsctp_delivery_sockets.proofs.turns.Turns.{turns_are_actions}
use Rattle.dcsctp_delivery_sockets.proofs.turns_laws.turns_are_actions.Goals as goal

pub returns : goal.returns
returns c = turns_are_actions
