use Rattle.dcsctp_delivery_sockets.proofs.turns.Sides.{steps_go_on, actions_send, actions_receive}
use Rattle.dcsctp_delivery_sockets.proofs.turns_laws.actions_are_steps.Goals as goal

pub returns-clause-more : goal.returns-clause-more
returns-clause-more c = steps_go_on

pub returns-clause-sends : goal.returns-clause-sends
returns-clause-sends c = actions_send

pub returns-clause-receives : goal.returns-clause-receives
returns-clause-receives c = actions_receive
