use Rattle.dcsctp_delivery_directions.proofs.order.Sending.{handing_loses_none, sends_in_turn}
use Rattle.dcsctp_delivery_directions.proofs.order_laws.sending_loses_none.Goals as goal

pub returns-clause-handing : goal.returns-clause-handing
returns-clause-handing c = handing_loses_none

pub returns-clause-in_turn : goal.returns-clause-in_turn
returns-clause-in_turn c = sends_in_turn
