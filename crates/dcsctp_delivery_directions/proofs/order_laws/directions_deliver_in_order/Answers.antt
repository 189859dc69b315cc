use Rattle.dcsctp_delivery_directions.proofs.order.Directions.{directions_deliver_in_order}
use Rattle.dcsctp_delivery_directions.proofs.order_laws.directions_deliver_in_order.Goals as goal

pub returns : goal.returns
returns c = directions_deliver_in_order
