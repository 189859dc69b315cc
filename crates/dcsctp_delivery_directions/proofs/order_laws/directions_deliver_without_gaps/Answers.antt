use Rattle.dcsctp_delivery_directions.proofs.order.StreamDirections.{directions_deliver_without_gaps}
use Rattle.dcsctp_delivery_directions.proofs.order_laws.directions_deliver_without_gaps.Goals as goal

pub returns : goal.returns
returns c = directions_deliver_without_gaps
