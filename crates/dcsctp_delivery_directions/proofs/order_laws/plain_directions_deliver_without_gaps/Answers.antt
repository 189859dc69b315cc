use Rattle.dcsctp_delivery_directions.proofs.order.PlainFront.{plain_directions_deliver_without_gaps}
use Rattle.dcsctp_delivery_directions.proofs.order_laws.plain_directions_deliver_without_gaps.Goals as goal

pub returns : goal.returns
returns c = plain_directions_deliver_without_gaps
