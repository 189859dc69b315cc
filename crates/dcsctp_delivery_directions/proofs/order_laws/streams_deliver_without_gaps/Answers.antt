use Rattle.dcsctp_delivery_directions.proofs.order.StreamDirections.{streams_deliver_without_gaps}
use Rattle.dcsctp_delivery_directions.proofs.order_laws.streams_deliver_without_gaps.Goals as goal

pub returns : goal.returns
returns c = streams_deliver_without_gaps
