use Rattle.dcsctp_delivery_directions.proofs.order.PlainFront.{plain_streams_deliver_without_gaps}
use Rattle.dcsctp_delivery_directions.proofs.order_laws.plain_streams_deliver_without_gaps.Goals as goal

pub returns : goal.returns
returns c = plain_streams_deliver_without_gaps
