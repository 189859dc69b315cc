use Rattle.dcsctp_delivery_directions.proofs.order.PlainComplete.{plain_streams_arrive}
use Rattle.dcsctp_delivery_directions.proofs.order_laws.plain_streams_arrive.Goals as goal

pub returns : goal.returns
returns c = plain_streams_arrive
