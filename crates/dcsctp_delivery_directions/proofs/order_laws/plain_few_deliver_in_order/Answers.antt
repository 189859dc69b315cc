use Rattle.dcsctp_delivery_directions.proofs.order.FewDirections.{plain_few_deliver_in_order}
use Rattle.dcsctp_delivery_directions.proofs.order_laws.plain_few_deliver_in_order.Goals as goal

pub returns : goal.returns
returns c = plain_few_deliver_in_order
