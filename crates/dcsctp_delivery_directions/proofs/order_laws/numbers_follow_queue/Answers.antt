use Rattle.dcsctp_delivery_directions.proofs.order.Queue.{handing_follows}
use Rattle.dcsctp_delivery_directions.proofs.order_laws.numbers_follow_queue.Goals as goal

pub returns : goal.returns
returns c = handing_follows
