use Rattle.dcsctp_delivery_directions.proofs.order.Delivered.{read_is_in_order, read_is_front}
use Rattle.dcsctp_delivery_directions.proofs.order_laws.read_is_in_order.Goals as goal

pub returns-clause-ordered : goal.returns-clause-ordered
returns-clause-ordered c = read_is_in_order

pub returns-clause-without_gaps : goal.returns-clause-without_gaps
returns-clause-without_gaps c = read_is_front
