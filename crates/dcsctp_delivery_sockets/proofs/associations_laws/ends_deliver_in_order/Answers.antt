use Rattle.dcsctp_delivery_sockets.proofs.associations.InOrder.{ends_deliver_in_order, ends_deliver_data_in_order}
use Rattle.dcsctp_delivery_sockets.proofs.associations_laws.ends_deliver_in_order.Goals as goal

pub returns-clause-interleaved : goal.returns-clause-interleaved
returns-clause-interleaved c = ends_deliver_in_order

pub returns-clause-plain : goal.returns-clause-plain
returns-clause-plain c = ends_deliver_data_in_order
