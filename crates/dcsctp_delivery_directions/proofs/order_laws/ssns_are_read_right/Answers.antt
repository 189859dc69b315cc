use Rattle.dcsctp_delivery_directions.proofs.order.Reach.{ssns_are_read, skipped_ssns_are_read}
use Rattle.dcsctp_delivery_directions.proofs.order_laws.ssns_are_read_right.Goals as goal

pub returns-clause-data : goal.returns-clause-data
returns-clause-data c = λ on_it number handled cumulative next n turns has. ssns_are_read on_it number handled cumulative next turns has n

pub returns-clause-skipped : goal.returns-clause-skipped
returns-clause-skipped c = λ on_it number handled cumulative next passed n turns has few forward on inside last. skipped_ssns_are_read on_it number handled cumulative next turns has few passed n forward on inside last
