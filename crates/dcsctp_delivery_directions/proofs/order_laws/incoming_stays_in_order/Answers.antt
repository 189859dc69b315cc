use Rattle.dcsctp_delivery_directions.proofs.order.Incoming.{beginning_in_order, resetting_in_order, taking_in_order, ordered_was_read, growing_in_order}
use Rattle.dcsctp_delivery_directions.proofs.order.Ready.{ready_in_order}
use Rattle.dcsctp_delivery_directions.proofs.order.Skipping.{skipping_in_order}
use Rattle.dcsctp_delivery_directions.proofs.order_laws.incoming_stays_in_order.Goals as goal

pub returns-clause-data : goal.returns-clause-data
returns-clause-data c = ready_in_order

pub returns-clause-skips : goal.returns-clause-skips
returns-clause-skips c = λ watch queued history quiet got base tsn read entries old new. skipping_in_order watch queued history quiet got base read tsn entries old new

pub returns-clause-resets : goal.returns-clause-resets
returns-clause-resets c = λ watch queued history quiet got base read streams old new. resetting_in_order watch queued history quiet got base read streams old new

pub returns-clause-grows : goal.returns-clause-grows
returns-clause-grows c = growing_in_order

pub returns-clause-takes : goal.returns-clause-takes
returns-clause-takes c = taking_in_order

pub returns-clause-read : goal.returns-clause-read
returns-clause-read c = ordered_was_read

pub returns-clause-begins : goal.returns-clause-begins
returns-clause-begins c = beginning_in_order
