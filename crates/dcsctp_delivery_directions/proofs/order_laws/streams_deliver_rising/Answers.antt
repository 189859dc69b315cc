use Rattle.dcsctp_delivery_directions.proofs.order.Rising.{parts_deliver_rows, skips_deliver_rising, streams_deliver_rising, streams_deliver_rows}
use Rattle.dcsctp_delivery_directions.proofs.order_laws.streams_deliver_rising.Goals as goal

pub returns-clause-parts : goal.returns-clause-parts
returns-clause-parts c = parts_deliver_rows

pub returns-clause-skips : goal.returns-clause-skips
returns-clause-skips c = skips_deliver_rising

pub returns-clause-rising : goal.returns-clause-rising
returns-clause-rising c = streams_deliver_rising

pub returns-clause-rows : goal.returns-clause-rows
returns-clause-rows c = streams_deliver_rows
