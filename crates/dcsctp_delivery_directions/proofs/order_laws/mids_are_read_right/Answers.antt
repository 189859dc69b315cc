use Rattle.dcsctp_delivery_directions.proofs.order.Reading.{mids_are_read, numbers_are_fresh, parts_in_reach, skips_in_reach}
use Rattle.dcsctp_delivery_directions.proofs.order_laws.mids_are_read_right.Goals as goal

pub returns-clause-read : goal.returns-clause-read
returns-clause-read c = mids_are_read

pub returns-clause-fresh : goal.returns-clause-fresh
returns-clause-fresh c = numbers_are_fresh

pub returns-clause-parts : goal.returns-clause-parts
returns-clause-parts c = parts_in_reach

pub returns-clause-skips : goal.returns-clause-skips
returns-clause-skips c = skips_in_reach
