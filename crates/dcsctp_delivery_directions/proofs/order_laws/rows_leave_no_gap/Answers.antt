use Rattle.dcsctp_delivery_directions.proofs.order.Gaps.{new_filled, rows_fill, filled_no_gap}
use Rattle.dcsctp_delivery_directions.proofs.order_laws.rows_leave_no_gap.Goals as goal

pub returns-clause-new : goal.returns-clause-new
returns-clause-new c = new_filled

pub returns-clause-rows : goal.returns-clause-rows
returns-clause-rows c = rows_fill

pub returns-clause-no_gap : goal.returns-clause-no_gap
returns-clause-no_gap c = filled_no_gap
