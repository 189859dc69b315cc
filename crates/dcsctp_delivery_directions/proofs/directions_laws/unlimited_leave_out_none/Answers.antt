use Rattle.dcsctp_delivery_directions.proofs.directions.Losing.{unlimited_leave_out_none}
use Rattle.dcsctp_delivery_directions.proofs.directions_laws.unlimited_leave_out_none.Goals as goal

pub returns : goal.returns
returns c = unlimited_leave_out_none
