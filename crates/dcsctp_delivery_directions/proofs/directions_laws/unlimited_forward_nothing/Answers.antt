use Rattle.dcsctp_delivery_directions.proofs.directions.Forwards.{unlimited_forward_nothing}
use Rattle.dcsctp_delivery_directions.proofs.directions_laws.unlimited_forward_nothing.Goals as goal

pub returns : goal.returns
returns c = unlimited_forward_nothing
