use Rattle.dcsctp_delivery_directions.proofs.directions.Reached.{acknowledgements_are_true}
use Rattle.dcsctp_delivery_directions.proofs.directions_laws.acknowledgements_are_true.Goals as goal

pub returns : goal.returns
returns c = acknowledgements_are_true
