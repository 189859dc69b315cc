use Rattle.dcsctp_delivery_directions.proofs.directions.Directions.{directions_deliver}
use Rattle.dcsctp_delivery_directions.proofs.directions_laws.directions_deliver.Goals as goal

pub returns : goal.returns
returns c = directions_deliver
