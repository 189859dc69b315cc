use Rattle.dcsctp_delivery_directions.proofs.directions.Marking.{directions_deliver_for_good}
use Rattle.dcsctp_delivery_directions.proofs.directions_laws.directions_deliver_for_good.Goals as goal

pub returns : goal.returns
returns c = directions_deliver_for_good
