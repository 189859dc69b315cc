use Rattle.dcsctp_delivery_directions.proofs.directions.Losing.{kept_ask_nothing}
use Rattle.dcsctp_delivery_directions.proofs.directions_laws.kept_ask_nothing.Goals as goal

pub returns : goal.returns
returns c = kept_ask_nothing
