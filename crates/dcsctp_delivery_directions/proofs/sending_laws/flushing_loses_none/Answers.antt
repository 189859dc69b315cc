use Rattle.dcsctp_delivery_directions.proofs.sending.Losing.{flushing_loses_none}
use Rattle.dcsctp_delivery_directions.proofs.sending_laws.flushing_loses_none.Goals as goal

pub returns : goal.returns
returns c = flushing_loses_none
