use Rattle.dcsctp_delivery_directions.proofs.epochs.AskedSending.{directions_send_as_asked}
use Rattle.dcsctp_delivery_directions.proofs.epochs_laws.directions_send_as_asked.Goals as goal

pub returns : goal.returns
returns c = directions_send_as_asked
