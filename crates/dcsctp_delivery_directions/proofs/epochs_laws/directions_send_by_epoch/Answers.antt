use Rattle.dcsctp_delivery_directions.proofs.epochs.SendingRuns.{directions_send_by_epoch}
use Rattle.dcsctp_delivery_directions.proofs.epochs_laws.directions_send_by_epoch.Goals as goal

pub returns : goal.returns
returns c = directions_send_by_epoch
