use Rattle.dcsctp_delivery_directions.proofs.epochs.DeliveringRuns.{directions_deliver_by_epoch}
use Rattle.dcsctp_delivery_directions.proofs.epochs_laws.directions_deliver_by_epoch.Goals as goal

pub returns : goal.returns
returns c = directions_deliver_by_epoch
