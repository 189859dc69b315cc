use Rattle.dcsctp_delivery_directions.proofs.epochs.PauseRuns.{directions_cut_by_calls}
use Rattle.dcsctp_delivery_directions.proofs.epochs_laws.directions_cut_by_calls.Goals as goal

pub returns : goal.returns
returns c = directions_cut_by_calls
