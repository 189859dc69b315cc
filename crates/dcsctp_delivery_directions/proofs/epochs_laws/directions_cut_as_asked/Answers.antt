use Rattle.dcsctp_delivery_directions.proofs.epochs.CutsAsked.{directions_cut_as_asked}
use Rattle.dcsctp_delivery_directions.proofs.epochs_laws.directions_cut_as_asked.Goals as goal

pub returns : goal.returns
returns c = directions_cut_as_asked
