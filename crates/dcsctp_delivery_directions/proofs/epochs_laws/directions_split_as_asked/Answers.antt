use Rattle.dcsctp_delivery_directions.proofs.epochs.SplitInTurn.{directions_split_in_turn}
use Rattle.dcsctp_delivery_directions.proofs.epochs.SplitRuns.{directions_split_as_asked}
use Rattle.dcsctp_delivery_directions.proofs.epochs_laws.directions_split_as_asked.Goals as goal

pub returns-clause-any_run : goal.returns-clause-any_run
returns-clause-any_run c = directions_split_as_asked

pub returns-clause-in_turn : goal.returns-clause-in_turn
returns-clause-in_turn c = directions_split_in_turn
