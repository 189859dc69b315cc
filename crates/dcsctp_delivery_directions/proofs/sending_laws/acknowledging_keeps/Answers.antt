use Rattle.dcsctp_delivery_directions.proofs.sending.Acknowledged.{acknowledged_bear, lost_bear}
use Rattle.dcsctp_delivery_directions.proofs.sending_laws.acknowledging_keeps.Goals as goal

pub returns-clause-acknowledged : goal.returns-clause-acknowledged
returns-clause-acknowledged c = acknowledged_bear

pub returns-clause-lost : goal.returns-clause-lost
returns-clause-lost c = lost_bear
