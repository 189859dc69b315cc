use Rattle.dcsctp_delivery_directions.proofs.receiving.Clearing.{performing_clears}
use Rattle.dcsctp_delivery_directions.proofs.receiving.Raising.{raising_keeps}
use Rattle.dcsctp_delivery_directions.proofs.receiving_laws.resets_clear.Goals as goal

pub returns-clause-cleared : goal.returns-clause-cleared
returns-clause-cleared c = performing_clears

pub returns-clause-raised : goal.returns-clause-raised
returns-clause-raised c = raising_keeps
