use Rattle.dcsctp_delivery_directions.proofs.receiving.Skipping.{resets_on}
use Rattle.dcsctp_delivery_directions.proofs.receiving_laws.resetting_keeps.Goals as goal

pub returns : goal.returns
returns c = λ queued history got base read. resets_on queued history got base read
