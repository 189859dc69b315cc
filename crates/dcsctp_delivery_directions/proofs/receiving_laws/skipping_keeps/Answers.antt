use Rattle.dcsctp_delivery_directions.proofs.receiving.Skipping.{skips_on}
use Rattle.dcsctp_delivery_directions.proofs.receiving_laws.skipping_keeps.Goals as goal

pub returns : goal.returns
returns c = λ queued history got base tsn read. skips_on queued history got base read tsn
