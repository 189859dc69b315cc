use Rattle.dcsctp_delivery_directions.proofs.receiving.Ready.{holds_on}
use Rattle.dcsctp_delivery_directions.proofs.receiving_laws.ready_was_queued.Goals as goal

pub returns : goal.returns
returns c = holds_on
