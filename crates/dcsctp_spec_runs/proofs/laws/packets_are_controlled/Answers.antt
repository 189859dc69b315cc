use Rattle.dcsctp_spec_runs.proofs.DeliveryLemmas.{packets_are_controlled}
use Rattle.dcsctp_spec_runs.proofs.laws.packets_are_controlled.Goals as goal

pub returns : goal.returns
returns c = packets_are_controlled c.chunks_are_controlled.ensures
