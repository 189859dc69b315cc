use Rattle.dcsctp_spec_runs.proofs.DeliveryLemmas.{deliveries_are_controlled}
use Rattle.dcsctp_spec_runs.proofs.laws.deliveries_are_controlled.Goals as goal

pub returns : goal.returns
returns c = deliveries_are_controlled c.packets_are_controlled.ensures c.admitted_packets_may_be_worked.ensures
