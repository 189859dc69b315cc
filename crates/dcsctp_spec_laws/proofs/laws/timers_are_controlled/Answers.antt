use Rattle.dcsctp_spec_laws.proofs.HeartbeatLemmas.{timer_controlled}
use Rattle.dcsctp_spec_laws.proofs.laws.timers_are_controlled.Goals as goal

pub returns : goal.returns
returns c = timer_controlled
