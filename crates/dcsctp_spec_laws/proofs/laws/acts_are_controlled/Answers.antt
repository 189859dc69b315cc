use Rattle.dcsctp_spec_laws.proofs.ControlLemmas.{acts_are_controlled}
use Rattle.dcsctp_spec_laws.proofs.laws.acts_are_controlled.Goals as goal

pub returns : goal.returns
returns c = acts_are_controlled
