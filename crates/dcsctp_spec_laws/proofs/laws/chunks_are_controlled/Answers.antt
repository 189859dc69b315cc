use Rattle.dcsctp_spec_laws.proofs.ControlLemmas.{chunks_are_controlled}
use Rattle.dcsctp_spec_laws.proofs.laws.chunks_are_controlled.Goals as goal

pub returns : goal.returns
returns c = chunks_are_controlled
