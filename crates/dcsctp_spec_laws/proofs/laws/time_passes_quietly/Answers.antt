use Rattle.dcsctp_spec_laws.proofs.TimerLemmas.{time_passes_quietly}
use Rattle.dcsctp_spec_laws.proofs.laws.time_passes_quietly.Goals as goal

pub returns : goal.returns
returns c = time_passes_quietly
