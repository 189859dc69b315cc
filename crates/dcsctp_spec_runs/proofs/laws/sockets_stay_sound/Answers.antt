use Rattle.dcsctp_spec_runs.proofs.SoundRuns.{sockets_stay_sound}
use Rattle.dcsctp_spec_runs.proofs.laws.sockets_stay_sound.Goals as goal

pub returns : goal.returns
returns c = sockets_stay_sound
