use Rattle.dcsctp_spec_laws.proofs.SoundTurns.{calls_keep_soundness}
use Rattle.dcsctp_spec_laws.proofs.laws.calls_keep_soundness.Goals as goal

pub returns : goal.returns
returns c = calls_keep_soundness
