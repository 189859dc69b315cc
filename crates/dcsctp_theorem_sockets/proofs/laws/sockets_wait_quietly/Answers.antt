use Rattle.dcsctp_theorem_sockets.proofs.Quiet.{sockets_wait_quietly}
use Rattle.dcsctp_theorem_sockets.proofs.laws.sockets_wait_quietly.Goals as goal

pub returns : goal.returns
returns c = sockets_wait_quietly c.time_passes_quietly.ensures
