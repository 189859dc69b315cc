use Rattle.dcsctp_theorem_transfer.proofs.SettledRuns.{sockets_owe_in_time}
use Rattle.dcsctp_theorem_transfer.proofs.laws.sockets_owe_in_time.Goals as goal

pub returns : goal.returns
returns c = sockets_owe_in_time c.chunks_are_controlled.ensures
