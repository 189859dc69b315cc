use Rattle.dcsctp_theorem_transfer.proofs.TimedRuns.{sockets_run_t3}
use Rattle.dcsctp_theorem_transfer.proofs.laws.sockets_run_t3.Goals as goal

pub returns : goal.returns
returns c = sockets_run_t3
