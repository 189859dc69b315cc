use Rattle.dcsctp_theorem_sockets.proofs.T1Lemmas.{sockets_run_t1}
use Rattle.dcsctp_theorem_sockets.proofs.laws.sockets_run_t1.Goals as goal

pub returns : goal.returns
returns c = sockets_run_t1
