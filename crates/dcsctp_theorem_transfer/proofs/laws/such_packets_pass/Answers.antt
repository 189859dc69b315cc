use Rattle.dcsctp_theorem_transfer.proofs.Passing.{such_packets_pass}
use Rattle.dcsctp_theorem_transfer.proofs.laws.such_packets_pass.Goals as goal

pub returns : goal.returns
returns c = such_packets_pass
