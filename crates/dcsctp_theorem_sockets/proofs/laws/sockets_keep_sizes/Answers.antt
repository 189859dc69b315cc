use Rattle.dcsctp_theorem_sockets.proofs.SizeLemmas.{sockets_keep_sizes}
use Rattle.dcsctp_theorem_sockets.proofs.laws.sockets_keep_sizes.Goals as goal

pub returns : goal.returns
returns c = sockets_keep_sizes
