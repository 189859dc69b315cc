use Rattle.dcsctp_theorem_sockets.proofs.RestoredFlush.{restored_sockets_begin_nothing}
use Rattle.dcsctp_theorem_sockets.proofs.laws.restored_sockets_begin_nothing.Goals as goal

pub returns : goal.returns
returns c = restored_sockets_begin_nothing
