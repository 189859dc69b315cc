-- What is dropped is no longer counted.
use Rattle.std.proofs.Common.{arith}
use Rattle.dcsctp_receive_reassembly.proofs.incoming.Incoming.drop_unordered.Goals as goal

pub returns-clause-used : goal.returns-clause-used
returns-clause-used c = λ within. omega (arith, within, c.saturating_sub-self.ensures, c.drop_up_to-dropped.ensures.size.0, c.drop_up_to-dropped.ensures.size.1)
