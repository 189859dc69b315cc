-- What is dropped is no longer counted.
use Rattle.std.proofs.Common.{arith}
use Rattle.dcsctp_receive_reassembly.proofs.incoming.Incoming.reset_each_stream.Goals as goal

pub returns-clause-used : goal.returns-clause-used
returns-clause-used c =
    λ within.
    omega (
      arith,
      within,
      c.saturating_sub.ensures,
      c.saturating_sub-self.ensures,
      c.drop_streams-dropped.ensures.size.0,
      c.drop_streams-dropped.ensures.size.1,
      c.forget_each_stream-forgotten.ensures.used,
      c.forget_each_stream-forgotten.ensures.size,
    )
