use Rattle.std.proofs.Common.{arith}
use Rattle.dcsctp_wire.proofs.CleanBlockLemmas.{behind_a_gap, without_gap}
use Rattle.dcsctp_wire.proofs.chunk.clean_blocks.add_block.Goals as goal

pub returns-then-touches-clause-added : goal.returns-then-touches-clause-added
returns-then-touches-clause-added c = rw c.max.ensures (without_gap _ _ _ c.requires (grind (arith, c.touches.ensures, c.if-touches.true)))

pub returns-clause-added : goal.returns-clause-added
returns-clause-added c = rw c.in_ok-push.ensures.items (behind_a_gap _ _ _ c.requires (grind (arith, c.touches.ensures, c.if-touches.false)))
