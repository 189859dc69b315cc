use Rattle.std.proofs.Common.{arith}
use Rattle.dcsctp_session.proofs.CopyingLemmas.{written_next}
use Rattle.dcsctp_session.proofs.copying.copy_streams.Goals as goal

-- src/copying.rt:32:5
pub loop-i-preserved : goal.loop-i-preserved
loop-i-preserved c = written_next c.args.ids.now c.args.buffer.now c.loop-i.buffer c.loop-i.i (record { 0 = 0 }) c.loop-i.invariant c.loop-i-test.true (grind arith)
