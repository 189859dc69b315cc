-- The bit of the stream is set, and the others stay.
use Rattle.std.proofs.Common.{arith}
use Rattle.dcsctp_types.proofs.StreamTableLemmas.{marked}
use Rattle.dcsctp_types.proofs.stream_table.StreamTable.mark.Goals as goal

pub returns : goal.returns
returns c = λ number. marked c.args.self.now.words c.from.result c.args.id number c.from.ensures (omega arith)
