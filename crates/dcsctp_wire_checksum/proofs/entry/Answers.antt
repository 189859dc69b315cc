-- The entry is the table's, which the checker has computed.
use Rattle.std.proofs.Common.{arith}
use Rattle.dcsctp_wire_checksum.proofs.Crc32cTable.{table_entry}
use Rattle.dcsctp_wire_checksum.proofs.entry.Goals as goal

pub returns : goal.returns
returns c = table_entry c.args.zeros c.args.byte _ _ c.requires (omega arith)
