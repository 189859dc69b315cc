use Rattle.std.proofs.Common.{rules}
use Rattle.dcsctp_wire_checksum.specs.Crc32c.{crc32c_of}
use Rattle.dcsctp_wire_checksum.proofs.crc32c.Goals as goal

pub returns : goal.returns
unfolding crc32c_of
returns c = search rules
