use Rattle.std.proofs.Common.{arith}
use Rattle.dcsctp_wire.specs.Content.{chunk_content}
use Rattle.dcsctp_wire.proofs.Lengths.{length-chunk_bytes}
use Rattle.dcsctp_wire.proofs.chunk.Chunk.serialized_size.Goals as goal

pub returns : goal.returns
returns c = omega (arith, length-chunk_bytes (chunk_content c.args.self.now))
