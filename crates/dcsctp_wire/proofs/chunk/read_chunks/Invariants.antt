use Rattle.std.proofs.Common.{List, ◌++◌, length, map}
use Rattle.dcsctp_wire.specs.Content.{ChunkContent, chunk_content}
use Rattle.dcsctp_wire.specs.Format.{AreChunks}
use Rattle.dcsctp_wire.proofs.chunk.read_chunks.Given as goal

-- what was read, and then what is still to be read
abbrev pub invariant-loop-rest : goal.invariant-loop-rest
invariant-loop-rest l = record {
  found : (qs : List ChunkContent) → AreChunks qs l.rest → AreChunks (map chunk_content l.chunks.items ++ qs) l.bytes;
  only : (ps : List ChunkContent) → AreChunks ps l.bytes → (qs : List ChunkContent) × AreChunks qs l.rest;
}

abbrev pub decreases-loop-rest : goal.decreases-loop-rest
decreases-loop-rest l = length l.rest
