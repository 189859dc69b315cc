use Rattle.std.proofs.Common.{◌≡◌, ◌||◌, map, drop}
use Rattle.std.specs.Option.{option_or}
use Rattle.dcsctp_core.specs.wire.Content.{chunk_content}
use Rattle.dcsctp_core.specs.spec.Packet.{content_of_chunk}
use Rattle.dcsctp_core.specs.spec.Admission.{first_abort, first_shutdown_complete, has_shutdown_ack}
use Rattle.dcsctp_socket_calls.proofs.admission.ending_chunks.Given as goal

-- The first of each kind was found, or is among the chunks that are left.
abbrev pub invariant-loop-chunk : goal.invariant-loop-chunk
invariant-loop-chunk l =
    record {
      abort : option_or l.abort (first_abort (map content_of_chunk (map chunk_content (drop l.chunk-index l.chunks)))) ≡ first_abort (map content_of_chunk (map chunk_content l.chunks));
      shutdown_complete : option_or l.shutdown_complete (first_shutdown_complete (map content_of_chunk (map chunk_content (drop l.chunk-index l.chunks)))) ≡ first_shutdown_complete (map content_of_chunk (map chunk_content l.chunks));
      shutdown_ack : (l.shutdown_ack || has_shutdown_ack (map content_of_chunk (map chunk_content (drop l.chunk-index l.chunks)))) ≡ has_shutdown_ack (map content_of_chunk (map chunk_content l.chunks));
    }
