use Rattle.std.proofs.Common.{◌≡◌, map, drop}
use Rattle.dcsctp_core.specs.wire.Content.{chunk_content}
use Rattle.dcsctp_core.specs.spec.Packet.{content_of_chunk}
use Rattle.dcsctp_core.specs.spec.endpoint.Turn.{has_data_chunk}
use Rattle.dcsctp_socket_calls.proofs.calls.has_data.Given as goal

-- a DATA chunk, if there is one, is among the chunks that are left
abbrev pub invariant-loop-chunk : goal.invariant-loop-chunk
invariant-loop-chunk l = has_data_chunk l.follows_rfc (map content_of_chunk (map chunk_content (drop l.chunk-index l.chunks))) ≡ has_data_chunk l.follows_rfc (map content_of_chunk (map chunk_content l.chunks))
