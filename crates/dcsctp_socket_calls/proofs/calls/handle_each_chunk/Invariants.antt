use Rattle.std.proofs.Common.{List, [], take}
use Rattle.dcsctp_core.specs.spec.endpoint.CallTurns.{Transition, ChunkTurns}
use Rattle.dcsctp_spec_laws.proofs.TurnLemmas.{GoOn}
use Rattle.dcsctp_core.specs.View.{endpoint_of, view_of, MovesAll}
use Rattle.dcsctp_socket_calls.proofs.ChunkLoop.{contents_of}
use Rattle.dcsctp_socket_calls.proofs.calls.handle_each_chunk.Given as goal

-- the turns of the chunks so far
abbrev pub invariant-loop-chunk : goal.invariant-loop-chunk
invariant-loop-chunk g l = record {
  turns : List Transition;
  goes_on : GoOn turns;
  are : ChunkTurns (endpoint_of l.fn.context) l.packet.common_header.verification_tag (contents_of (take l.chunk-index l.chunk-items)) [] turns;
  moves : MovesAll g.R.Rng.stream (view_of l.fn.context) turns (view_of l.context);
}
