use Rattle.std.proofs.Common.{◌≡◌, false, List, [], take}
use Rattle.dcsctp_core.specs.spec.endpoint.CallTurns.{Transition, ChunkTurns}
use Rattle.dcsctp_spec_laws.proofs.TurnLemmas.{GoOn}
use Rattle.dcsctp_core.specs.View.{core_of, endpoint_of, view_of, MovesAll}
use Rattle.dcsctp_core_ends.specs.Shutdown.{is_open_core}
use Rattle.dcsctp_socket_calls.proofs.AckLoop.{acks_of}
use Rattle.dcsctp_socket_calls.proofs.calls.handle_shutdown_acks.Given as goal

-- the turns of the SHUTDOWN ACK chunks so far
abbrev pub invariant-loop-chunk : goal.invariant-loop-chunk
invariant-loop-chunk g l = record {
  turns : List Transition;
  goes_on : GoOn turns;
  are : ChunkTurns (endpoint_of l.fn.context) l.packet.common_header.verification_tag (acks_of (take l.chunk-index l.chunk-items)) [] turns;
  moves : MovesAll g.R.Rng.stream (view_of l.fn.context) turns (view_of l.context);
  shut : is_open_core (core_of l.context.state) ≡ false;
}
