-- Timers that run in every run of two sockets, whatever bytes they are handed.
use Rattle.std.specs.Prelude.{List}
use Rattle.dcsctp_spec_lemmas.specs.types.declared.options.Options.{Options}
use Rattle.dcsctp_spec_lemmas.specs.types.declared.schedule.Side.{Side}
use Rattle.dcsctp_spec_runs.specs.Deadlines.{T1Runs}
use Rattle.dcsctp_spec_lemmas.specs.spec.endpoint.Endpoint.{Endpoint}
use Rattle.dcsctp_spec_runs.specs.Sockets.{PerformedAct, Both, of_side, turns_after, endpoint_after, SocketRun}
use Rattle.dcsctp_theorem_sockets.specs.Agreement.{AreUsable}

-- If the socket awaits an INIT ACK or a COOKIE ACK, T1 runs.
pub record RunsT1 (e : Endpoint) : Type 0 where
  pub runs : T1Runs e.core e.timers.t1

-- Whatever is lost, a socket that connects has a next deadline (RFC 9260, section 5.1).
abbrev pub SocketsRunT1 : Type 0
SocketsRunT1 =
    (options : Both Options) (run : List PerformedAct) → AreUsable options → SocketRun options run → (side : Side)
    → RunsT1 (endpoint_after (of_side side options) (of_side side (turns_after run)))
