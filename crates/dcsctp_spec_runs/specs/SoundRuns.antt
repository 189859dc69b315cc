-- Each socket of a run stays sound.
use Rattle.std.specs.Prelude.{List}
use Rattle.dcsctp_spec_lemmas.specs.types.declared.options.Options.{Options}
use Rattle.dcsctp_spec_lemmas.specs.types.declared.schedule.Side.{Side}
use Rattle.dcsctp_spec_runs.specs.Sockets.{Both, of_side, PerformedAct, SocketRun, turns_after, endpoint_after}
use Rattle.dcsctp_spec_lemmas.specs.spec.Soundness.{IsSound}

-- So each socket of a run stays sound, whatever it is handed.
abbrev pub SocketsStaySound : Type 0
SocketsStaySound =
    (options : Both Options) (run : List PerformedAct) → SocketRun options run → (side : Side)
    → IsSound (endpoint_after (of_side side options) (of_side side (turns_after run)))
