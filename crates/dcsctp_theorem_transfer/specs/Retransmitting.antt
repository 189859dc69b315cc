-- The retransmission timer, T3: it runs wherever something is outstanding (RFC 9260, section 6.3.2), so nothing that was sent
-- waits forever for an acknowledgement.
use Rattle.std.specs.Prelude.{List, [], ◌∷◌, Option, None, Some}
use Rattle.dcsctp_spec_lemmas.specs.types.declared.options.Options.{Options}
use Rattle.dcsctp_spec_lemmas.specs.types.declared.schedule.Side.{Side}
use Rattle.dcsctp_spec_lemmas.specs.spec.endpoint.Timers.{RunningTimer}
use Rattle.dcsctp_spec_lemmas.specs.spec.queues.Items.{Item}
use Rattle.dcsctp_spec_lemmas.specs.spec.queues.Transfer.{Transfer}
use Rattle.dcsctp_spec_runs.specs.Deadlines.{IsRunning}
use Rattle.dcsctp_spec_runs.specs.Sockets.{PerformedAct, Both, of_side, turns_after, endpoint_after, SocketRun}

-- It runs, if there are such items.
abbrev pub RunsForItems : List Item → Option RunningTimer → Type 0
RunsForItems [] timer = Unit {0}
RunsForItems (item ∷ items) timer = IsRunning timer

-- It runs where something is outstanding.
abbrev pub RunsT3 : Option Transfer → Type 0
RunsT3 None = Unit {0}
RunsT3 (Some transfer) = RunsForItems transfer.retransmission.outstanding.items transfer.retransmission.timer.running

-- So it is at each socket of a run.
abbrev pub SocketsRunT3 : Type 0
SocketsRunT3 =
    (options : Both Options) (run : List PerformedAct) → SocketRun options run → (side : Side)
    → RunsT3 (endpoint_after (of_side side options) (of_side side (turns_after run))).queues.transfer
