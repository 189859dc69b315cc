-- Once an act is over, data that was received is acknowledged, or a timer runs that brings that (RFC 9260, section 6.2).
use Rattle.std.specs.Prelude.{◌≡◌, true, List}
use Rattle.dcsctp_spec_lemmas.specs.types.declared.options.Options.{Options}
use Rattle.dcsctp_spec_lemmas.specs.types.declared.schedule.Side.{Side}
use Rattle.dcsctp_spec_lemmas.specs.spec.endpoint.Endpoint.{Endpoint}
use Rattle.dcsctp_spec_lemmas.specs.spec.endpoint.FlushOutcomes.{allows_packet}
use Rattle.dcsctp_spec_runs.specs.Sockets.{PerformedAct, Both, of_side, turns_after, endpoint_after, SocketRun}
use Rattle.dcsctp_theorem_transfer.specs.Deadlines.{IsOpen}
use Rattle.dcsctp_theorem_transfer.specs.Delaying.{OwesByTimer}

-- With `follow_rfc`, if a flush may send a packet, an open association owes no acknowledgement but by its timer.
abbrev pub OwesInTime : Options → Endpoint → Type 0
OwesInTime options e = options.follow_rfc ≡ true → allows_packet options.max_burst ≡ true → IsOpen e.core → OwesByTimer e.queues.transfer

-- So it is at each socket of a run, whatever bytes it is handed.
abbrev pub SocketsOweInTime : Type 0
SocketsOweInTime =
    (options : Both Options) (run : List PerformedAct) → SocketRun options run → (side : Side)
    → OwesInTime (of_side side options) (endpoint_after (of_side side options) (of_side side (turns_after run)))
