-- What each socket has received is a set of TSNs in its one form, whatever it was handed (RFC 9260, sections 6.2 and 3.3.4).
use Rattle.std.specs.Prelude.{◌≡◌, List, Option, None, Some}
use Rattle.dcsctp_spec_lemmas.specs.types.declared.options.Options.{Options}
use Rattle.dcsctp_spec_lemmas.specs.types.declared.schedule.Side.{Side}
use Rattle.dcsctp_spec_lemmas.specs.spec.endpoint.Endpoint.{Endpoint}
use Rattle.dcsctp_spec_lemmas.specs.spec.queues.Transfer.{Transfer}
use Rattle.dcsctp_spec_laws.specs.SackLaws.{IsTracked}
use Rattle.dcsctp_spec_runs.specs.Sockets.{PerformedAct, Both, of_side, turns_after, endpoint_after, SocketRun}

-- No TSN is too far ahead for a SACK to name it. The tracker follows the RFC where the socket does.
abbrev pub TracksReceived : Options → Option Transfer → Type 0
TracksReceived options None = Unit {0}
TracksReceived options (Some transfer) = IsTracked transfer.tracker × (transfer.tracker.follows_rfc ≡ options.follow_rfc)

-- So it is at each socket of a run, also after a restore.
abbrev pub SocketsTrackReceived : Type 0
SocketsTrackReceived =
    (options : Both Options) (run : List PerformedAct) → SocketRun options run → (side : Side)
    → let e : Endpoint = endpoint_after (of_side side options) (of_side side (turns_after run)) in TracksReceived e.options e.queues.transfer
