-- Each item that is outstanding fits a packet, so nothing that was sent is too long to be sent again (RFC 9260, section 6.1).
use Rattle.std.specs.Prelude.{◌≤◌, ◌-◌, ℕ, List, Option, None, Some}
use Rattle.std.specs.List.{AllByRecursion}
use Rattle.dcsctp_spec_lemmas.specs.types.Schedule.{AreHonest}
use Rattle.dcsctp_spec_lemmas.specs.types.Settings.{IsValid, packet_size_limit}
use Rattle.dcsctp_spec_lemmas.specs.types.Sizes.{common_header_size}
use Rattle.dcsctp_spec_lemmas.specs.types.declared.options.Options.{Options}
use Rattle.dcsctp_spec_lemmas.specs.types.declared.schedule.Side.{Side}
use Rattle.dcsctp_spec_lemmas.specs.spec.queues.Items.{Item, item_size}
use Rattle.dcsctp_spec_lemmas.specs.spec.queues.Outstanding.{OutstandingState, header}
use Rattle.dcsctp_spec_lemmas.specs.spec.queues.Transfer.{Transfer}
use Rattle.dcsctp_spec_runs.specs.Sockets.{PerformedAct, Both, of_side, acts_of, turns_after, endpoint_after, SocketRun}

-- The chunk of each is no longer than this, header and padding included.
abbrev pub ItemsFit : ℕ → OutstandingState → Type 0
ItemsFit room outstanding = AllByRecursion (λ (item : Item). item_size (header outstanding) item ≤ room) outstanding.items

-- It is no longer than a packet has room for.
abbrev pub FitsPackets : Options → Option Transfer → Type 0
FitsPackets options None = Unit {0}
FitsPackets options (Some transfer) = ItemsFit (packet_size_limit options - common_header_size) transfer.retransmission.outstanding

-- So it is at each socket of an honest run. A snapshot of another socket may bring longer ones.
abbrev pub SocketsFitPackets : Type 0
SocketsFitPackets =
    (options : Both Options) (run : List PerformedAct) → SocketRun options run → AreHonest (acts_of run) → (side : Side) → IsValid (of_side side options)
    → FitsPackets (of_side side options) (endpoint_after (of_side side options) (of_side side (turns_after run))).queues.transfer
