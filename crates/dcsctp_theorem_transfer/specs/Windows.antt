-- The congestion window has room for a packet (RFC 9260, sections 7.2.1 and 7.2.3), so what is in flight never stops all that waits
-- once it is acknowledged or lost.
use Rattle.std.specs.Prelude.{◌≤◌, List, Option, None, Some}
use Rattle.dcsctp_spec_lemmas.specs.types.Schedule.{AreHonest}
use Rattle.dcsctp_spec_lemmas.specs.types.Settings.{IsValid}
use Rattle.dcsctp_spec_lemmas.specs.types.declared.options.Options.{Options}
use Rattle.dcsctp_spec_lemmas.specs.types.declared.schedule.Side.{Side}
use Rattle.dcsctp_spec_lemmas.specs.spec.queues.Transfer.{Transfer}
use Rattle.dcsctp_spec_runs.specs.Sockets.{PerformedAct, Both, of_side, acts_of, turns_after, endpoint_after, SocketRun}

-- It begins with a packet at least, and a loss leaves one at least.
pub record AllowPacket (options : Options) : Type 0 where
  pub initial : 1 ≤ options.cwnd_mtus_initial
  pub least : 1 ≤ options.cwnd_mtus_min

-- It has room for a packet.
abbrev pub HoldsPacket : Options → Option Transfer → Type 0
HoldsPacket options None = Unit {0}
HoldsPacket options (Some transfer) = options.mtu ≤ transfer.retransmission.congestion.cwnd

-- So it is at each socket of an honest run. A snapshot of another socket may bring any window.
abbrev pub SocketsHoldPacket : Type 0
SocketsHoldPacket =
    (options : Both Options) (run : List PerformedAct) → SocketRun options run → AreHonest (acts_of run) → (side : Side) → IsValid (of_side side options)
    → AllowPacket (of_side side options) → HoldsPacket (of_side side options) (endpoint_after (of_side side options) (of_side side (turns_after run))).queues.transfer
