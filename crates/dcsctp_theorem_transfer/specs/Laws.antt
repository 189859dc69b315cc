-- What is known of the transfer layer of an association, whatever is lost.
use Rattle.dcsctp_theorem_transfer.specs.Deadlines.{RunningTimersCount}
use Rattle.dcsctp_theorem_transfer.specs.DelayOver.{CallSendsDelayedSack}
use Rattle.dcsctp_theorem_transfer.specs.Delaying.{SocketsAcknowledge}
use Rattle.dcsctp_theorem_transfer.specs.Expiring.{CallsRecover}
use Rattle.dcsctp_theorem_transfer.specs.Hearing.{SenderHears}
use Rattle.dcsctp_theorem_transfer.specs.InOrder.{CallComesInOrder, SuchPacketsPass}
use Rattle.dcsctp_theorem_transfer.specs.Leaving.{DataLeaves}
use Rattle.dcsctp_theorem_transfer.specs.Owing.{SocketsOweInTime}
use Rattle.dcsctp_theorem_transfer.specs.Packing.{SocketsFitPackets}
use Rattle.dcsctp_theorem_transfer.specs.Recovering.{LostDataComesBehind, LostDataComesThrough}
use Rattle.dcsctp_theorem_transfer.specs.Resending.{LostDataIsSentAgain}
use Rattle.dcsctp_theorem_transfer.specs.Retransmitting.{SocketsRunT3}
use Rattle.dcsctp_theorem_transfer.specs.Taking.{DataIsTaken}
use Rattle.dcsctp_theorem_transfer.specs.Ticking.{TimePassesReceiver}
use Rattle.dcsctp_theorem_transfer.specs.Tracking.{SocketsTrackReceived}
use Rattle.dcsctp_theorem_transfer.specs.Windows.{SocketsHoldPacket}

pub record TransferLaws : Type 0 where
  pub t3 : SocketsRunT3
  pub acknowledgements : SocketsAcknowledge
  pub owing : SocketsOweInTime
  pub windows : SocketsHoldPacket
  pub timers : RunningTimersCount
  pub resending : LostDataIsSentAgain
  pub leaving : DataLeaves
  pub packing : SocketsFitPackets
  pub taking : DataIsTaken
  pub hearing : SenderHears
  pub recovering : LostDataComesThrough
  pub behind : LostDataComesBehind
  pub calls : CallsRecover
  pub passing : SuchPacketsPass
  pub ticking : TimePassesReceiver
  pub order : CallComesInOrder
  pub delayed : CallSendsDelayedSack
  pub tracking : SocketsTrackReceived
