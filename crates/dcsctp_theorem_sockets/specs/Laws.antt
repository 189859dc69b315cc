-- All that holds of the sockets of a run.
use Rattle.dcsctp_theorem_sockets.specs.Agreement.{SocketsAgree}
use Rattle.dcsctp_theorem_sockets.specs.Deadlines.{SocketsRunT1}
use Rattle.dcsctp_theorem_sockets.specs.Handshake.{FittingSocketsConnect}
use Rattle.dcsctp_theorem_sockets.specs.OneSocket.{SocketEffectsInPlace, SocketRequestsEndByAnswers, SocketsReportEnds, SocketsKeepSizes, SocketsKeepBursts, SocketsWaitQuietly}
use Rattle.dcsctp_theorem_sockets.specs.Telling.{SocketsReportEffects, SocketsHaveRecorded, SocketsRecordOnlyNew}

pub record SocketLaws : Type 0 where
  pub agree : SocketsAgree
  pub connect : FittingSocketsConnect
  pub numbers : SocketEffectsInPlace
  pub answers : SocketRequestsEndByAnswers
  pub ends : SocketsReportEnds
  pub told : SocketsReportEffects
  pub held : SocketsHaveRecorded
  pub anew : SocketsRecordOnlyNew
  pub t1 : SocketsRunT1
  pub sizes : SocketsKeepSizes
  pub bursts : SocketsKeepBursts
  pub quiet : SocketsWaitQuietly
