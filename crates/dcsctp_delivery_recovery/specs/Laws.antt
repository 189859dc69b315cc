-- What two sockets recover, whatever is lost.
use Rattle.dcsctp_delivery_recovery.specs.Flights.{SocketsKeepFlightsSound}
use Rattle.dcsctp_delivery_recovery.specs.Received.{SocketsReceivePart}
use Rattle.dcsctp_delivery_recovery.specs.Recovered.{SocketsRecoverLosses}

pub record RecoveryLaws : Type 0 where
  pub flights : SocketsKeepFlightsSound
  pub received : SocketsReceivePart
  pub losses : SocketsRecoverLosses
