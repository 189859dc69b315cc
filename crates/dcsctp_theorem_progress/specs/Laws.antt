-- What is known of how two sockets connect, whatever is lost.
use Rattle.dcsctp_theorem_progress.specs.LostInits.{LostInitsAreMadeGood, LostInitsOfBothAreMadeGood}
use Rattle.dcsctp_theorem_progress.specs.Connecting.{LostRoundsAreMadeGood, FreshSocketsConnect}
use Rattle.dcsctp_theorem_progress.specs.Heartbeats.{LostAcksConnect, LostDataAcksConnect}
use Rattle.dcsctp_theorem_progress.specs.LossyRounds.{LossyRoundsLeadOn, LossyRoundsConnectSockets}
use Rattle.dcsctp_theorem_progress.specs.Restarts.{OlderAssociationsGiveWay, OlderAssociationsGiveWayToData, OlderAssociationsGiveWayToInits}
use Rattle.dcsctp_theorem_progress.specs.Throughout.{RoundsConnectSockets}
use Rattle.dcsctp_theorem_progress.specs.OthersCookies.{CookiesAreTheOthers}
use Rattle.dcsctp_theorem_progress.specs.Echoes.{LostEchoesAreMadeGood, LostAcksAreMadeGood}

pub record ProgressLaws : Type 0 where
  pub inits : LostInitsAreMadeGood
  pub inits_of_both : LostInitsOfBothAreMadeGood
  pub echoes : LostEchoesAreMadeGood
  pub acks : LostAcksAreMadeGood
  pub rounds : LostRoundsAreMadeGood
  pub fresh : FreshSocketsConnect
  pub heartbeats : LostAcksConnect
  pub data_acks : LostDataAcksConnect
  pub lossy : LossyRoundsLeadOn
  pub lossy_rounds : LossyRoundsConnectSockets
  pub older : OlderAssociationsGiveWay
  pub older_with_data : OlderAssociationsGiveWayToData
  pub older_from_init : OlderAssociationsGiveWayToInits
  pub cookies : CookiesAreTheOthers
  pub throughout : RoundsConnectSockets
