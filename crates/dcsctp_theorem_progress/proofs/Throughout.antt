-- Wherever a run has had rounds that are lost and then a quiet one, whatever comes later.
use Rattle.std.proofs.Common.{List, [], ◌∷◌}
use Rattle.dcsctp_spec_lemmas.specs.types.declared.options.Options.{Options}
use Rattle.dcsctp_spec_runs.specs.Sockets.{PerformedAct, Both, SocketRun}
use Rattle.dcsctp_theorem_sockets.specs.Agreement.{AreUsable}
use Rattle.dcsctp_theorem_sockets.specs.Handshake.{AreFitting}
use Rattle.dcsctp_theorem_progress.specs.OthersCookies.{CookiesAreTheOthers}
use Rattle.dcsctp_theorem_progress.specs.Connecting.{LostRoundsAreMadeGood, FreshSocketsConnect}
use Rattle.dcsctp_theorem_progress.specs.Heartbeats.{LostAcksConnect, LostDataAcksConnect}
use Rattle.dcsctp_theorem_progress.specs.LossyRounds.{LossyRoundsLeadOn, LossyRoundsConnectSockets}
use Rattle.dcsctp_theorem_progress.specs.Restarts.{OlderAssociationsGiveWay, OlderAssociationsGiveWayToData, OlderAssociationsGiveWayToInits}
use Rattle.dcsctp_theorem_progress.specs.Throughout.{RoundsConnect, ConnectOverRounds}

-- what is known of rounds
pub record Rounds : Type 0 where
  pub trying : LostRoundsAreMadeGood
  pub fresh : FreshSocketsConnect
  pub acks : LostAcksConnect
  pub data_acks : LostDataAcksConnect
  pub lossy : LossyRoundsLeadOn
  pub lossy_rounds : LossyRoundsConnectSockets
  pub older : OlderAssociationsGiveWay
  pub older_with_data : OlderAssociationsGiveWayToData
  pub older_from_init : OlderAssociationsGiveWayToInits
  pub cookies : CookiesAreTheOthers

at_end : Rounds → (options : Both Options) (run : List PerformedAct) → AreUsable options → AreFitting options → SocketRun options run → RoundsConnect options run
at_end law options run are fit runs =
    record {
      trying = law.trying options run are fit runs;
      fresh = law.fresh options run are fit runs;
      acks = law.acks options run are fit runs;
      data_acks = law.data_acks options run are fit runs;
      lossy = law.lossy options run are fit runs;
      lossy_rounds = law.lossy_rounds options run are fit runs;
      older = law.older options run are fit runs;
      older_with_data = law.older_with_data options run are fit runs;
      older_from_init = law.older_from_init options run are fit runs;
      cookies = law.cookies options run are runs;
    }

pub throughout : Rounds → (options : Both Options) (run : List PerformedAct) → AreUsable options → AreFitting options → SocketRun options run → ConnectOverRounds options run
throughout law options [] are fit runs = at_end law options [] are fit runs
throughout law options (worked ∷ earlier) are fit runs = (at_end law options (worked ∷ earlier) are fit runs, throughout law options earlier are fit runs.1)
