-- What is known of rounds, over a whole run.
use Rattle.std.specs.Prelude.{List, [], ◌∷◌}
use Rattle.dcsctp_spec_lemmas.specs.types.declared.options.Options.{Options}
use Rattle.dcsctp_spec_runs.specs.Sockets.{PerformedAct, Both, SocketRun}
use Rattle.dcsctp_theorem_sockets.specs.Agreement.{AreUsable}
use Rattle.dcsctp_theorem_sockets.specs.Handshake.{AreFitting}
use Rattle.dcsctp_theorem_progress.specs.Connecting.{TryingConnect, CallersConnect}
use Rattle.dcsctp_theorem_progress.specs.OthersCookies.{KnowCookies}
use Rattle.dcsctp_theorem_progress.specs.Heartbeats.{AcksConnect, DataAcksConnect}
use Rattle.dcsctp_theorem_progress.specs.Restarts.{OlderGivesWay, OlderGivesWayToData, OlderGivesWayToInit}
use Rattle.dcsctp_theorem_progress.specs.LossyRounds.{LossyRoundLeadsOn, LossyRoundsConnect}

-- At its end.
pub record RoundsConnect (options : Both Options) (run : List PerformedAct) : Type 0 where
  -- Whatever came before rounds that are lost whole, the quiet one after them connects.
  pub trying : TryingConnect options run
  -- So it is where nothing but the calls came before.
  pub fresh : CallersConnect options run
  -- Heartbeats may be lost with a COOKIE ACK.
  pub acks : AcksConnect options run
  -- So may data of both.
  pub data_acks : DataAcksConnect options run
  -- A round of which some packets are lost leads a handshake on, or leaves it as far as it was.
  pub lossy : LossyRoundLeadsOn options run
  -- After any number of these a quiet one connects, if none of them has.
  pub lossy_rounds : LossyRoundsConnect options run
  -- An older association of the other gives way.
  pub older : OlderGivesWay options run
  -- So it does with data at both.
  pub older_with_data : OlderGivesWayToData options run
  -- So it does where the handshake begins again with the INIT, and that is lost for a while.
  pub older_from_init : OlderGivesWayToInit options run
  -- The cookie that is echoed is the other's.
  pub cookies : KnowCookies options run

-- At the end of each first part of the run. So such rounds have connected them, whatever came later.
abbrev pub ConnectOverRounds : Both Options → List PerformedAct → Type 0
ConnectOverRounds options [] = RoundsConnect options []
ConnectOverRounds options (worked ∷ earlier) = RoundsConnect options (worked ∷ earlier) × ConnectOverRounds options earlier

abbrev pub RoundsConnectSockets : Type 0
RoundsConnectSockets = (options : Both Options) (run : List PerformedAct) → AreUsable options → AreFitting options → SocketRun options run → ConnectOverRounds options run
