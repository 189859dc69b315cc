-- Rounds in which some packets are lost and others come: each leads a handshake on, or leaves it as far as it was (RFC 9260,
-- section 5.1).
use Rattle.std.specs.Prelude.{◌≡◌, ◌⊎◌, ◌<◌, ℕ, zero, suc, ◌-◌, max, Bool, true, false, List, [], ◌∷◌, ◌++◌, length}
use Rattle.dcsctp_spec_lemmas.specs.types.declared.association.Pair.{Pair}
use Rattle.dcsctp_spec_lemmas.specs.types.declared.options.Options.{Options}
use Rattle.dcsctp_spec_lemmas.specs.types.declared.schedule.Side.{Side}
use Rattle.dcsctp_spec_lemmas.specs.types.declared.schedule.Side.TheVariants as sides
use Rattle.dcsctp_spec_lemmas.specs.types.Schedule.{delivery_step, ActContent, step_act}
use Rattle.dcsctp_spec_lemmas.specs.spec.Cookie.{Cookie}
use Rattle.dcsctp_spec_lemmas.specs.spec.endpoint.Endpoint.{Endpoint}
use Rattle.dcsctp_spec_lemmas.specs.spec.endpoint.Turn.{with_clock}
use Rattle.dcsctp_spec_lemmas.specs.spec.endpoint.HeartbeatOutcomes.{is_exhausted}
use Rattle.dcsctp_spec_lemmas.specs.spec.endpoint.TimeTurns.{next_moment}
use Rattle.dcsctp_spec_runs.specs.Sockets.{PerformedAct, Both, of_side, of_other, turns_after, SocketRun}
use Rattle.dcsctp_theorem_sockets.specs.Agreement.{AreUsable}
use Rattle.dcsctp_theorem_sockets.specs.Handshake.{AreFitting}
use Rattle.dcsctp_theorem_progress.specs.Rounds.{this_endpoint, other_endpoint, counts_shown, ActsFollow, AdvancesBothClocks, QuietRound}
use Rattle.dcsctp_theorem_progress.specs.LostInits.{KeepsOptions}
use Rattle.dcsctp_theorem_progress.specs.Retries.{LeavesRestarts, RetriesT1, RetriesInit}
use Rattle.dcsctp_theorem_progress.specs.Cookies.{HasEchoed, KnowsCookie, AnswersEcho}
use Rattle.dcsctp_theorem_progress.specs.Connecting.{RestsWithoutTag, HaveConnected}
use Rattle.dcsctp_theorem_progress.specs.Heartbeats.{SurvivesRounds}
use Rattle.dcsctp_theorem_progress.specs.DataEchoes.{EchoesWithData, HasCookie, TakesCookie}

-- ---- a lossy round

-- Of the next packets after the first ones those are delivered to this side for which it says so, each once, in order.
abbrev pub chosen_deliveries : Side → ℕ → List Bool → List ActContent
chosen_deliveries side first [] = []
chosen_deliveries side first (true ∷ later) = step_act (delivery_step side (suc first)) ∷ chosen_deliveries side (suc first) later
chosen_deliveries side first (false ∷ later) = chosen_deliveries side (suc first) later

-- Of all that was emitted since these counts some is delivered, first to B, then to A. The rest is lost.
pub record LossyExchange (options : Both Options) (settled : Both ℕ) (earlier run : List PerformedAct) : Type 0 where
  pub to_b : List Bool
  pub to_a : List Bool
  pub all_to_b : length to_b ≡ (counts_shown options (turns_after earlier)).a - settled.a
  pub all_to_a : length to_a ≡ (counts_shown options (turns_after earlier)).b - settled.b
  pub follow : ActsFollow earlier (chosen_deliveries sides.B settled.a to_b ++ chosen_deliveries sides.A settled.b to_a) run

abbrev pub LossyExchanges : Both Options → ℕ → Both ℕ → List PerformedAct → Both ℕ → List PerformedAct → Type 0
LossyExchanges options zero settled earlier settled' run = (settled' ≡ settled) × (run ≡ earlier)
LossyExchanges options (suc more) settled earlier settled' run =
    (between : List PerformedAct) × LossyExchange options settled earlier between
    × LossyExchanges options more (counts_shown options (turns_after earlier)) between settled' run

-- The clocks go on, and then come four such exchanges.
pub record LossyRound (options : Both Options) (settled : Both ℕ) (earlier : List PerformedAct) (settled' : Both ℕ) (run : List PerformedAct) : Type 0 where
  pub between : List PerformedAct
  pub time : AdvancesBothClocks options earlier between
  pub exchanges : LossyExchanges options 4 settled between settled' run

-- So many of them. What one leaves under way is lost.
abbrev pub LossyRounds : Both Options → ℕ → List PerformedAct → List PerformedAct → Type 0
LossyRounds options zero earlier run = run ≡ earlier
LossyRounds options (suc more) earlier run =
    (between : List PerformedAct) × (settled : Both ℕ) × LossyRound options (counts_shown options (turns_after earlier)) earlier settled between
    × LossyRounds options more between run

-- ---- how far a handshake is

-- The other never got the cookie and would take it now, or is Established by it. There too messages may be queued.
pub data TakesOrHas (e f : Endpoint) (cookie : Cookie) : Type 0 where
  takes_it : TakesCookie f cookie → TakesOrHas e f cookie
  has_it : HasCookie e f cookie → TakesOrHas e f cookie

-- It acknowledges a COOKIE ECHO that comes at this moment, or later by its own clock: it takes the cookie then; or it has it already,
-- and none of its own timers is due by then.
pub data AnswersWithData (e f : Endpoint) (cookie : Cookie) (moment : ℕ) : Type 0 where
  takes_then : TakesCookie (with_clock (max f.moment moment) f) cookie → AnswersWithData e f cookie moment
  has_before : HasCookie e f cookie → moment < next_moment f → AnswersWithData e f cookie moment

-- The one awaits an INIT ACK, and the other is closed; or it awaits a COOKIE ACK, with nothing queued at either side, or with data.
-- That many restarts of T1 are left.
pub data IsTrying (more : ℕ) (e f : Endpoint) : Type 0 where
  still_inits : (p : Pair) → RetriesInit e p more → RestsWithoutTag f → is_exhausted e.options.max_retransmissions e.error_count ≡ false → IsTrying more e f
  still_echoes : (cookie : Cookie) (bytes : List ℕ) → HasEchoed e f cookie bytes → RetriesT1 e more → KnowsCookie e f cookie → IsTrying more e f
  still_sends : (cookie : Cookie) (bytes : List ℕ) → EchoesWithData e f cookie bytes → RetriesT1 e more → TakesOrHas e f cookie → IsTrying more e f

-- If it awaits a COOKIE ACK, T1 expires before any timer of the other, and while the other takes the cookie: with nothing queued,
abbrev pub ComesInTimeIdle : Endpoint → Endpoint → Type 0
ComesInTimeIdle e f = (cookie : Cookie) (bytes : List ℕ) → HasEchoed e f cookie bytes → KnowsCookie e f cookie → AnswersEcho e f cookie (next_moment e)

-- or with data.
pub record ComesInTime (e f : Endpoint) : Type 0 where
  pub idle : ComesInTimeIdle e f
  pub with_data : (cookie : Cookie) (bytes : List ℕ) → EchoesWithData e f cookie bytes → TakesOrHas e f cookie → AnswersWithData e f cookie (next_moment e)

-- T1 comes in time so; or the other has the cookie, and survives its own timers in the round. Then any of these may come before T1.
pub data BearsTimers (e f : Endpoint) (cookie : Cookie) : Type 0 where
  t1_first : AnswersWithData e f cookie (next_moment e) → BearsTimers e f cookie
  any_first : HasCookie e f cookie → SurvivesRounds f 1 → BearsTimers e f cookie

-- That is asked of both before a lossy round.
pub record BearRound (e f : Endpoint) : Type 0 where
  pub idle : ComesInTimeIdle e f
  pub with_data : (cookie : Cookie) (bytes : List ℕ) → EchoesWithData e f cookie bytes → TakesOrHas e f cookie → BearsTimers e f cookie

-- ---- a round

-- A restart less is left, or both are connected.
pub data LeadsOn (options : Both Options) (side : Side) (more : ℕ) (earlier run : List PerformedAct) : Type 0 where
  tries_again : KeepsOptions (of_side side options) (this_endpoint options side run) → KeepsOptions (of_other side options) (other_endpoint options side run)
      → IsTrying more (this_endpoint options side run) (other_endpoint options side run) → LeadsOn options side more earlier run
  connects : HaveConnected options (turns_after earlier) (turns_after run) → LeadsOn options side more earlier run

-- So it is after each lossy round, whichever of its packets are lost. The options let T1-cookie restart as often.
abbrev pub LossyRoundLeadsOn : Both Options → List PerformedAct → Type 0
LossyRoundLeadsOn options run =
    (side : Side) (more : ℕ) (settled : Both ℕ) (earlier : List PerformedAct) →
    let e = this_endpoint options side earlier in
    let f = other_endpoint options side earlier in
    KeepsOptions (of_side side options) e → KeepsOptions (of_other side options) f → LeavesRestarts (of_side side options).max_init_retransmits 0 (suc more)
    → IsTrying (suc more) e f → BearRound e f → LossyRound options (counts_shown options (turns_after earlier)) earlier settled run → LeadsOn options side more earlier run

abbrev pub LossyRoundsLeadOn : Type 0
LossyRoundsLeadOn = (options : Both Options) (run : List PerformedAct) → AreUsable options → AreFitting options → SocketRun options run → LossyRoundLeadsOn options run

-- ---- any number of rounds

-- Both bear each of the rounds, and after these T1 comes in time.
abbrev pub BearRounds : (options : Both Options) (side : Side) (count : ℕ) (earlier run : List PerformedAct) → LossyRounds options count earlier run → Type 0
BearRounds options side zero earlier run rounds = ComesInTime (this_endpoint options side earlier) (other_endpoint options side earlier)
BearRounds options side (suc more) earlier run rounds =
    BearRound (this_endpoint options side earlier) (other_endpoint options side earlier) × BearRounds options side more rounds.0 run rounds.3

-- One of the rounds connects both.
abbrev pub OneConnects : (options : Both Options) (count : ℕ) (earlier run : List PerformedAct) → LossyRounds options count earlier run → Type 0
OneConnects options zero earlier run rounds = ⊥
OneConnects options (suc more) earlier run rounds = HaveConnected options (turns_after earlier) (turns_after rounds.0) ⊎ OneConnects options more rounds.0 run rounds.3

-- However many rounds are lossy, if T1 may restart once more: one of them connects both, or the quiet round after them does. It ends
-- this run.
abbrev pub LossyRoundsConnect : Both Options → List PerformedAct → Type 0
LossyRoundsConnect options run =
    (side : Side) (count : ℕ) (settled : Both ℕ) (earlier between : List PerformedAct) →
    let e = this_endpoint options side earlier in
    let f = other_endpoint options side earlier in
    KeepsOptions (of_side side options) e → KeepsOptions (of_other side options) f → LeavesRestarts (of_side side options).max_init_retransmits 0 (suc count)
    → IsTrying (suc count) e f → (rounds : LossyRounds options count earlier between) → BearRounds options side count earlier between rounds
    → QuietRound options (counts_shown options (turns_after between)) between settled run
    → OneConnects options count earlier between rounds ⊎ HaveConnected options (turns_after between) (turns_after run)

abbrev pub LossyRoundsConnectSockets : Type 0
LossyRoundsConnectSockets = (options : Both Options) (run : List PerformedAct) → AreUsable options → AreFitting options → SocketRun options run → LossyRoundsConnect options run
