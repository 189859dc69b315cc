-- A lost COOKIE ACK is made good however many heartbeats are lost before T1 comes, or packets of data (RFC 9260, sections 5.2.4, D,
-- 6.3.3 and 8.3).
use Rattle.std.specs.Prelude.{◌≡◌, ◌<◌, ◌+◌, ℕ, suc, None, List}
use Rattle.dcsctp_spec_lemmas.specs.types.declared.options.Options.{Options}
use Rattle.dcsctp_spec_lemmas.specs.types.declared.schedule.Side.{Side}
use Rattle.dcsctp_spec_lemmas.specs.spec.Cookie.{Cookie}
use Rattle.dcsctp_spec_lemmas.specs.spec.endpoint.Endpoint.{Endpoint}
use Rattle.dcsctp_spec_lemmas.specs.spec.endpoint.TimeTurns.{delay_deadline, loss_deadline, next_moment}
use Rattle.dcsctp_spec_runs.specs.Sockets.{PerformedAct, Both, of_side, of_other, turns_after, SocketRun}
use Rattle.dcsctp_theorem_sockets.specs.Agreement.{AreUsable}
use Rattle.dcsctp_theorem_sockets.specs.Handshake.{AreFitting}
use Rattle.dcsctp_theorem_progress.specs.Rounds.{this_endpoint, other_endpoint, counts_shown, LostRounds, QuietRound}
use Rattle.dcsctp_theorem_progress.specs.LostInits.{KeepsOptions}
use Rattle.dcsctp_theorem_progress.specs.Retries.{LeavesRestarts, RetriesT1}
use Rattle.dcsctp_theorem_progress.specs.Cookies.{HasEchoed, HadEcho}
use Rattle.dcsctp_theorem_progress.specs.DataEchoes.{EchoesWithData, HasCookie}
use Rattle.dcsctp_theorem_progress.specs.Connecting.{HaveConnected}

-- Of its timers only those of heartbeats run, and that many HEARTBEATs more may stay without an answer.
pub record OnlyBeats (e : Endpoint) (more : ℕ) : Type 0 where
  pub delay : delay_deadline e.queues.transfer ≡ None
  pub loss : loss_deadline e.queues.transfer ≡ None
  pub reconfiguration : e.timers.reconfiguration ≡ None
  pub t2 : e.timers.t2 ≡ None
  pub errors : LeavesRestarts e.options.max_retransmissions e.error_count more

-- This side awaits a COOKIE ACK, and the other is Established by the cookie. After any number of rounds whose packets are all lost,
-- heartbeats among them, the quiet round in which T1 comes first connects them. It ends this run.
abbrev pub AcksConnect : Both Options → List PerformedAct → Type 0
AcksConnect options run =
    (side : Side) (lost : ℕ) (settled : Both ℕ) (earlier between : List PerformedAct) (cookie : Cookie) (bytes : List ℕ) →
    let e = this_endpoint options side earlier in
    let f = other_endpoint options side earlier in
    KeepsOptions (of_side side options) e → KeepsOptions (of_other side options) f
    → HasEchoed e f cookie bytes → RetriesT1 e (suc lost) → HadEcho e f cookie → OnlyBeats f lost → LostRounds options lost earlier between
    → next_moment (this_endpoint options side between) < next_moment (other_endpoint options side between)
    → QuietRound options (counts_shown options (turns_after between)) between settled run → HaveConnected options (turns_after earlier) (turns_after run)

abbrev pub LostAcksConnect : Type 0
LostAcksConnect = (options : Both Options) (run : List PerformedAct) → AreUsable options → AreFitting options → SocketRun options run → AcksConnect options run

-- ---- with data behind the COOKIE ACK

-- It has begun no request to reset streams and no shutdown, and its errors allow that many rounds more. In each T3 may expire, and a
-- HEARTBEAT stay without an answer: two errors. The delay of an acknowledgement may end, too, which is none.
pub record SurvivesRounds (f : Endpoint) (more : ℕ) : Type 0 where
  pub reconfiguration : f.timers.reconfiguration ≡ None
  pub t2 : f.timers.t2 ≡ None
  pub errors : LeavesRestarts f.options.max_retransmissions f.error_count (more + more)

-- This side awaits a COOKIE ACK, and the other is Established by the cookie. Both may have messages queued, data in flight, and data
-- that came. After any number of rounds whose packets are all lost the quiet round in which T1 comes first connects them. It ends
-- this run.
abbrev pub DataAcksConnect : Both Options → List PerformedAct → Type 0
DataAcksConnect options run =
    (side : Side) (lost : ℕ) (settled : Both ℕ) (earlier between : List PerformedAct) (cookie : Cookie) (bytes : List ℕ) →
    let e = this_endpoint options side earlier in
    let f = other_endpoint options side earlier in
    let e' = this_endpoint options side between in
    let f' = other_endpoint options side between in
    KeepsOptions (of_side side options) e → KeepsOptions (of_other side options) f
    → EchoesWithData e f cookie bytes → RetriesT1 e (suc lost) → HasCookie e f cookie → SurvivesRounds f lost
    → LostRounds options lost earlier between → next_moment e' < next_moment f' → QuietRound options (counts_shown options (turns_after between)) between settled run
    → HaveConnected options (turns_after earlier) (turns_after run)

abbrev pub LostDataAcksConnect : Type 0
LostDataAcksConnect = (options : Both Options) (run : List PerformedAct) → AreUsable options → AreFitting options → SocketRun options run → DataAcksConnect options run
