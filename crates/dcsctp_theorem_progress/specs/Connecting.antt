-- Sockets connect, with messages queued or without, once the network lets a repeated INIT and what follows it through (RFC 9260,
-- section 5.1).
use Rattle.std.specs.Prelude.{◌≡◌, ◌<◌, ◌^◌, ◌==◌, ◌&&◌, ℕ, suc, false, None, List, [], ◌∷◌}
use Rattle.dcsctp_spec_lemmas.specs.types.declared.association.Pair.{Pair}
use Rattle.dcsctp_spec_lemmas.specs.types.declared.options.Options.{Options}
use Rattle.dcsctp_spec_lemmas.specs.types.declared.schedule.Side.{Side}
use Rattle.dcsctp_spec_lemmas.specs.types.Schedule.{connect_call, call_step, ActContent, step_act}
use Rattle.dcsctp_spec_lemmas.specs.spec.Cookie.{Cookie}
use Rattle.dcsctp_spec_lemmas.specs.spec.endpoint.Endpoint.{Endpoint, Core, closed, cookie_wait, cookie_echoed, open_in}
use Rattle.dcsctp_spec_lemmas.specs.spec.endpoint.CallTurns.{Transition, events_of}
use Rattle.dcsctp_spec_lemmas.specs.spec.endpoint.CookieEchoOutcomes.{is_tag_over}
use Rattle.dcsctp_delivery_directions.specs.sending.Losing.{AreOpen}
use Rattle.dcsctp_spec_runs.specs.Sockets.{PerformedAct, Both, of_side, endpoint_after, turns_after, SocketRun, acts_of}
use Rattle.dcsctp_theorem_sockets.specs.Agreement.{AreUsable}
use Rattle.dcsctp_theorem_sockets.specs.Handshake.{other_side, AreFitting, AreConnected, connections_of_events}
use Rattle.dcsctp_theorem_progress.specs.Rounds.{counts_shown, LostRounds, QuietRound}
use Rattle.dcsctp_theorem_progress.specs.LostInits.{Rests, KeepsOptions, AreLinked}
use Rattle.dcsctp_theorem_progress.specs.Retries.{LeavesRestarts, RetriesT1, RetriesInit, t1_expiry}
use Rattle.dcsctp_theorem_progress.specs.DataEchoes.{ResendsEcho}
use Rattle.dcsctp_theorem_progress.specs.Cookies.{HasEchoed, AnswersEcho}

-- It is closed, and there is no tag under which none begins again.
pub record RestsWithoutTag (e : Endpoint) : Type 0 where
  pub rests : Rests e
  pub anew : (tag : ℕ) → is_tag_over e closed tag ≡ false

-- It takes a cookie that it makes now with this pair of its own: its secret fits a cookie, it has one, and the tag isn't one under
-- which none begins again. Nothing is in flight, and no stream is to be reset.
pub record TakesOwn (e : Endpoint) (p : Pair) : Type 0 where
  pub unheld : e.queues.transfer ≡ None
  pub unpaused : AreOpen e.queues.queue.streams
  pub secret : e.secret < 2 ^ 64
  pub has_secret : (e.options.follow_rfc && e.secret == 0) ≡ false
  pub anew : is_tag_over e closed p.tag ≡ false

-- It awaits a COOKIE ACK, with that many restarts of T1 left. When T1 expires for the last of these times, the other acknowledges
-- the COOKIE ECHO.
pub record RetriesEcho (e f : Endpoint) (cookie : Cookie) (bytes : List ℕ) (more : ℕ) : Type 0 where
  pub echoed : HasEchoed e f cookie bytes
  pub t1 : RetriesT1 e more
  pub other : AnswersEcho e f cookie (t1_expiry e more)

-- One of the two awaits an INIT ACK, with that many restarts of T1 left, and the other is closed; or both await one. Or one awaits a
-- COOKIE ACK: the COOKIE ECHO was lost, maybe with data, and the other is closed; or the COOKIE ACK was, and the other is Established.
pub data MayConnect (more : ℕ) (e f : Endpoint) : Type 0 where
  a_tries : (p : Pair) → RetriesInit e p more → RestsWithoutTag f → MayConnect more e f
  b_tries : (p : Pair) → RetriesInit f p more → RestsWithoutTag e → MayConnect more e f
  both_try : (p q : Pair) → RetriesInit e p more → TakesOwn e p → RetriesInit f q more → TakesOwn f q → MayConnect more e f
  a_echoes : (cookie : Cookie) (bytes : List ℕ) → RetriesEcho e f cookie bytes more → MayConnect more e f
  b_echoes : (cookie : Cookie) (bytes : List ℕ) → RetriesEcho f e cookie bytes more → MayConnect more e f
  a_resends : (cookie : Cookie) (bytes : List ℕ) → ResendsEcho e f cookie bytes more → MayConnect more e f
  b_resends : (cookie : Cookie) (bytes : List ℕ) → ResendsEcho f e cookie bytes more → MayConnect more e f

-- how often a socket has told OnConnected once it is Established: once more, unless it was open
abbrev pub connections_once_open : Core → ℕ → ℕ
connections_once_open closed told = suc told
connections_once_open (cookie_wait mine) told = suc told
connections_once_open (cookie_echoed mine held cookie) told = suc told
connections_once_open (open_in phase mine held) told = told

-- Both are Established and crossed, and each that wasn't open has told OnConnected once since.
pub record HaveConnected (options : Both Options) (before after : Both (List Transition)) : Type 0 where
  pub p : Pair
  pub q : Pair
  pub linked : AreLinked (endpoint_after options.a after.a) (endpoint_after options.b after.b) options.a options.b p q
  pub told_a : connections_of_events (events_of after.a) ≡ connections_once_open (endpoint_after options.a before.a).core (connections_of_events (events_of before.a))
  pub told_b : connections_of_events (events_of after.b) ≡ connections_once_open (endpoint_after options.b before.b).core (connections_of_events (events_of before.b))

-- Whatever came before, and was lost: after any number of rounds whose packets are all lost, each of which uses at most a restart
-- of T1, one quiet round connects them. It ends this run.
abbrev pub TryingConnect : Both Options → List PerformedAct → Type 0
TryingConnect options run =
    (lost : ℕ) (settled : Both ℕ) (earlier between : List PerformedAct) →
    let turns = turns_after earlier in
    let e = endpoint_after options.a turns.a in
    let f = endpoint_after options.b turns.b in
    KeepsOptions options.a e → KeepsOptions options.b f → MayConnect (suc lost) e f → LostRounds options lost earlier between
    → QuietRound options (counts_shown options (turns_after between)) between settled run → HaveConnected options turns (turns_after run)

abbrev pub LostRoundsAreMadeGood : Type 0
LostRoundsAreMadeGood = (options : Both Options) (run : List PerformedAct) → AreUsable options → AreFitting options → SocketRun options run → TryingConnect options run

-- who has called connect: this one, or both, this one first
pub data Caller : Type 0 where
  one : Side → Caller
  both : Side → Caller

-- the calls, newest first
abbrev pub calls_of : Caller → List ActContent
calls_of (one side) = step_act (call_step side connect_call) ∷ []
calls_of (both side) = step_act (call_step (other_side side) connect_call) ∷ step_act (call_step side connect_call) ∷ []

-- The options of those that have called it let T1 restart that often.
abbrev pub AllowRestarts : Both Options → ℕ → Caller → Type 0
AllowRestarts options more (one side) = LeavesRestarts (of_side side options).max_init_retransmits 0 more
AllowRestarts options more (both side) = LeavesRestarts options.a.max_init_retransmits 0 more × LeavesRestarts options.b.max_init_retransmits 0 more

-- Two sockets that were just made, of which one or both connect, and T1 may restart once more than rounds are lost. Then one quiet
-- round connects them. It ends this run.
abbrev pub CallersConnect : Both Options → List PerformedAct → Type 0
CallersConnect options run =
    (who : Caller) (lost : ℕ) (settled : Both ℕ) (called between : List PerformedAct) → AllowRestarts options (suc lost) who → acts_of called ≡ calls_of who
    → LostRounds options lost called between → QuietRound options (counts_shown options (turns_after between)) between settled run → AreConnected options (turns_after run)

abbrev pub FreshSocketsConnect : Type 0
FreshSocketsConnect = (options : Both Options) (run : List PerformedAct) → AreUsable options → AreFitting options → SocketRun options run → CallersConnect options run
