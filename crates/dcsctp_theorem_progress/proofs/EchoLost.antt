-- Rounds whose packets are lost, after a COOKIE ECHO; and the quiet one behind them.
use Rattle.std.proofs.Common.{List, [], ap, arith, length, refl, subst, suc, sym, zero, ℕ, ◌<◌, ◌∙◌, ◌∷◌, ◌≡◌, ◌≤◌}
use Rattle.std.specs.Duration.{max_nanos}
use Rattle.std.specs.Prelude.{max}
use Rattle.dcsctp_spec_lemmas.specs.types.declared.options.Options.{Options}
use Rattle.dcsctp_spec_lemmas.specs.types.declared.schedule.Side.{Side}
use Rattle.dcsctp_spec_lemmas.specs.spec.endpoint.CallTurns.{Transition}
use Rattle.dcsctp_spec_lemmas.specs.spec.Cookie.{Cookie}
use Rattle.dcsctp_spec_lemmas.specs.spec.endpoint.Endpoint.{Core, Endpoint}
use Rattle.dcsctp_spec_lemmas.specs.spec.endpoint.TimeTurns.{TimePassesQuietly, next_moment, t1_timer, timers_counted}
use Rattle.dcsctp_spec_runs.specs.Sockets.{Both, PerformedAct, SocketRun, turns_after}
use Rattle.dcsctp_theorem_sockets.specs.Agreement.{AreUsable}
use Rattle.dcsctp_theorem_sockets.specs.Handshake.{AreFitting}
use Rattle.dcsctp_theorem_progress.specs.Connecting.{RetriesEcho, connections_once_open}
use Rattle.dcsctp_theorem_progress.specs.Cookies.{AnswersEcho, HasEchoed, KnowsCookie, not_yet, already, had, missed}
use Rattle.dcsctp_theorem_progress.specs.LostInits.{DueT1}
use Rattle.dcsctp_theorem_progress.specs.Retries.{RetriesT1, t1_expiry}
use Rattle.dcsctp_theorem_progress.specs.Rounds.{AdvancesBothClocks, LostRounds, QuietRound, counts_shown}
use Rattle.dcsctp_theorem_sockets.proofs.HandshakeTurns.{HandshakeLaws}
use Rattle.dcsctp_theorem_progress.proofs.Joined.{JoinedBy}
use Rattle.dcsctp_theorem_progress.proofs.EchoRound.{Echo, echo_of, acknowledged, again, Waiting, echo_exchanged}
use Rattle.dcsctp_theorem_progress.proofs.EchoRuns.{repeated, repeats}
use Rattle.dcsctp_theorem_progress.proofs.Facts.{Fit}
use Rattle.dcsctp_theorem_progress.proofs.Handed.{Settles, keep_same, settles}
use Rattle.dcsctp_theorem_progress.proofs.Meanwhile.{Remains, missed_now, remains}
use Rattle.dcsctp_theorem_progress.proofs.Promise.{MovedOf, SettledBy, fit_of, lesser_of, moment_by, moves_of, ran_lost, settled_in}
use Rattle.dcsctp_theorem_progress.proofs.Retries.{due_next, first_expiry, never, next_is, next_is_first, same_expiry, t1_continues, t1_fits}
use Rattle.dcsctp_theorem_progress.proofs.Views.{AtOf, KeepOf, View, ran, ran_exchanges, view_then}

before_all : (next last others : ℕ) → next ≤ last → last < others → next ≤ others
before_all next last others a b = omega (arith, a, b)

pub same_count : (core core' : Core) (n n' : ℕ) → core ≡ core' → n ≡ n' → connections_once_open core n ≡ connections_once_open core' n'
same_count core core' n n' is told = ap (λ (c : Core). connections_once_open c n) is ∙ ap (connections_once_open core') told

-- ---- lost rounds

-- This side awaits a COOKIE ACK with that many restarts left, the other acknowledges the COOKIE ECHO at that moment, and each has
-- told OnConnected that often in the end.
pub record EchoReady (side : Side) (options : Both Options) (run : List PerformedAct) (echo : Echo) (more last : ℕ) : Type 0 where
  pub v : View
  pub w : View
  pub at : AtOf side options run v w
  pub keep : KeepOf side options v w
  pub echoed : HasEchoed v.endpoint w.endpoint echo.cookie echo.bytes
  pub t1 : RetriesT1 v.endpoint more
  pub expires : t1_expiry v.endpoint more ≡ last
  pub other : AnswersEcho v.endpoint w.endpoint echo.cookie last
  pub mine : suc v.told ≡ echo.mine
  pub others : connections_once_open w.endpoint.core w.told ≡ echo.others

pub echo_ready : (side : Side) (options : Both Options) (run : List PerformedAct) (v w : View) (cookie : Cookie) (bytes : List ℕ) (lost : ℕ) → AtOf side options run v w → KeepOf side options v w
    → RetriesEcho v.endpoint w.endpoint cookie bytes (suc lost)
    → EchoReady side options run (echo_of v w cookie bytes) (suc lost) (t1_expiry v.endpoint (suc lost))
echo_ready side options run v w cookie bytes lost at keep h =
    record {
      v = v;
      w = w;
      at = at;
      keep = keep;
      echoed = h.echoed;
      t1 = h.t1;
      expires = refl;
      other = h.other;
      mine = refl;
      others = refl;
    }

-- the other's next moment isn't before T1's
not_before : (e f : Endpoint) (cookie : Cookie) (bytes : List ℕ) (more last : ℕ) → timers_counted e.core ≡ t1_timer ∷ [] → RetriesT1 e (suc more) → t1_expiry e (suc more) ≡ last
    → AnswersEcho e f cookie last → next_moment e ≤ next_moment f
not_before e f cookie bytes more last counted t1 expires (missed h) = subst (λ (n : ℕ). next_moment e ≤ n) (sym (never f h.core)) (t1_fits e (suc more) counted t1)
not_before e f cookie bytes more last counted t1 expires (had h waits) =
    before_all (next_moment e) last (next_moment f) (subst (λ (n : ℕ). next_moment e ≤ n) expires (next_is_first e more counted t1)) waits

-- What the clocks do in a round.
pub record Turned (side : Side) (options : Both Options) (run : List PerformedAct) (v w : View) (echo : Echo) (last : ℕ) : Type 0 where
  pub moment : ℕ
  pub is_next : moment ≡ next_moment v.endpoint
  pub others : List Transition
  pub remain : Remains v w echo.cookie echo.bytes last moment others
  pub at : AtOf side options run (again v (view_then w others) echo.cookie echo.bytes moment) (view_then w others)

pub turned_by : TimePassesQuietly → (side : Side) (options : Both Options) (earlier run : List PerformedAct) (v w : View) (echo : Echo) (more last : ℕ) → AreUsable options → AreFitting options
    → AtOf side options earlier v w → KeepOf side options v w → HasEchoed v.endpoint w.endpoint echo.cookie echo.bytes → RetriesT1 v.endpoint (suc more) → AnswersEcho v.endpoint w.endpoint echo.cookie last
    → next_moment v.endpoint ≤ next_moment w.endpoint → next_moment v.endpoint ≤ last → AdvancesBothClocks options earlier run → SocketRun options run → Turned side options run v w echo last
turned_by quiet side options earlier run v w echo more last are fit at keep echoed t1 other first within time runs =
    let moment : ℕ = lesser_of side v w in
    let counted : timers_counted v.endpoint.core ≡ t1_timer ∷ [] = ap timers_counted echoed.core in
    let good : Fit v.endpoint.options w.endpoint.options = fit_of side options v w are fit keep in
    let moved : MovedOf side options run v w moment = moves_of side options earlier run v w at keep time runs in
    let at_t1 : moment ≡ next_moment v.endpoint = moment_by side v w first in
    let by_last : moment ≤ last = subst (λ (k : ℕ). k ≤ last) (sym at_t1) within in
    let still : Remains v w echo.cookie echo.bytes last moment moved.others = remains quiet v w echo.cookie echo.bytes last moment moved.others echoed other by_last moved.others_turns in
    let there : View = view_then w moved.others in
    let due : DueT1 v.endpoint moment = subst (DueT1 v.endpoint) (sym at_t1) (due_next v.endpoint more counted t1) in
    let is : moved.mine ≡ repeated v.endpoint there.endpoint echo.cookie echo.bytes moment =
    repeats v.endpoint there.endpoint echo.cookie echo.bytes moment moved.mine (record { echoed = still.echoed; t1 = due }) good.good_a moved.mine_turns in
    record {
      moment = moment;
      is_next = at_t1;
      others = moved.others;
      remain = still;
      at = subst (λ (os : List Transition). AtOf side options run (view_then v os) there) is moved.at;
    }

turned : TimePassesQuietly → (side : Side) (options : Both Options) (earlier run : List PerformedAct) (echo : Echo) (more last : ℕ) → AreUsable options → AreFitting options
    → (h : EchoReady side options earlier echo (suc more) last) → AdvancesBothClocks options earlier run → SocketRun options run → Turned side options run h.v h.w echo last
turned quiet side options earlier run echo more last are fit h time runs =
    let counted : timers_counted h.v.endpoint.core ≡ t1_timer ∷ [] = ap timers_counted h.echoed.core in
    turned_by quiet side options earlier run h.v h.w echo more last are fit h.at h.keep h.echoed h.t1 h.other
    (not_before h.v.endpoint h.w.endpoint echo.cookie echo.bytes more last counted h.t1 h.expires h.other) (subst (λ (k : ℕ). next_moment h.v.endpoint ≤ k) h.expires (next_is_first h.v.endpoint more counted h.t1)) time runs

pub after_again : (v x : View) (cookie : Cookie) (bytes : List ℕ) (moment : ℕ) → HasEchoed v.endpoint x.endpoint cookie bytes → HasEchoed (again v x cookie bytes moment).endpoint x.endpoint cookie bytes
after_again v x cookie bytes moment h =
    record {
      core = h.core;
      reads = h.reads;
      fits = h.fits;
      offer = h.offer;
      idle = h.idle;
      owes = h.owes;
      delay = h.delay;
      asks = h.asks;
      errors = h.errors;
    }

answers_again : (v x : View) (cookie : Cookie) (bytes : List ℕ) (moment last : ℕ) → AnswersEcho v.endpoint x.endpoint cookie last → AnswersEcho (again v x cookie bytes moment).endpoint x.endpoint cookie last
answers_again v x cookie bytes moment last (missed h) = missed (record { core = h.core; empty = h.empty; taken = h.taken })
answers_again v x cookie bytes moment last (had h waits) = had (record { core = h.core; idle = h.idle; owes = h.owes }) waits

lost_echo : TimePassesQuietly → (side : Side) (options : Both Options) (earlier run : List PerformedAct) (echo : Echo) (more last : ℕ) → AreUsable options → AreFitting options
    → EchoReady side options earlier echo (suc more) last → AdvancesBothClocks options earlier run → SocketRun options run → EchoReady side options run echo more last
lost_echo quiet side options earlier run echo more last are fit h time runs =
    let t : Turned side options run h.v h.w echo last = turned quiet side options earlier run echo more last are fit h time runs in
    let counted : timers_counted h.v.endpoint.core ≡ t1_timer ∷ [] = ap timers_counted h.echoed.core in
    let there : View = view_then h.w t.others in
    let here : View = again h.v there echo.cookie echo.bytes t.moment in
    let fits : t.moment ≤ max_nanos = subst (λ (k : ℕ). k ≤ max_nanos) (sym t.is_next) (t1_fits h.v.endpoint (suc more) counted h.t1) in
    let now : t.moment ≡ max h.t1.timer.deadline h.v.endpoint.moment = t.is_next ∙ next_is h.v.endpoint h.t1.timer counted h.t1.runs in
    record {
      v = here;
      w = there;
      at = t.at;
      keep = keep_same side options h.v h.w here there refl t.remain.same h.keep;
      echoed = after_again h.v there echo.cookie echo.bytes t.moment t.remain.echoed;
      t1 = t1_continues h.v.endpoint here.endpoint more t.moment fits h.t1 refl refl;
      expires = same_expiry h.v.endpoint here.endpoint more t.moment h.t1.timer h.t1.runs now refl refl ∙ h.expires;
      other = answers_again h.v there echo.cookie echo.bytes t.moment last t.remain.answers;
      mine = h.mine;
      others = same_count there.endpoint.core h.w.endpoint.core there.told h.w.told t.remain.core t.remain.told ∙ h.others;
    }

lost_echoes : TimePassesQuietly → (lost : ℕ) (side : Side) (options : Both Options) (earlier run : List PerformedAct) (echo : Echo) (last : ℕ) → AreUsable options → AreFitting options
    → EchoReady side options earlier echo (suc lost) last → LostRounds options lost earlier run → SocketRun options run → EchoReady side options run echo 1 last
lost_echoes quiet zero side options earlier run echo last are fit h is runs = subst (λ (r : List PerformedAct). EchoReady side options r echo 1 last) (sym is) h
lost_echoes quiet (suc lost) side options earlier run echo last are fit h rounds runs =
    lost_echoes quiet lost side options rounds.0 run echo last are fit
    (lost_echo quiet side options earlier rounds.0 echo (suc lost) last are fit h rounds.1 (ran_lost options lost rounds.0 run rounds.2 runs)) rounds.2 runs

-- ---- the quiet round

pub now_answers : (e f : Endpoint) (cookie : Cookie) (last : ℕ) → last ≤ f.moment → AnswersEcho e f cookie last → KnowsCookie e f cookie
now_answers e f cookie last late (missed h) = not_yet (missed_now f cookie last late h)
now_answers e f cookie last late (had h waits) = already h

pub quiet_echo : HandshakeLaws → TimePassesQuietly → (side : Side) (options : Both Options) (settled : Both ℕ) (earlier run : List PerformedAct) (echo : Echo) (last : ℕ) → AreUsable options → AreFitting options
    → EchoReady side options earlier echo 1 last → QuietRound options (counts_shown options (turns_after earlier)) earlier settled run → SocketRun options run → SettledBy side options run echo.mine echo.others
quiet_echo law time side options settled earlier run echo last are fit h quiet runs =
    let between : SocketRun options quiet.between = ran_exchanges options 4 _ quiet.between settled run quiet.exchanges runs in
    let t : Turned side options quiet.between h.v h.w echo last = turned time side options earlier quiet.between echo 0 last are fit h quiet.time between in
    let counted : timers_counted h.v.endpoint.core ≡ t1_timer ∷ [] = ap timers_counted h.echoed.core in
    let there : View = view_then h.w t.others in
    let at_last : t.moment ≡ last = t.is_next ∙ first_expiry h.v.endpoint 1 counted h.t1 ∙ h.expires in
    let kept : KeepOf side options h.v there = keep_same side options h.v h.w h.v there refl t.remain.same h.keep in
    let both : Fit h.v.endpoint.options there.endpoint.options = fit_of side options h.v there are fit kept in
    let knows : KnowsCookie h.v.endpoint there.endpoint echo.cookie =
    now_answers h.v.endpoint there.endpoint echo.cookie last (subst (λ (k : ℕ). k ≤ there.endpoint.moment) at_last t.remain.late) t.remain.answers in
    let g : Waiting side options h.v there echo.cookie echo.bytes (connections_once_open there.endpoint.core there.told) = record {
      echoed = t.remain.echoed;
      ack = λ turns input. acknowledged law h.v.endpoint there echo.cookie echo.bytes turns t.remain.echoed knows both input;
      fit = both;
      keep = kept;
    } in
    let counts : Settles (counts_shown options (turns_after earlier)) side (length h.v.shown) (length h.w.shown) = settles side options earlier h.v h.w h.at in
    let joined : JoinedBy side options run h.v there (suc h.v.told) (connections_once_open there.endpoint.core there.told) =
    echo_exchanged law side options h.v there echo.cookie echo.bytes t.moment _ (counts_shown options (turns_after earlier)) settled quiet.between run g
    t.at (record { mine = counts.mine; others = counts.others ∙ sym t.remain.shown }) quiet.exchanges runs in
    subst (λ (k : ℕ). SettledBy side options run k echo.others) h.mine
    (subst (λ (k : ℕ). SettledBy side options run (suc h.v.told) k) (same_count there.endpoint.core h.w.endpoint.core there.told h.w.told t.remain.core t.remain.told ∙ h.others)
    (settled_in side options run h.v there _ _ kept joined))

pub echo_connects_after : HandshakeLaws → TimePassesQuietly → (side : Side) (options : Both Options) (lost : ℕ) (settled : Both ℕ) (earlier between run : List PerformedAct) (echo : Echo) (last : ℕ)
    → AreUsable options → AreFitting options → EchoReady side options earlier echo (suc lost) last → LostRounds options lost earlier between
    → QuietRound options (counts_shown options (turns_after between)) between settled run → SocketRun options run → SettledBy side options run echo.mine echo.others
echo_connects_after law time side options lost settled earlier between run echo last are fit h rounds quiet runs =
    let there : SocketRun options between = ran options between _ quiet.between quiet.time (ran_exchanges options 4 _ quiet.between settled run quiet.exchanges runs) in
    quiet_echo law time side options settled between run echo last are fit (lost_echoes time lost side options earlier between echo last are fit h rounds there) quiet runs
