-- A lost COOKIE ACK, and rounds in which the other's heartbeats are lost too.
use Rattle.std.specs.Duration.{max_nanos}
use Rattle.std.proofs.Common.{◌≡◌, ◌≤◌, ◌<◌, ℕ, zero, suc, List, [], ◌∷◌, refl, sym, subst, ap, ◌∙◌, arith}
use Rattle.dcsctp_spec_lemmas.specs.types.declared.options.Options.{Options}
use Rattle.dcsctp_spec_lemmas.specs.types.declared.schedule.Side.{Side}
use Rattle.dcsctp_spec_lemmas.specs.types.declared.schedule.Side.TheVariants as sides
use Rattle.dcsctp_spec_lemmas.specs.spec.endpoint.CallTurns.{Transition}
use Rattle.dcsctp_spec_lemmas.specs.spec.endpoint.Endpoint.{Core}
use Rattle.dcsctp_spec_lemmas.specs.spec.endpoint.TimeTurns.{t1_timer, timers_counted, next_moment, TimePassesQuietly}
use Rattle.dcsctp_spec_runs.specs.Sockets.{PerformedAct, Both, turns_after, SocketRun}
use Rattle.dcsctp_theorem_sockets.specs.Agreement.{AreUsable}
use Rattle.dcsctp_theorem_sockets.specs.Handshake.{AreFitting}
use Rattle.dcsctp_theorem_sockets.proofs.HandshakeTurns.{HandshakeLaws}
use Rattle.dcsctp_theorem_progress.specs.Connecting.{connections_once_open}
use Rattle.dcsctp_theorem_progress.specs.Cookies.{HasEchoed, HadEcho, had}
use Rattle.dcsctp_theorem_progress.specs.Heartbeats.{OnlyBeats, LostAcksConnect}
use Rattle.dcsctp_theorem_progress.specs.Retries.{RetriesT1, t1_expiry}
use Rattle.dcsctp_theorem_progress.specs.Rounds.{AdvancesBothClocks, LostRounds, QuietRound, counts_shown}
use Rattle.dcsctp_theorem_progress.proofs.Beats.{Beaten, beaten}
use Rattle.dcsctp_theorem_progress.proofs.EchoLost.{EchoReady, quiet_echo}
use Rattle.dcsctp_theorem_progress.proofs.EchoRound.{Echo}
use Rattle.dcsctp_theorem_progress.proofs.Facts.{Fit}
use Rattle.dcsctp_theorem_progress.proofs.Handed.{keep_same}
use Rattle.dcsctp_theorem_progress.proofs.Promise.{MovedOf, SettledBy, fit_of, lesser_of, moves_of, ran_lost, once_more, connected_a, connected_b}
use Rattle.dcsctp_theorem_progress.proofs.Retries.{first_expiry, t1_fits}
use Rattle.dcsctp_theorem_progress.proofs.StillAwaiting.{AwaitsStill, awaits_still, echoed_beside, had_still}
use Rattle.dcsctp_theorem_progress.proofs.Views.{AtOf, KeepOf, View, ran, ran_exchanges, view, view_then}

-- ---- lost rounds

-- This side awaits a COOKIE ACK with that many restarts left, the other is Established by the cookie, and may miss that many answers.
record AckReady (side : Side) (options : Both Options) (run : List PerformedAct) (echo : Echo) (more less : ℕ) : Type 0 where
  v : View
  w : View
  at : AtOf side options run v w
  keep : KeepOf side options v w
  echoed : HasEchoed v.endpoint w.endpoint echo.cookie echo.bytes
  t1 : RetriesT1 v.endpoint more
  had_it : HadEcho v.endpoint w.endpoint echo.cookie
  only : OnlyBeats w.endpoint less
  mine : suc v.told ≡ echo.mine
  others : w.told ≡ echo.others

pub lesser_within : (side : Side) (v w : View) → next_moment v.endpoint ≤ max_nanos → lesser_of side v w ≤ max_nanos
lesser_within sides.A v w fits = omega (arith, fits)
lesser_within sides.B v w fits = omega (arith, fits)

lost_ack : (side : Side) (options : Both Options) (earlier run : List PerformedAct) (echo : Echo) (more less : ℕ) → AreUsable options → AreFitting options
    → AckReady side options earlier echo (suc more) (suc less) → AdvancesBothClocks options earlier run → SocketRun options run → AckReady side options run echo more less
lost_ack side options earlier run echo more less are fit h time runs =
    let v : View = h.v in
    let w : View = h.w in
    let moment : ℕ = lesser_of side v w in
    let good : Fit v.endpoint.options w.endpoint.options = fit_of side options v w are fit h.keep in
    let moved : MovedOf side options run v w moment = moves_of side options earlier run v w h.at h.keep time runs in
    let within : moment ≤ max_nanos = lesser_within side v w (t1_fits v.endpoint (suc more) (ap timers_counted h.echoed.core) h.t1) in
    let a : AwaitsStill v w echo.cookie echo.bytes more moved.mine = awaits_still v w echo.cookie echo.bytes more moment moved.mine good.good_a within h.echoed h.t1 moved.mine_turns in
    let b : Beaten w.endpoint less moved.others = beaten w.endpoint _ _ _ moment less moved.others h.had_it.core h.had_it.idle h.only moved.others_turns in
    let here : View = view_then v moved.mine in
    let there : View = view_then w moved.others in
    record {
      v = here;
      w = there;
      at = moved.at;
      keep = keep_same side options v w here there a.same b.beats.options h.keep;
      echoed = echoed_beside here.endpoint w.endpoint there.endpoint echo.cookie echo.bytes b.beats.options a.echoed;
      t1 = a.t1;
      had_it = had_still v.endpoint here.endpoint w.endpoint there.endpoint echo.cookie less a.same b.beats h.had_it;
      only = b.beats.only;
      mine = ap suc a.told ∙ h.mine;
      others = b.told w.told ∙ h.others;
    }

lost_acks : (lost : ℕ) (side : Side) (options : Both Options) (earlier run : List PerformedAct) (echo : Echo) → AreUsable options → AreFitting options
    → AckReady side options earlier echo (suc lost) lost → LostRounds options lost earlier run → SocketRun options run → AckReady side options run echo 1 0
lost_acks zero side options earlier run echo are fit h is runs = subst (λ (r : List PerformedAct). AckReady side options r echo 1 0) (sym is) h
lost_acks (suc lost) side options earlier run echo are fit h rounds runs =
    lost_acks lost side options rounds.0 run echo are fit
    (lost_ack side options earlier rounds.0 echo (suc lost) lost are fit h rounds.1 (ran_lost options lost rounds.0 run rounds.2 runs)) rounds.2 runs

-- ---- the quiet round

-- T1 comes first.
first_ready : (side : Side) (options : Both Options) (run : List PerformedAct) (echo : Echo) → (h : AckReady side options run echo 1 0)
    → next_moment h.v.endpoint < next_moment h.w.endpoint → EchoReady side options run echo 1 (t1_expiry h.v.endpoint 1)
first_ready side options run echo h waits =
    let counted : timers_counted h.v.endpoint.core ≡ t1_timer ∷ [] = ap timers_counted h.echoed.core in
    record {
      v = h.v;
      w = h.w;
      at = h.at;
      keep = h.keep;
      echoed = h.echoed;
      t1 = h.t1;
      expires = refl;
      other = had h.had_it (subst (λ (k : ℕ). k < next_moment h.w.endpoint) (first_expiry h.v.endpoint 1 counted h.t1) waits);
      mine = h.mine;
      others = ap (λ (core : Core). connections_once_open core h.w.told) h.had_it.core ∙ h.others;
    }

-- as the run shows them
pub comes_first : (side : Side) (options : Both Options) (run : List PerformedAct) (v w : View) → AtOf side options run v w → (x y : View) → AtOf side options run x y
    → next_moment x.endpoint < next_moment y.endpoint → next_moment v.endpoint < next_moment w.endpoint
comes_first sides.A options run v w at x y there waits =
    subst (λ (k : View). next_moment k.endpoint < next_moment w.endpoint) (sym there.a ∙ at.a)
    (subst (λ (k : View). next_moment x.endpoint < next_moment k.endpoint) (sym there.b ∙ at.b) waits)
comes_first sides.B options run v w at x y there waits =
    subst (λ (k : View). next_moment k.endpoint < next_moment w.endpoint) (sym there.b ∙ at.b)
    (subst (λ (k : View). next_moment x.endpoint < next_moment k.endpoint) (sym there.a ∙ at.a) waits)

acks_settle : HandshakeLaws → TimePassesQuietly → (side : Side) (options : Both Options) (lost : ℕ) (settled : Both ℕ) (earlier between run : List PerformedAct) (echo : Echo) (x y : View)
    → AreUsable options → AreFitting options → AckReady side options earlier echo (suc lost) lost → LostRounds options lost earlier between
    → AtOf side options between x y → next_moment x.endpoint < next_moment y.endpoint
    → QuietRound options (counts_shown options (turns_after between)) between settled run → SocketRun options run → SettledBy side options run echo.mine echo.others
acks_settle law time side options lost settled earlier between run echo x y are fit h rounds seen waits quiet runs =
    let there : SocketRun options between = ran options between _ quiet.between quiet.time (ran_exchanges options 4 _ quiet.between settled run quiet.exchanges runs) in
    let now : AckReady side options between echo 1 0 = lost_acks lost side options earlier between echo are fit h rounds there in
    quiet_echo law time side options settled between run echo (t1_expiry now.v.endpoint 1) are fit
    (first_ready side options between echo now (comes_first side options between now.v now.w now.at x y seen waits)) quiet runs

-- ---- the law

pub lost_acks_connect : HandshakeLaws → TimePassesQuietly → LostAcksConnect
lost_acks_connect law time options run are fit runs sides.A lost settled earlier between cookie bytes keeps_a keeps_b echoed t1 had_it only rounds waits quiet =
    let turns : Both (List Transition) = turns_after earlier in
    let v : View = view options.a turns.a in
    let w : View = view options.b turns.b in
    let echo : Echo = record { cookie = cookie; bytes = bytes; mine = suc v.told; others = w.told } in
    let ready : AckReady sides.A options earlier echo (suc lost) lost = record {
      v = v;
      w = w;
      at = record { a = refl; b = refl };
      keep = record { a = keeps_a.same; b = keeps_b.same };
      echoed = echoed;
      t1 = t1;
      had_it = had_it;
      only = only;
      mine = refl;
      others = refl;
    } in
    connected_a options turns run _ _ (once_more v _ echoed.core refl) (record { once = sym (ap (λ (core : Core). connections_once_open core w.told) had_it.core) })
    (acks_settle law time sides.A options lost settled earlier between run echo (view options.a (turns_after between).a) (view options.b (turns_after between).b) are fit ready rounds
    (record { a = refl; b = refl }) waits quiet runs)
lost_acks_connect law time options run are fit runs sides.B lost settled earlier between cookie bytes keeps_b keeps_a echoed t1 had_it only rounds waits quiet =
    let turns : Both (List Transition) = turns_after earlier in
    let v : View = view options.b turns.b in
    let w : View = view options.a turns.a in
    let echo : Echo = record { cookie = cookie; bytes = bytes; mine = suc v.told; others = w.told } in
    let ready : AckReady sides.B options earlier echo (suc lost) lost = record {
      v = v;
      w = w;
      at = record { a = refl; b = refl };
      keep = record { a = keeps_a.same; b = keeps_b.same };
      echoed = echoed;
      t1 = t1;
      had_it = had_it;
      only = only;
      mine = refl;
      others = refl;
    } in
    connected_b options turns run _ _ (record { once = sym (ap (λ (core : Core). connections_once_open core w.told) had_it.core) }) (once_more v _ echoed.core refl)
    (acks_settle law time sides.B options lost settled earlier between run echo (view options.b (turns_after between).b) (view options.a (turns_after between).a) are fit ready rounds
    (record { a = refl; b = refl }) waits quiet runs)
