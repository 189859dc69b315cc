-- Rounds whose packets are lost, while a socket has an older association: its timers may expire, whatever is in flight, and it stays
-- open.
use Rattle.std.specs.Duration.{max_nanos}
use Rattle.std.specs.Prelude.{◌+◌}
use Rattle.std.proofs.Common.{◌≡◌, ◌≤◌, ◌<◌, ◌^◌, ℕ, zero, suc, List, refl, sym, subst, ap, ◌∙◌, arith}
use Rattle.dcsctp_spec_lemmas.specs.types.declared.association.Pair.{Pair}
use Rattle.dcsctp_spec_lemmas.specs.types.declared.options.Options.{Options}
use Rattle.dcsctp_spec_lemmas.specs.types.declared.schedule.Side.{Side}
use Rattle.dcsctp_spec_lemmas.specs.spec.endpoint.CallTurns.{Transition, after_all, events_of}
use Rattle.dcsctp_spec_lemmas.specs.spec.endpoint.Endpoint.{Endpoint}
use Rattle.dcsctp_spec_lemmas.specs.spec.endpoint.TimeTurns.{AdvanceTurns}
use Rattle.dcsctp_spec_lemmas.specs.spec.queues.Tracker.{TrackerState, owes_acknowledgement, is_acknowledgement_due, delayed_acknowledgement}
use Rattle.dcsctp_spec_runs.specs.Sockets.{PerformedAct, Both, SocketRun}
use Rattle.dcsctp_theorem_sockets.specs.Agreement.{AreUsable}
use Rattle.dcsctp_theorem_sockets.specs.Handshake.{AreFitting}
use Rattle.dcsctp_theorem_progress.specs.Heartbeats.{SurvivesRounds}
use Rattle.dcsctp_theorem_progress.specs.Restarts.{HoldsOlder}
use Rattle.dcsctp_theorem_progress.specs.Retries.{LeavesRestarts, RetriesInit}
use Rattle.dcsctp_theorem_progress.specs.Rounds.{AdvancesBothClocks, LostRounds}
use Rattle.dcsctp_theorem_progress.proofs.AckLost.{lesser_within}
use Rattle.dcsctp_theorem_progress.proofs.Constant.{Tracks}
use Rattle.dcsctp_theorem_progress.proofs.DataBeats.{endured}
use Rattle.dcsctp_theorem_progress.proofs.Enduring.{EnduredAlong}
use Rattle.dcsctp_theorem_progress.proofs.Facts.{Fit}
use Rattle.dcsctp_theorem_progress.proofs.Handed.{keep_same}
use Rattle.dcsctp_theorem_progress.proofs.Promise.{MovedOf, fit_of, lesser_of, moves_of, ran_lost}
use Rattle.dcsctp_theorem_progress.proofs.Retries.{Onward, next_fits, onward}
use Rattle.dcsctp_theorem_progress.proofs.Views.{AtOf, KeepOf, View, told_then, view_then}

-- ---- a moment

two_more : (moments : ℕ) → suc moments + suc moments ≡ suc (suc (moments + moments))
two_more moments = omega arith

-- It still holds its association, and lasts for a moment less.
record HoldsOn (f : Endpoint) (p : Pair) (moments : ℕ) (turns : List Transition) : Type 0 where
  older : HoldsOlder (after_all f turns) p
  stays : SurvivesRounds (after_all f turns) moments
  same : (after_all f turns).options ≡ f.options
  told : (n : ℕ) → told_then (events_of turns) n ≡ n

holds_on : (f : Endpoint) (p : Pair) (moments moment : ℕ) (turns : List Transition) → HoldsOlder f p → SurvivesRounds f (suc moments) → AdvanceTurns f moment turns → HoldsOn f p moments turns
holds_on f p moments moment turns h s time =
    let tracker : TrackerState = h.transfer.tracker in
    let o : EnduredAlong h.held f turns (moments + moments) =
    endured h.held h.mine f moment (moments + moments) turns h.core
    (record { unpaused = h.unpaused; reconfiguration = s.reconfiguration; t2 = s.t2; errors = subst (LeavesRestarts f.options.max_retransmissions f.error_count) (two_more moments) s.errors }) time in
    let tracks : Tracks (after_all f turns) tracker = o.tracks tracker (record { owes = h.owes; due = h.due; delay = h.delay }) (record { transfer = h.transfer; known = h.known; same = refl }) in
    record {
      older = record {
        mine = h.mine;
        held = h.held;
        core = o.core ∙ h.core;
        peer = h.peer;
        tie = subst (λ (n : ℕ). n < 2 ^ 64) (sym o.tie) h.tie;
        transfer = tracks.transfer;
        known = tracks.known;
        unpaused = o.endures.unpaused;
        owes = ap owes_acknowledgement tracks.same ∙ h.owes;
        due = ap is_acknowledgement_due tracks.same ∙ h.due;
        delay = ap delayed_acknowledgement tracks.same ∙ h.delay;
      };
      stays = record { reconfiguration = o.endures.reconfiguration; t2 = o.endures.t2; errors = o.endures.errors };
      same = o.options;
      told = o.told;
    }

-- ---- lost rounds

-- This side awaits an INIT ACK with that many restarts left, and the other has an older association, which lasts for that many
-- moments. Each has told that often.
pub record OlderReady (side : Side) (options : Both Options) (run : List PerformedAct) (p : Pair) (more m n : ℕ) : Type 0 where
  pub v : View
  pub w : View
  pub at : AtOf side options run v w
  pub keep : KeepOf side options v w
  pub tries : RetriesInit v.endpoint p (suc more)
  pub older : HoldsOlder w.endpoint p
  pub stays : SurvivesRounds w.endpoint more
  pub mine : v.told ≡ m
  pub others : w.told ≡ n

lost_round : (side : Side) (options : Both Options) (earlier run : List PerformedAct) (p : Pair) (more m n : ℕ) → AreUsable options → AreFitting options → OlderReady side options earlier p (suc more) m n
    → AdvancesBothClocks options earlier run → SocketRun options run → OlderReady side options run p more m n
lost_round side options earlier run p more m n are fit h time runs =
    let v : View = h.v in
    let w : View = h.w in
    let moment : ℕ = lesser_of side v w in
    let good : Fit v.endpoint.options w.endpoint.options = fit_of side options v w are fit h.keep in
    let moved : MovedOf side options run v w moment = moves_of side options earlier run v w h.at h.keep time runs in
    let within : moment ≤ max_nanos = lesser_within side v w (next_fits v.endpoint p (suc (suc more)) h.tries) in
    let on : Onward v p (suc more) moved.mine = onward v p (suc more) moment moved.mine good.good_a.allow.mtu within h.tries moved.mine_turns in
    let still : HoldsOn w.endpoint p more moved.others = holds_on w.endpoint p more moment moved.others h.older h.stays moved.others_turns in
    record {
      v = view_then v moved.mine;
      w = view_then w moved.others;
      at = moved.at;
      keep = keep_same side options v w (view_then v moved.mine) (view_then w moved.others) on.same still.same h.keep;
      tries = on.tries;
      older = still.older;
      stays = still.stays;
      mine = on.told ∙ h.mine;
      others = still.told w.told ∙ h.others;
    }

pub lost_rounds : (lost : ℕ) (side : Side) (options : Both Options) (earlier run : List PerformedAct) (p : Pair) (m n : ℕ) → AreUsable options → AreFitting options → OlderReady side options earlier p lost m n
    → LostRounds options lost earlier run → SocketRun options run → OlderReady side options run p 0 m n
lost_rounds zero side options earlier run p m n are fit h is runs = subst (λ (r : List PerformedAct). OlderReady side options r p 0 m n) (sym is) h
lost_rounds (suc lost) side options earlier run p m n are fit h rounds runs =
    lost_rounds lost side options rounds.0 run p m n are fit (lost_round side options earlier rounds.0 p lost m n are fit h rounds.1 (ran_lost options lost rounds.0 run rounds.2 runs)) rounds.2 runs
