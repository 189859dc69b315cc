-- Lost rounds are made good, whoever tries.
use Rattle.std.proofs.Common.{ℕ, suc, List, refl}
use Rattle.dcsctp_spec_lemmas.specs.types.declared.options.Options.{Options}
use Rattle.dcsctp_spec_lemmas.specs.types.declared.schedule.Side.TheVariants as sides
use Rattle.dcsctp_spec_lemmas.specs.spec.endpoint.Endpoint.{closed, cookie_wait}
use Rattle.dcsctp_spec_lemmas.specs.spec.endpoint.CallTurns.{Transition}
use Rattle.dcsctp_spec_lemmas.specs.spec.endpoint.TimeTurns.{TimePassesQuietly}
use Rattle.dcsctp_spec_runs.specs.Sockets.{PerformedAct, Both, turns_after, endpoint_after, SocketRun}
use Rattle.dcsctp_theorem_sockets.specs.Agreement.{AreUsable}
use Rattle.dcsctp_theorem_sockets.specs.Handshake.{AreFitting}
use Rattle.dcsctp_theorem_progress.specs.Rounds.{counts_shown, LostRounds, QuietRound}
use Rattle.dcsctp_theorem_progress.specs.LostInits.{KeepsOptions}
use Rattle.dcsctp_theorem_progress.specs.Connecting.{MayConnect, a_tries, b_tries, both_try, a_echoes, b_echoes, a_resends, b_resends, HaveConnected, LostRoundsAreMadeGood}
use Rattle.dcsctp_theorem_sockets.proofs.HandshakeTurns.{HandshakeLaws}
use Rattle.dcsctp_theorem_progress.proofs.Views.{View, view, ran, ran_exchanges}
use Rattle.dcsctp_theorem_progress.proofs.Promise.{Ready, one_connects, once_more, connected_a, connected_b}
use Rattle.dcsctp_theorem_progress.proofs.EchoLost.{echo_ready, echo_connects_after}
use Rattle.dcsctp_theorem_progress.specs.Retries.{t1_expiry}
use Rattle.dcsctp_theorem_progress.proofs.DataRounds.{DataReady, data_connects_after}
use Rattle.dcsctp_theorem_progress.proofs.TwoTry.{BothReady, both_connect_after}

by_who : HandshakeLaws → TimePassesQuietly → (options : Both Options) (lost : ℕ) (settled : Both ℕ) (earlier between run : List PerformedAct) → AreUsable options → AreFitting options →
    let turns = turns_after earlier in
    let e = endpoint_after options.a turns.a in
    let f = endpoint_after options.b turns.b in
    KeepsOptions options.a e → KeepsOptions options.b f → MayConnect (suc lost) e f → LostRounds options lost earlier between
    → QuietRound options (counts_shown options (turns_after between)) between settled run → SocketRun options run
    → HaveConnected options turns (turns_after run)
by_who law time options lost settled earlier between run are fit keeps_a keeps_b (a_tries p tries rests) rounds quiet runs =
    let turns : Both (List Transition) = turns_after earlier in
    let ready : Ready sides.A options earlier p (suc lost) (view options.a turns.a).told (view options.b turns.b).told = record {
      v = view options.a turns.a;
      w = view options.b turns.b;
      at = record { a = refl; b = refl };
      keep = record { a = keeps_a.same; b = keeps_b.same };
      tries = tries;
      rests = rests;
      mine = refl;
      others = refl;
    } in
    connected_a options turns run _ _ (once_more (view options.a turns.a) (cookie_wait p) tries.core refl) (once_more (view options.b turns.b) closed rests.rests.core refl)
    (one_connects law sides.A options lost settled earlier between run p _ _ are fit ready rounds quiet runs)
by_who law time options lost settled earlier between run are fit keeps_a keeps_b (b_tries p tries rests) rounds quiet runs =
    let turns : Both (List Transition) = turns_after earlier in
    let ready : Ready sides.B options earlier p (suc lost) (view options.b turns.b).told (view options.a turns.a).told = record {
      v = view options.b turns.b;
      w = view options.a turns.a;
      at = record { a = refl; b = refl };
      keep = record { a = keeps_a.same; b = keeps_b.same };
      tries = tries;
      rests = rests;
      mine = refl;
      others = refl;
    } in
    connected_b options turns run _ _ (once_more (view options.a turns.a) closed rests.rests.core refl) (once_more (view options.b turns.b) (cookie_wait p) tries.core refl)
    (one_connects law sides.B options lost settled earlier between run p _ _ are fit ready rounds quiet runs)
by_who law time options lost settled earlier between run are fit keeps_a keeps_b (both_try p q tries_a own_a tries_b own_b) rounds quiet runs =
    let turns : Both (List Transition) = turns_after earlier in
    let ready : BothReady options earlier p q (suc lost) (view options.a turns.a).told (view options.b turns.b).told = record {
      v = view options.a turns.a;
      w = view options.b turns.b;
      at = record { a = refl; b = refl };
      keep = record { a = keeps_a.same; b = keeps_b.same };
      here = tries_a;
      there = tries_b;
      own_here = own_a;
      own_there = own_b;
      told_here = refl;
      told_there = refl;
    } in
    let first : SocketRun options between = ran options between _ quiet.between quiet.time (ran_exchanges options 4 _ quiet.between settled run quiet.exchanges runs) in
    both_connect_after law options turns lost settled earlier between run p q are fit ready rounds quiet first runs
    (once_more (view options.a turns.a) (cookie_wait p) tries_a.core refl) (once_more (view options.b turns.b) (cookie_wait q) tries_b.core refl)
by_who law time options lost settled earlier between run are fit keeps_a keeps_b (a_echoes cookie bytes retries) rounds quiet runs =
    let turns : Both (List Transition) = turns_after earlier in
    let v : View = view options.a turns.a in
    let w : View = view options.b turns.b in
    connected_a options turns run _ _ (once_more v _ retries.echoed.core refl) (record { once = refl })
    (echo_connects_after law time sides.A options lost settled earlier between run _ _ are fit
    (echo_ready sides.A options earlier v w cookie bytes lost (record { a = refl; b = refl }) (record { a = keeps_a.same; b = keeps_b.same }) retries) rounds quiet runs)
by_who law time options lost settled earlier between run are fit keeps_a keeps_b (b_echoes cookie bytes retries) rounds quiet runs =
    let turns : Both (List Transition) = turns_after earlier in
    let v : View = view options.b turns.b in
    let w : View = view options.a turns.a in
    connected_b options turns run _ _ (record { once = refl }) (once_more v _ retries.echoed.core refl)
    (echo_connects_after law time sides.B options lost settled earlier between run _ _ are fit
    (echo_ready sides.B options earlier v w cookie bytes lost (record { a = refl; b = refl }) (record { a = keeps_a.same; b = keeps_b.same }) retries) rounds quiet runs)
by_who law time options lost settled earlier between run are fit keeps_a keeps_b (a_resends cookie bytes h) rounds quiet runs =
    let turns : Both (List Transition) = turns_after earlier in
    let v : View = view options.a turns.a in
    let w : View = view options.b turns.b in
    let ready : DataReady sides.A options earlier cookie bytes (suc lost) (t1_expiry v.endpoint (suc lost)) v.told w.told = record {
      v = v;
      w = w;
      at = record { a = refl; b = refl };
      keep = record { a = keeps_a.same; b = keeps_b.same };
      echoed = h.echoed;
      t1 = h.t1;
      expires = refl;
      other = h.other;
      mine = refl;
      others = refl;
    } in
    connected_a options turns run _ _ (once_more v _ h.echoed.core refl) (once_more w closed h.other.core refl)
    (data_connects_after law sides.A options lost settled earlier between run cookie bytes _ _ _ are fit ready rounds quiet runs)
by_who law time options lost settled earlier between run are fit keeps_a keeps_b (b_resends cookie bytes h) rounds quiet runs =
    let turns : Both (List Transition) = turns_after earlier in
    let v : View = view options.b turns.b in
    let w : View = view options.a turns.a in
    let ready : DataReady sides.B options earlier cookie bytes (suc lost) (t1_expiry v.endpoint (suc lost)) v.told w.told = record {
      v = v;
      w = w;
      at = record { a = refl; b = refl };
      keep = record { a = keeps_a.same; b = keeps_b.same };
      echoed = h.echoed;
      t1 = h.t1;
      expires = refl;
      other = h.other;
      mine = refl;
      others = refl;
    } in
    connected_b options turns run _ _ (once_more w closed h.other.core refl) (once_more v _ h.echoed.core refl)
    (data_connects_after law sides.B options lost settled earlier between run cookie bytes _ _ _ are fit ready rounds quiet runs)

pub lost_rounds_are_made_good : HandshakeLaws → TimePassesQuietly → LostRoundsAreMadeGood
lost_rounds_are_made_good law time options run are fit runs lost settled earlier between keeps_a keeps_b who rounds quiet =
    by_who law time options lost settled earlier between run are fit keeps_a keeps_b who rounds quiet runs
