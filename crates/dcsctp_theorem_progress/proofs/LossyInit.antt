-- A lossy round before the COOKIE ECHO: INIT, INIT ACK, COOKIE ECHO and COOKIE ACK, as far as they come, and data behind these.
use Rattle.std.specs.Duration.{max_nanos}
use Rattle.std.proofs.Common.{◌≡◌, ◌≤◌, ℕ, suc, false, List, length, refl, sym, subst, ◌∙◌}
use Rattle.dcsctp_spec_lemmas.specs.types.declared.association.Pair.{Pair}
use Rattle.dcsctp_spec_lemmas.specs.types.declared.options.Options.{Options}
use Rattle.dcsctp_spec_lemmas.specs.types.declared.schedule.Side.{Side}
use Rattle.dcsctp_spec_lemmas.specs.spec.Cookie.{Cookie, cookie_bytes}
use Rattle.dcsctp_spec_lemmas.specs.spec.association.HandshakeChanges.{introduction_of}
use Rattle.dcsctp_spec_lemmas.specs.spec.endpoint.CallTurns.{Transition}
use Rattle.dcsctp_spec_lemmas.specs.spec.endpoint.Endpoint.{Endpoint}
use Rattle.dcsctp_spec_lemmas.specs.spec.endpoint.HandshakeOutcomes.{pair_from}
use Rattle.dcsctp_spec_lemmas.specs.spec.endpoint.HeartbeatOutcomes.{is_exhausted}
use Rattle.dcsctp_spec_lemmas.specs.spec.endpoint.TimeTurns.{next_moment}
use Rattle.dcsctp_spec_runs.specs.Sockets.{PerformedAct, Both, turns_after, SocketRun}
use Rattle.dcsctp_theorem_sockets.specs.Agreement.{AreUsable}
use Rattle.dcsctp_theorem_sockets.specs.Handshake.{AreFitting}
use Rattle.dcsctp_theorem_progress.specs.Connecting.{RestsWithoutTag}
use Rattle.dcsctp_theorem_progress.specs.Retries.{LeavesRestarts, RetriesInit}
use Rattle.dcsctp_theorem_progress.specs.Rounds.{counts_shown}
use Rattle.dcsctp_theorem_sockets.proofs.HandshakeTurns.{HandshakeLaws, answer_to}
use Rattle.dcsctp_theorem_progress.proofs.Handed.{Settles, settles, keep_same}
use Rattle.dcsctp_theorem_progress.proofs.Promise.{MovedOf, fit_of, lesser_of, moment_is, moves_of}
use Rattle.dcsctp_theorem_progress.proofs.Retries.{awaits_next, never, next_fits, Onward, onward, Resting, resting, fewer as less_restarts}
use Rattle.dcsctp_theorem_progress.proofs.Starts.{answered, replied_anew}
use Rattle.dcsctp_theorem_progress.proofs.Turns.{Answers, answers, init_packet, init_repeated, t1_sends_init}
use Rattle.dcsctp_theorem_progress.proofs.Views.{AtOf, KeepOf, View, view_then}
use Rattle.dcsctp_theorem_progress.specs.LossyRounds.{LossyExchanges, LossyRound, still_inits, takes_it}
use Rattle.dcsctp_theorem_progress.specs.LostInits.{AwaitsInitAck}
use Rattle.dcsctp_theorem_progress.proofs.Carrying.{EchoesAlong, echoes_along}
use Rattle.dcsctp_theorem_progress.proofs.Chain.{begun}
use Rattle.dcsctp_theorem_progress.proofs.Echoes.{answer_packet}
use Rattle.dcsctp_theorem_progress.proofs.Facts.{Fit, fits_drawn, secret_fits, owes_unheld}
use Rattle.dcsctp_theorem_progress.proofs.GivenCookies.{Start, cookie_given, t1_begun, awaits_ack, goes_alone, takes_cookie}
use Rattle.dcsctp_theorem_progress.proofs.Lossy.{HandedOrLost, given, lost, maybe_handed, BackOrLost, given_back, lost_back, maybe_back, lossy_end, ran_lossy}
use Rattle.dcsctp_theorem_progress.proofs.Answering.{Awaiting, Answering, answering}
use Rattle.dcsctp_theorem_progress.proofs.LossyAcks.{echo_led}
use Rattle.dcsctp_theorem_progress.proofs.LossyEcho.{Led, as_far}

-- ---- INIT ACK

by_answer : HandshakeLaws → (side : Side) (options : Both Options) (settled settled' : Both ℕ) (earlier run : List PerformedAct) (v w : View) (p : Pair) (moment more word next : ℕ) →
    let here = begun v p moment in
    let there = answered v w p word next in
    Start side options v w p moment more → AtOf side options earlier here there → (rest : LossyExchanges options 3 settled earlier settled' run)
    → BackOrLost side options earlier rest.0 here there (answer_packet v.endpoint.options w.endpoint.options p (pair_from word next) (cookie_given v w p word next))
    → SocketRun options run → Led side options run more (suc v.told) (suc w.told)
by_answer law side options settled settled' earlier run v w p moment more word next s at rest (lost_back same) runs =
    let here : View = begun v p moment in
    let there : View = answered v w p word next in
    let is : run ≡ earlier = lossy_end 2 side options settled settled' earlier rest.0 run here there at same rest.2 in
    as_far here there (subst (λ (r : List PerformedAct). AtOf side options r here there) (sym is) at) (keep_same side options v w here there refl refl s.ground.keep)
    (still_inits p s.again
    (record {
      rests = record { core = s.rests.rests.core; unheld = s.rests.rests.unheld; unpaused = s.rests.rests.unpaused; secret = secret_fits w.endpoint (pair_from word next) (fits_drawn word next) s.rests.rests.secret };
      anew = s.rests.anew;
    })
    s.errors)
by_answer law side options settled settled' earlier run v w p moment more word next s at rest (given_back i) runs =
    let a : Options = v.endpoint.options in
    let b : Options = w.endpoint.options in
    let here : View = begun v p moment in
    let there : View = answered v w p word next in
    let q : Pair = pair_from word next in
    let cookie : Cookie = cookie_given v w p word next in
    let bytes : List ℕ = cookie_bytes cookie in
    let one : EchoesAlong here.endpoint p (answer_to a b p q) bytes i.turns =
    echoes_along law here.endpoint b p q cookie i.turns s.ground.awaits.core s.ground.fit.good_a s.ground.fit.good_b s.ground.awaits.pair (fits_drawn word next) s.ground.fit.to_a i.input in
    let after : View = view_then here i.turns in
    let awaiting : Awaiting side options after there cookie bytes more = record {
      keep = keep_same side options v w after there one.options refl s.ground.keep;
      fit = subst (λ (o : Options). Fit o b) (sym one.options) s.ground.fit;
      awaits = awaits_ack law side options v w p moment more word next i.turns s one;
      t1 = t1_begun side options v w p moment more (answer_to a b p q) bytes one.word after.endpoint s one.trying;
    } in
    let answers : Answering there after.endpoint.options cookie bytes (suc there.told) =
    subst (λ (o : Options). Answering there o cookie bytes (suc there.told)) (sym one.options)
    (answering suc there a cookie bytes (replied_anew law side options v w p moment word next s.ground s.rests.rests s.rests.anew).takes) in
    subst (λ (k : ℕ). Led side options run more (suc k) (suc w.told)) (one.told v.told)
    (echo_led law.wire 1 side options (counts_shown options (turns_after earlier)) settled' rest.0 run after there cookie bytes here.shown more (suc there.told) awaiting
    (takes_it (takes_cookie side options v w p moment more word next s)) answers (goes_alone law side options v w p moment more word next i.turns s one) i.at
    (settles side options earlier here there at) rest.2 runs)

-- ---- INIT

by_init : HandshakeLaws → (side : Side) (options : Both Options) (settled settled' : Both ℕ) (earlier run : List PerformedAct) (v w : View) (p : Pair) (moment more : ℕ) → Start side options v w p moment more
    → AtOf side options earlier (begun v p moment) w → (rest : LossyExchanges options 4 settled earlier settled' run)
    → HandedOrLost side options earlier rest.0 (begun v p moment) w (init_packet v.endpoint.options p) → SocketRun options run → Led side options run more (suc v.told) (suc w.told)
by_init law side options settled settled' earlier run v w p moment more s at rest (lost same) runs =
    let here : View = begun v p moment in
    let is : run ≡ earlier = lossy_end 3 side options settled settled' earlier rest.0 run here w at same rest.2 in
    as_far here w (subst (λ (r : List PerformedAct). AtOf side options r here w) (sym is) at) (keep_same side options v w here w refl refl s.ground.keep) (still_inits p s.again s.rests s.errors)
by_init law side options settled settled' earlier run v w p moment more s at rest (given h) runs =
    let a : Options = v.endpoint.options in
    let f : Endpoint = w.endpoint in
    let here : View = begun v p moment in
    let one : Answers f (introduction_of a p) h.turns =
    answers law f a p h.turns s.rests.rests.core (owes_unheld f s.rests.rests.unheld) s.ground.fit.good_a s.ground.fit.good_b s.ground.awaits.pair s.ground.fit.to_b h.input in
    let there : View = answered v w p one.word one.next in
    let at_there : AtOf side options rest.0 here there = subst (λ (os : List Transition). AtOf side options rest.0 here (view_then w os)) one.only h.at in
    let counts : Settles (counts_shown options (turns_after earlier)) side (length here.shown) (length w.shown) = settles side options earlier here w at in
    by_answer law side options (counts_shown options (turns_after earlier)) settled' rest.0 run v w p moment more one.word one.next s at_there rest.2
    (maybe_back side options (counts_shown options (turns_after earlier)) rest.0 rest.2.0 here there _ at_there (keep_same side options v w here there refl refl s.ground.keep)
    (record { before = w.shown; shown = refl; others = counts.others; mine = counts.mine }) rest.2.1 (ran_lossy options 2 _ settled' rest.2.0 run rest.2.2 runs)) runs

-- ---- the round

pub lossy_init : HandshakeLaws → (side : Side) (options : Both Options) (settled : Both ℕ) (earlier run : List PerformedAct) (v w : View) (p : Pair) (more : ℕ) → AreUsable options → AreFitting options
    → AtOf side options earlier v w → KeepOf side options v w → RetriesInit v.endpoint p (suc more) → RestsWithoutTag w.endpoint → LeavesRestarts v.endpoint.options.max_init_retransmits 0 (suc more)
    → is_exhausted v.endpoint.options.max_retransmissions v.endpoint.error_count ≡ false
    → LossyRound options (counts_shown options (turns_after earlier)) earlier settled run → SocketRun options run → Led side options run more (suc v.told) (suc w.told)
lossy_init law side options settled earlier run v w p more are fit at keep tries rests restarts errors lossy runs =
    let moment : ℕ = lesser_of side v w in
    let good : Fit v.endpoint.options w.endpoint.options = fit_of side options v w are fit keep in
    let between : SocketRun options lossy.between = ran_lossy options 4 _ settled lossy.between run lossy.exchanges runs in
    let moved : MovedOf side options lossy.between v w moment = moves_of side options earlier lossy.between v w at keep lossy.time between in
    let still : Resting w moved.others = resting w moment moved.others rests moved.others_turns in
    let within : next_moment v.endpoint ≤ max_nanos = next_fits v.endpoint p (suc more) tries in
    let at_t1 : moment ≡ next_moment v.endpoint = moment_is side v w within (never w.endpoint rests.rests.core) in
    let fits : moment ≤ max_nanos = subst (λ (k : ℕ). k ≤ max_nanos) (sym at_t1) within in
    let awaits : AwaitsInitAck v.endpoint p moment = subst (AwaitsInitAck v.endpoint p) (sym at_t1) (awaits_next v.endpoint p more tries) in
    let is : moved.mine ≡ init_repeated v.endpoint p moment = t1_sends_init v.endpoint p moment moved.mine awaits.core good.good_a.allow.mtu awaits.t1 moved.mine_turns in
    let on : Onward v p more moved.mine = onward v p more moment moved.mine good.good_a.allow.mtu fits tries moved.mine_turns in
    let there : View = view_then w moved.others in
    let kept : KeepOf side options v there = keep_same side options v w v there refl still.same keep in
    let s : Start side options v there p moment more = record {
      ground = record { awaits = awaits; fit = subst (λ (o : Options). Fit v.endpoint.options o) (sym still.same) good; keep = kept };
      rests = still.rests;
      again = subst (λ (os : List Transition). RetriesInit (view_then v os).endpoint p more) is on.tries;
      restarts = less_restarts v.endpoint.options.max_init_retransmits 0 more restarts;
      errors = errors;
      fits = fits;
    } in
    let counts : Settles (counts_shown options (turns_after earlier)) side (length v.shown) (length w.shown) = settles side options earlier v w at in
    let at_start : AtOf side options lossy.between (begun v p moment) there = subst (λ (os : List Transition). AtOf side options lossy.between (view_then v os) there) is moved.at in
    subst (λ (k : ℕ). Led side options run more (suc v.told) (suc k)) still.told
    (by_init law side options (counts_shown options (turns_after earlier)) settled lossy.between run v there p moment more s at_start lossy.exchanges
    (maybe_handed side options (counts_shown options (turns_after earlier)) lossy.between lossy.exchanges.0 (begun v p moment) there (init_packet v.endpoint.options p) at_start
    (keep_same side options v there (begun v p moment) there refl refl kept)
    (record { before = v.shown; shown = refl; mine = counts.mine; others = counts.others ∙ sym still.shown }) lossy.exchanges.1
    (ran_lossy options 3 _ settled lossy.exchanges.0 run lossy.exchanges.2 runs)) runs)
