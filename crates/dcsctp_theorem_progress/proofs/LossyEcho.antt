-- A lossy round after a COOKIE ECHO: it comes or not, and so does the COOKIE ACK to it.
use Rattle.std.specs.Duration.{max_nanos}
use Rattle.std.proofs.Common.{◌≡◌, ◌≤◌, ◌<◌, ℕ, suc, List, [], ◌∷◌, ◌++◌, length, refl, sym, subst, ap, ◌∙◌, arith}
use Rattle.std.proofs.lemmas.List.{append-nil}
use Rattle.dcsctp_spec_lemmas.specs.types.declared.association.Held.{Held}
use Rattle.dcsctp_spec_lemmas.specs.types.declared.options.Options.{Options}
use Rattle.dcsctp_spec_lemmas.specs.types.declared.schedule.Side.{Side}
use Rattle.dcsctp_spec_lemmas.specs.spec.Cookie.{Cookie}
use Rattle.dcsctp_spec_lemmas.specs.spec.endpoint.CallTurns.{Transition}
use Rattle.dcsctp_spec_lemmas.specs.spec.endpoint.Endpoint.{Endpoint}
use Rattle.dcsctp_spec_lemmas.specs.spec.endpoint.TimeTurns.{TimePassesQuietly, next_moment, t1_timer, timers_counted}
use Rattle.dcsctp_spec_runs.specs.Sockets.{PerformedAct, Both, turns_after, SocketRun}
use Rattle.dcsctp_theorem_sockets.specs.Agreement.{AreUsable}
use Rattle.dcsctp_theorem_sockets.specs.Handshake.{AreFitting}
use Rattle.dcsctp_theorem_progress.specs.Connecting.{connections_once_open}
use Rattle.dcsctp_theorem_progress.specs.Cookies.{HasEchoed, HadEcho, KnowsCookie, not_yet, already, AnswersEcho, missed, had}
use Rattle.dcsctp_theorem_progress.specs.LossyRounds.{LossyExchanges, LossyRound, IsTrying, still_echoes}
use Rattle.dcsctp_theorem_progress.specs.Retries.{RetriesT1}
use Rattle.dcsctp_theorem_progress.specs.Rounds.{counts_shown}
use Rattle.dcsctp_theorem_sockets.proofs.HandshakeTurns.{HandshakeLaws}
use Rattle.dcsctp_theorem_progress.proofs.StillAwaiting.{echoed_beside, linked_with}
use Rattle.dcsctp_theorem_progress.proofs.EchoLost.{Turned, now_answers, turned_by, after_again, same_count}
use Rattle.dcsctp_theorem_progress.proofs.EchoRound.{Echo, echo_of, Acknowledged, acknowledged, again}
use Rattle.dcsctp_theorem_progress.proofs.EchoRuns.{held_here, owes_same, pairs_fit}
use Rattle.dcsctp_theorem_progress.proofs.Echoes.{acknowledgement_packet, bytes_packet, connects_last}
use Rattle.dcsctp_theorem_progress.proofs.Facts.{Fit, connected_turns}
use Rattle.dcsctp_theorem_progress.proofs.Handed.{UnderBack, HandedBack, Settles, settles, keep_same}
use Rattle.dcsctp_theorem_progress.proofs.Lossy.{HandedOrLost, given, lost, maybe_handed, BackOrLost, given_back, lost_back, maybe_back, lossy_rest, lossy_end, ran_lossy}
use Rattle.dcsctp_theorem_progress.proofs.Promise.{SettledBy, settled_in, fit_of}
use Rattle.dcsctp_theorem_progress.proofs.Retries.{never, t1_continues, t1_fits}
use Rattle.dcsctp_theorem_progress.proofs.Views.{AtOf, KeepOf, View, view_then}

before : (n m : ℕ) → n < m → n ≤ m
before n m less = omega (arith, less)

same_least : (n : ℕ) → n ≤ n
same_least n = omega arith

-- ---- where a round leads

-- Both views at its end are so, or both are linked, and have told that often.
pub data Led (side : Side) (options : Both Options) (run : List PerformedAct) (more m n : ℕ) : Type 0 where
  as_far : (here there : View) → AtOf side options run here there → KeepOf side options here there → IsTrying more here.endpoint there.endpoint → Led side options run more m n
  joined : SettledBy side options run m n → Led side options run more m n

-- ---- the COOKIE ACK

-- This side awaits it, and the other has just sent it.
pub record Acking (side : Side) (options : Both Options) (here there : View) (echo : Echo) (more : ℕ) : Type 0 where
  pub keep : KeepOf side options here there
  pub fit : Fit here.endpoint.options there.endpoint.options
  pub echoed : HasEchoed here.endpoint there.endpoint echo.cookie echo.bytes
  pub t1 : RetriesT1 here.endpoint more
  pub had_it : HadEcho here.endpoint there.endpoint echo.cookie
  pub mine : suc here.told ≡ echo.mine
  pub others : there.told ≡ echo.others

ack_comes : HandshakeLaws → (k : ℕ) (side : Side) (options : Both Options) (settled' : Both ℕ) (earlier between run : List PerformedAct) (here there : View) (echo : Echo) (more : ℕ)
    → AtOf side options earlier here there → Acking side options here there echo more
    → HandedBack side options between here there (acknowledgement_packet there.endpoint.options echo.cookie)
    → LossyExchanges options k (counts_shown options (turns_after earlier)) between settled' run → SettledBy side options run echo.mine echo.others
ack_comes law k side options settled' earlier between run here there echo more at g i rest =
    let e : Endpoint = here.endpoint in
    let f : Endpoint = there.endpoint in
    let held : Held = held_here e f echo.cookie in
    let last : i.turns ≡ connected_turns e echo.cookie.addressee held =
    connects_last law e f.options echo.cookie echo.cookie.addressee held echo.bytes i.turns g.echoed.core g.echoed.asks g.echoed.idle (owes_same e.queues.transfer g.echoed.owes) refl g.echoed.offer
    g.fit.good_b (pairs_fit e f echo.cookie echo.bytes g.echoed).here g.fit.to_a i.input in
    let end : View = view_then here (connected_turns e echo.cookie.addressee held) in
    let at_end : AtOf side options between end there = subst (λ (os : List Transition). AtOf side options between (view_then here os) there) last i.at in
    let counts : Settles (counts_shown options (turns_after earlier)) side (length here.shown) (length there.shown) = settles side options earlier here there at in
    let is : run ≡ between =
    lossy_rest k side options (counts_shown options (turns_after earlier)) settled' between run end there at_end
    (record { mine = counts.mine ∙ sym (ap length (append-nil here.shown)); others = counts.others }) rest in
    subst (λ (r : List PerformedAct). SettledBy side options r echo.mine echo.others) (sym is)
    (settled_in side options between here there echo.mine echo.others g.keep
    (record {
      here = end;
      there = there;
      at = at_end;
      p = echo.cookie.addressee;
      q = echo.cookie.maker;
      linked = record { here = refl; there = g.had_it.core };
      told_here = g.mine;
      told_there = g.others;
    }))

by_ack : HandshakeLaws → (k : ℕ) (side : Side) (options : Both Options) (settled' : Both ℕ) (earlier between run : List PerformedAct) (here there : View) (echo : Echo) (more : ℕ)
    → AtOf side options earlier here there → Acking side options here there echo more
    → BackOrLost side options earlier between here there (acknowledgement_packet there.endpoint.options echo.cookie)
    → LossyExchanges options k (counts_shown options (turns_after earlier)) between settled' run → Led side options run more echo.mine echo.others
by_ack law k side options settled' earlier between run here there echo more at g (given_back i) rest =
    joined (ack_comes law k side options settled' earlier between run here there echo more at g i rest)
by_ack law k side options settled' earlier between run here there echo more at g (lost_back same) rest =
    let is : run ≡ earlier = lossy_end k side options (counts_shown options (turns_after earlier)) settled' earlier between run here there at same rest in
    as_far here there (subst (λ (r : List PerformedAct). AtOf side options r here there) (sym is) at) g.keep (still_echoes echo.cookie echo.bytes g.echoed g.t1 (already g.had_it))

pub acked : HandshakeLaws → (k : ℕ) (side : Side) (options : Both Options) (settled settled' : Both ℕ) (earlier run : List PerformedAct) (here there : View) (echo : Echo) (more : ℕ)
    → AtOf side options earlier here there → Acking side options here there echo more
    → UnderBack settled side here there (acknowledgement_packet there.endpoint.options echo.cookie)
    → LossyExchanges options (suc k) settled earlier settled' run → SocketRun options run → Led side options run more echo.mine echo.others
acked law k side options settled settled' earlier run here there echo more at g under rest runs =
    by_ack law k side options settled' earlier rest.0 run here there echo more at g
    (maybe_back side options settled earlier rest.0 here there (acknowledgement_packet there.endpoint.options echo.cookie) at g.keep under rest.1
    (ran_lossy options k _ settled' rest.0 run rest.2 runs)) rest.2

-- ---- the COOKIE ECHO

-- T1 has come, and the COOKIE ECHO went out again.
record Echoing (side : Side) (options : Both Options) (v w : View) (echo : Echo) (moment more : ℕ) : Type 0 where
  keep : KeepOf side options v w
  fit : Fit v.endpoint.options w.endpoint.options
  echoed : HasEchoed v.endpoint w.endpoint echo.cookie echo.bytes
  t1 : RetriesT1 (again v w echo.cookie echo.bytes moment).endpoint more
  other : KnowsCookie v.endpoint w.endpoint echo.cookie
  others : connections_once_open w.endpoint.core w.told ≡ echo.others
  mine : suc v.told ≡ echo.mine

knows : (v w : View) (cookie : Cookie) (bytes : List ℕ) (moment : ℕ) → KnowsCookie v.endpoint w.endpoint cookie → KnowsCookie (again v w cookie bytes moment).endpoint w.endpoint cookie
knows v w cookie bytes moment (not_yet h) = not_yet h
knows v w cookie bytes moment (already h) = already (record { core = h.core; idle = h.idle; owes = h.owes })

had_now : (e : Endpoint) (w : View) (cookie : Cookie) (n : ℕ) (turns : List Transition) → Acknowledged e.options w cookie n turns → HadEcho e (view_then w turns).endpoint cookie
had_now e w cookie n turns h = record { core = h.linked ∙ ap (λ (o : Options). linked_with cookie o e.options) (sym h.same); idle = h.idle; owes = h.owes }

by_echo : HandshakeLaws → (side : Side) (options : Both Options) (settled settled' : Both ℕ) (earlier run : List PerformedAct) (v w : View) (echo : Echo) (moment more : ℕ)
    → Echoing side options v w echo moment more → AtOf side options earlier (again v w echo.cookie echo.bytes moment) w
    → (rest : LossyExchanges options 4 settled earlier settled' run) → HandedOrLost side options earlier rest.0 (again v w echo.cookie echo.bytes moment) w (bytes_packet v.endpoint.options echo.cookie echo.bytes)
    → SocketRun options run → Led side options run more echo.mine echo.others
by_echo law side options settled settled' earlier run v w echo moment more g at rest (lost same) runs =
    let here : View = again v w echo.cookie echo.bytes moment in
    let is : run ≡ earlier = lossy_end 3 side options settled settled' earlier rest.0 run here w at same rest.2 in
    as_far here w (subst (λ (r : List PerformedAct). AtOf side options r here w) (sym is) at) (keep_same side options v w here w refl refl g.keep)
    (still_echoes echo.cookie echo.bytes (after_again v w echo.cookie echo.bytes moment g.echoed) g.t1 (knows v w echo.cookie echo.bytes moment g.other))
by_echo law side options settled settled' earlier run v w echo moment more g at rest (given h) runs =
    let here : View = again v w echo.cookie echo.bytes moment in
    let there : View = view_then w h.turns in
    let one : Acknowledged v.endpoint.options w echo.cookie (connections_once_open w.endpoint.core w.told) h.turns = acknowledged law v.endpoint w echo.cookie echo.bytes h.turns g.echoed g.other g.fit h.input in
    let counts : Settles (counts_shown options (turns_after earlier)) side (length here.shown) (length w.shown) = settles side options earlier here w at in
    let acking : Acking side options here there echo more = record {
      keep = keep_same side options v w here there refl one.same g.keep;
      fit = subst (λ (o : Options). Fit v.endpoint.options o) (sym one.same) g.fit;
      echoed = echoed_beside here.endpoint w.endpoint there.endpoint echo.cookie echo.bytes one.same (after_again v w echo.cookie echo.bytes moment g.echoed);
      t1 = g.t1;
      had_it = had_now here.endpoint w echo.cookie _ h.turns one;
      mine = g.mine;
      others = one.told ∙ g.others;
    } in
    acked law 2 side options (counts_shown options (turns_after earlier)) settled' rest.0 run here there echo more h.at acking
    (record {
      before = w.shown;
      shown = subst (λ (o : Options). there.shown ≡ w.shown ++ acknowledgement_packet o echo.cookie ∷ []) (sym one.same) one.shown;
      others = counts.others;
      mine = counts.mine;
    }) rest.2 runs

-- ---- the round

first_of : (e f : Endpoint) (cookie : Cookie) → next_moment e ≤ max_nanos → AnswersEcho e f cookie (next_moment e) → next_moment e ≤ next_moment f
first_of e f cookie fits (missed h) = subst (λ (n : ℕ). next_moment e ≤ n) (sym (never f h.core)) fits
first_of e f cookie fits (had h waits) = before (next_moment e) (next_moment f) waits

pub lossy_echo : HandshakeLaws → TimePassesQuietly → (side : Side) (options : Both Options) (settled : Both ℕ) (earlier run : List PerformedAct) (v w : View) (cookie : Cookie) (bytes : List ℕ) (more : ℕ) → AreUsable options
    → AreFitting options → AtOf side options earlier v w → KeepOf side options v w → HasEchoed v.endpoint w.endpoint cookie bytes → RetriesT1 v.endpoint (suc more)
    → AnswersEcho v.endpoint w.endpoint cookie (next_moment v.endpoint) → LossyRound options (counts_shown options (turns_after earlier)) earlier settled run → SocketRun options run
    → Led side options run more (suc v.told) (connections_once_open w.endpoint.core w.told)
lossy_echo law time side options settled earlier run v w cookie bytes more are fit at keep echoed t1 other lossy runs =
    let next : ℕ = next_moment v.endpoint in
    let echo : Echo = echo_of v w cookie bytes in
    let counted : timers_counted v.endpoint.core ≡ t1_timer ∷ [] = ap timers_counted echoed.core in
    let fits : next ≤ max_nanos = t1_fits v.endpoint (suc more) counted t1 in
    let between : SocketRun options lossy.between = ran_lossy options 4 _ settled lossy.between run lossy.exchanges runs in
    let t : Turned side options lossy.between v w echo next =
    turned_by time side options earlier lossy.between v w echo more next are fit at keep echoed t1 other (first_of v.endpoint w.endpoint cookie fits other) (same_least next) lossy.time between in
    let there : View = view_then w t.others in
    let here : View = again v there cookie bytes t.moment in
    let kept : KeepOf side options v there = keep_same side options v w v there refl t.remain.same keep in
    let counts : Settles (counts_shown options (turns_after earlier)) side (length v.shown) (length w.shown) = settles side options earlier v w at in
    let g : Echoing side options v there echo t.moment more = record {
      keep = kept;
      fit = fit_of side options v there are fit kept;
      echoed = t.remain.echoed;
      t1 = t1_continues v.endpoint here.endpoint more t.moment (subst (λ (k : ℕ). k ≤ max_nanos) (sym t.is_next) fits) t1 refl refl;
      other = now_answers v.endpoint there.endpoint cookie next (subst (λ (k : ℕ). k ≤ there.endpoint.moment) t.is_next t.remain.late) t.remain.answers;
      mine = refl;
      others = same_count there.endpoint.core w.endpoint.core there.told w.told t.remain.core t.remain.told;
    } in
    by_echo law side options (counts_shown options (turns_after earlier)) settled lossy.between run v there echo t.moment more g t.at lossy.exchanges
    (maybe_handed side options (counts_shown options (turns_after earlier)) lossy.between lossy.exchanges.0 here there (bytes_packet v.endpoint.options cookie bytes) t.at
    (keep_same side options v there here there refl refl kept)
    (record { before = v.shown; shown = refl; mine = counts.mine; others = counts.others ∙ sym t.remain.shown }) lossy.exchanges.1
    (ran_lossy options 3 _ settled lossy.exchanges.0 run lossy.exchanges.2 runs)) runs
