-- A COOKIE ECHO at a socket with an older association: it is restarted.
use Rattle.std.specs.Duration.{as_nanos}
use Rattle.std.specs.Prelude.{nat_le, max}
use Rattle.std.proofs.Common.{◌≡◌, ◌≢◌, ◌≤◌, ◌<◌, ℕ, suc, Bool, true, false, cond, eqb, List, [], ◌∷◌, Result, length, refl, sym, subst, ap, ◌∙◌, arith}
use Rattle.std.proofs.lemmas.Bool.Decides.{nat_tests}
use Rattle.dcsctp_spec_lemmas.specs.types.declared.association.Held.{Held}
use Rattle.dcsctp_spec_lemmas.specs.types.declared.association.Pair.{Pair}
use Rattle.dcsctp_spec_lemmas.specs.types.declared.options.Options.{Options}
use Rattle.dcsctp_spec_lemmas.specs.types.declared.schedule.Side.{Side}
use Rattle.dcsctp_spec_lemmas.specs.types.declared.schedule.Side.TheVariants as sides
use Rattle.dcsctp_spec_lemmas.specs.types.declared.word.Word.TheVariants.{U64}
use Rattle.dcsctp_spec_lemmas.specs.spec.Admission.{admits}
use Rattle.dcsctp_spec_lemmas.specs.spec.Cookie.{Cookie, cookie_of_bytes, is_stale}
use Rattle.dcsctp_spec_lemmas.specs.spec.Packet.{cookie_echo}
use Rattle.dcsctp_spec_lemmas.specs.spec.association.CookieEchoChanges.{Resolution, restart, aged_resolution, case_by_answers, held_by_cookie}
use Rattle.dcsctp_spec_lemmas.specs.spec.association.Effect.{holds, connects, identity_of}
use Rattle.dcsctp_spec_lemmas.specs.spec.endpoint.CallTurns.{Transition, HandleInput}
use Rattle.dcsctp_spec_lemmas.specs.spec.endpoint.CookieEchoOutcomes.{ResolvedAnswers, EchoedAnswers, EstablishAnswers, resolved_now, resolve_with_flush, cookie_echo_with_flush, endpoint_established, establish_outcome, queues_begun}
use Rattle.dcsctp_spec_lemmas.specs.spec.endpoint.Endpoint.{Endpoint, Core, open_in, established}
use Rattle.dcsctp_spec_lemmas.specs.spec.endpoint.Event.{connected, connection_restarted}
use Rattle.dcsctp_spec_lemmas.specs.spec.endpoint.FlushOutcomes.{AreQueuesIdle, FlushKind, flush_answered}
use Rattle.dcsctp_spec_lemmas.specs.spec.endpoint.MessageOutcomes.{awaits_opening}
use Rattle.dcsctp_spec_lemmas.specs.spec.endpoint.Outcome.{Outcome, quiet, sends, with_effects_first}
use Rattle.dcsctp_spec_lemmas.specs.spec.endpoint.TimeTurns.{TimePassesQuietly, next_moment, t1_timer, timers_counted}
use Rattle.dcsctp_spec_lemmas.specs.spec.endpoint.Turn.{BeginTurn, with_clock}
use Rattle.dcsctp_spec_runs.specs.Sockets.{PerformedAct, Both, turns_after, SocketRun}
use Rattle.dcsctp_spec_runs.proofs.FlushLemmas.{establish_now}
use Rattle.dcsctp_theorem_sockets.specs.Agreement.{AreUsable}
use Rattle.dcsctp_theorem_sockets.specs.Handshake.{AreFitting}
use Rattle.dcsctp_theorem_sockets.proofs.HandshakeReads.{counted_at, delivered, Taken, taken}
use Rattle.dcsctp_theorem_sockets.proofs.HandshakeTurns.{HandshakeLaws, Good, taken_as}
use Rattle.dcsctp_theorem_progress.specs.Cookies.{HasEchoed}
use Rattle.dcsctp_theorem_progress.specs.LostInits.{DueT1}
use Rattle.dcsctp_theorem_progress.specs.Restarts.{HasTied, HasOlder, OlderAssociationsGiveWay}
use Rattle.dcsctp_theorem_progress.specs.Retries.{RetriesT1}
use Rattle.dcsctp_theorem_progress.specs.Rounds.{counts_shown, QuietRound}
use Rattle.dcsctp_theorem_progress.proofs.StillAwaiting.{echoed_beside}
use Rattle.dcsctp_theorem_progress.proofs.Joined.{JoinedBy}
use Rattle.dcsctp_theorem_progress.proofs.EchoRound.{Acknowledged, Waiting, echo_exchanged}
use Rattle.dcsctp_theorem_progress.proofs.EchoRuns.{offered, pairs_fit, repeated, repeats}
use Rattle.dcsctp_theorem_progress.proofs.Echoes.{Spells, acknowledgement, bytes_packet, echo_is_taken}
use Rattle.dcsctp_theorem_progress.proofs.Facts.{Fit}
use Rattle.dcsctp_theorem_progress.proofs.Handed.{Settles, settles, keep_same}
use Rattle.dcsctp_theorem_progress.proofs.Meanwhile.{ClockMoves, open_moves_by}
use Rattle.dcsctp_theorem_progress.proofs.Promise.{MovedOf, SettledBy, fit_of, lesser_of, moment_by, moves_of, settled_in}
use Rattle.dcsctp_theorem_progress.proofs.Retries.{due_next}
use Rattle.dcsctp_theorem_progress.proofs.Views.{AtOf, KeepOf, View, ran_exchanges, view, view_then}

-- ---- the turn

abbrev restarting : Endpoint → Cookie → ℕ → Outcome
restarting e cookie tie =
    let held : Held = held_by_cookie e.options cookie in
    with_effects_first (holds (identity_of cookie.maker held) ∷ connects (identity_of cookie.maker held) ∷ [])
    (sends (endpoint_established e cookie (queues_begun e cookie) tie) (U64 tie ∷ []) (connection_restarted ∷ connected ∷ []) (acknowledgement e.options cookie))

record Restarts (e : Endpoint) (cookie : Cookie) (bytes : List ℕ) (turns : List Transition) : Type 0 where
  tie : ℕ
  only : turns ≡ delivered e cookie.maker.tag (cookie_echo bytes) (restarting (counted_at e) cookie tie)

restart_sends : (e : Endpoint) (cookie : Cookie) (tie : ℕ) → Good e.options → establish_outcome e cookie (queues_begun e cookie) tie (connection_restarted ∷ connected ∷ []) ≡ restarting e cookie tie
restart_sends e cookie tie good =
    let held : Held = held_by_cookie e.options cookie in
    let after : Endpoint = endpoint_established e cookie (queues_begun e cookie) tie in
    ap (λ (x : Bool). with_effects_first (holds (identity_of cookie.maker held) ∷ connects (identity_of cookie.maker held) ∷ [])
    (cond x (sends after (U64 tie ∷ []) (connection_restarted ∷ connected ∷ []) (acknowledgement e.options cookie)) (quiet after (U64 tie ∷ []) (connection_restarted ∷ connected ∷ [])))) good.allow.burst

-- It takes the cookie now, in place of its association.
record TakesAnew (e : Endpoint) (cookie : Cookie) : Type 0 where
  mine : Pair
  held : Held
  core : e.core ≡ open_in established mine held
  case : resolved_now e (open_in established mine held) cookie.maker.tag cookie ≡ restart
  anew : AreQueuesIdle (queues_begun e cookie).queue (queues_begun e cookie).transfer

restarts : HandshakeLaws → (e : Endpoint) (a : Options) (cookie : Cookie) (bytes : List ℕ) (turns : List Transition) → TakesAnew e cookie → Spells bytes cookie → Good a → Good e.options
    → a.remote_port ≡ e.options.local_port → HandleInput e (bytes_packet a cookie bytes) turns → Restarts e cookie bytes turns
restarts law e a cookie bytes turns takes spells good_a good_b port input =
    let c : Endpoint = counted_at e in
    let at : Core = open_in established takes.mine takes.held in
    let h : Taken e cookie.maker.tag (cookie_echo bytes) turns =
    taken law.wire e a true cookie.maker.tag (cookie_echo bytes) turns (echo_is_taken a e.options cookie bytes good_a spells port)
    (ap (λ (core : Core). admits core (record { tag = cookie.maker.tag; contents = cookie_echo bytes ∷ [] })) takes.core) (ap (awaits_opening e) takes.core)
    (λ f o rests. subst (λ (core : Core). BeginTurn f core false o) takes.core rests) input in
    let word : ℕ = h.comes.0 in
    let flush : FlushKind = flush_answered h.comes.1 in
    let at_core : EchoedAnswers c at cookie.maker.tag (cookie_of_bytes bytes) word h.comes.1 =
    subst (λ (core : Core). EchoedAnswers c core cookie.maker.tag (cookie_of_bytes bytes) word h.comes.1) takes.core h.comes.2 in
    let allowed : EstablishAnswers c cookie (queues_begun c cookie) word h.comes.1 =
    subst (λ (case : Resolution). ResolvedAnswers c cookie at word case h.comes.1) takes.case
    (subst (λ (found : Result Cookie (List ℕ)). EchoedAnswers c at cookie.maker.tag found word h.comes.1) spells.reads at_core) in
    let o : h.outcome ≡ establish_outcome c cookie (queues_begun c cookie) word (connection_restarted ∷ connected ∷ []) =
    h.comes.3
    ∙ ap (λ (core : Core). cookie_echo_with_flush flush c core cookie.maker.tag (cookie_of_bytes bytes) word) takes.core
    ∙ ap (λ (found : Result Cookie (List ℕ)). cookie_echo_with_flush flush c at cookie.maker.tag found word) spells.reads
    ∙ ap (λ (case : Resolution). resolve_with_flush flush c cookie at word case) takes.case
    ∙ establish_now c cookie (queues_begun c cookie) word (connection_restarted ∷ connected ∷ []) h.comes.1 takes.anew allowed in
    record { tie = word; only = taken_as e cookie.maker.tag (cookie_echo bytes) turns h _ (o ∙ restart_sends c cookie word good_b) refl (refl, refl) }

acknowledged_anew : HandshakeLaws → (e : Endpoint) (w : View) (cookie : Cookie) (bytes : List ℕ) (turns : List Transition) → HasEchoed e w.endpoint cookie bytes → TakesAnew w.endpoint cookie
    → Fit e.options w.endpoint.options → HandleInput w.endpoint (bytes_packet e.options cookie bytes) turns → Acknowledged e.options w cookie (suc w.told) turns
acknowledged_anew law e w cookie bytes turns h takes fit input =
    let f : Endpoint = w.endpoint in
    let one : Restarts f cookie bytes turns = restarts law f e.options cookie bytes turns takes (pairs_fit e f cookie bytes h).spells fit.good_a fit.good_b fit.to_b input in
    subst (Acknowledged e.options w cookie (suc w.told)) (sym one.only)
    (record { shown = refl; same = refl; linked = offered e f cookie h.offer; told = refl; idle = takes.anew; owes = (refl, refl) })

-- ---- when the clocks have gone on

differ_by : (n m : ℕ) (same : Bool) → eqb n m ≡ same → n ≢ m → same ≡ false
differ_by n m true is other = absurd (other (grind (arith, nat_tests, is)))
differ_by n m false is other = refl

pub differ : (n m : ℕ) → n ≢ m → eqb n m ≡ false
differ n m other = differ_by n m (eqb n m) refl other

pub alike : (n m : ℕ) → n ≡ m → eqb n m ≡ true
alike n m same = grind (arith, nat_tests, same)

case_is : (e : Endpoint) (mine : Pair) (held : Held) (cookie : Cookie) → cookie.maker.tag ≢ mine.tag → cookie.addressee.tag ≢ held.peer.tag → cookie.tie ≡ e.tie
    → is_stale (as_nanos e.options.cookie_lifetime) e.moment cookie ≡ false → resolved_now e (open_in established mine held) cookie.maker.tag cookie ≡ restart
case_is e mine held cookie own peer tie young =
    let untied : Bool = eqb cookie.tie e.secret in
    ap (λ (old : Bool). aged_resolution old (case_by_answers (eqb cookie.maker.tag mine.tag) (eqb cookie.addressee.tag held.peer.tag) (eqb cookie.tie e.tie) untied)) young
    ∙ ap (λ (x : Bool). aged_resolution false (case_by_answers x (eqb cookie.addressee.tag held.peer.tag) (eqb cookie.tie e.tie) untied)) (differ cookie.maker.tag mine.tag own)
    ∙ ap (λ (x : Bool). aged_resolution false (case_by_answers false x (eqb cookie.tie e.tie) untied)) (differ cookie.addressee.tag held.peer.tag peer)
    ∙ ap (λ (x : Bool). aged_resolution false (case_by_answers false false x untied)) (alike cookie.tie e.tie tie)

takes_then : (f : Endpoint) (cookie : Cookie) (moment : ℕ) → HasOlder f cookie moment → TakesAnew (with_clock (max f.moment moment) f) cookie
takes_then f cookie moment h =
    let t : HasTied f cookie moment = h.tied in
    record { mine = t.mine; held = t.held; core = t.core; case = case_is (with_clock (max f.moment moment) f) t.mine t.held cookie h.own t.peer t.tie t.young; anew = h.anew }

-- ---- the round

pub no_later : (n m : ℕ) → n < m → n ≤ m
no_later n m less = omega (arith, less)

older_settles : HandshakeLaws → TimePassesQuietly → (side : Side) (options : Both Options) (settled : Both ℕ) (earlier run : List PerformedAct) (v w : View) (cookie : Cookie) (bytes : List ℕ) → AreUsable options → AreFitting options
    → AtOf side options earlier v w → KeepOf side options v w → HasEchoed v.endpoint w.endpoint cookie bytes → RetriesT1 v.endpoint 1 → HasOlder w.endpoint cookie (next_moment v.endpoint)
    → next_moment v.endpoint < next_moment w.endpoint → QuietRound options (counts_shown options (turns_after earlier)) earlier settled run → SocketRun options run
    → SettledBy side options run (suc v.told) (suc w.told)
older_settles law time side options settled earlier run v w cookie bytes are fit at keep echoed t1 older waits quiet runs =
    let moment : ℕ = lesser_of side v w in
    let good : Fit v.endpoint.options w.endpoint.options = fit_of side options v w are fit keep in
    let counted : timers_counted v.endpoint.core ≡ t1_timer ∷ [] = ap timers_counted echoed.core in
    let between : SocketRun options quiet.between = ran_exchanges options 4 _ quiet.between settled run quiet.exchanges runs in
    let moved : MovedOf side options quiet.between v w moment = moves_of side options earlier quiet.between v w at keep quiet.time between in
    let at_t1 : moment ≡ next_moment v.endpoint = moment_by side v w (no_later (next_moment v.endpoint) (next_moment w.endpoint) waits) in
    let clock : ClockMoves w moment moved.others =
    open_moves_by time (nat_le w.endpoint.moment moment) w established older.tied.mine older.tied.held moment moved.others refl older.tied.core
    (subst (λ (k : ℕ). k < next_moment w.endpoint) (sym at_t1) waits) moved.others_turns in
    let there : View = view_then w moved.others in
    let same : there.endpoint.options ≡ w.endpoint.options = ap (λ (f : Endpoint). f.options) clock.endpoint in
    let takes : TakesAnew there.endpoint cookie =
    subst (λ (f : Endpoint). TakesAnew f cookie) (sym clock.endpoint) (takes_then w.endpoint cookie moment (subst (HasOlder w.endpoint cookie) (sym at_t1) older)) in
    let beside : HasEchoed v.endpoint there.endpoint cookie bytes = echoed_beside v.endpoint w.endpoint there.endpoint cookie bytes same echoed in
    let due : DueT1 v.endpoint moment = subst (DueT1 v.endpoint) (sym at_t1) (due_next v.endpoint 0 counted t1) in
    let is : moved.mine ≡ repeated v.endpoint there.endpoint cookie bytes moment =
    repeats v.endpoint there.endpoint cookie bytes moment moved.mine (record { echoed = beside; t1 = due }) good.good_a moved.mine_turns in
    let kept : KeepOf side options v there = keep_same side options v w v there refl same keep in
    let both : Fit v.endpoint.options there.endpoint.options = fit_of side options v there are fit kept in
    let g : Waiting side options v there cookie bytes (suc there.told) = record {
      echoed = beside;
      ack = λ turns input. acknowledged_anew law v.endpoint there cookie bytes turns beside takes both input;
      fit = both;
      keep = kept;
    } in
    let counts : Settles (counts_shown options (turns_after earlier)) side (length v.shown) (length w.shown) = settles side options earlier v w at in
    let joined : JoinedBy side options run v there (suc v.told) (suc there.told) =
    echo_exchanged law side options v there cookie bytes moment (suc there.told) (counts_shown options (turns_after earlier)) settled quiet.between run g
    (subst (λ (os : List Transition). AtOf side options quiet.between (view_then v os) there) is moved.at) (record { mine = counts.mine; others = counts.others ∙ sym clock.shown }) quiet.exchanges runs in
    subst (λ (k : ℕ). SettledBy side options run (suc v.told) (suc k)) clock.told (settled_in side options run v there _ _ kept joined)

pub older_associations_give_way : HandshakeLaws → TimePassesQuietly → OlderAssociationsGiveWay
older_associations_give_way law time options run are fit runs sides.A settled earlier cookie bytes keeps_a keeps_b echoed t1 older waits quiet =
    let turns : Both (List Transition) = turns_after earlier in
    let h : SettledBy sides.A options run (suc (view options.a turns.a).told) (suc (view options.b turns.b).told) =
    older_settles law time sides.A options settled earlier run (view options.a turns.a) (view options.b turns.b) cookie bytes are fit (record { a = refl; b = refl })
    (record { a = keeps_a.same; b = keeps_b.same }) echoed t1 older waits quiet runs in
    record {
      p = h.p;
      q = h.q;
      linked = record { here = ap (λ (x : View). x.endpoint.core) h.at.a ∙ h.linked.here; there = ap (λ (x : View). x.endpoint.core) h.at.b ∙ h.linked.there };
      told_a = ap (λ (x : View). x.told) h.at.a ∙ h.told_mine;
      told_b = ap (λ (x : View). x.told) h.at.b ∙ h.told_others;
    }
older_associations_give_way law time options run are fit runs sides.B settled earlier cookie bytes keeps_b keeps_a echoed t1 older waits quiet =
    let turns : Both (List Transition) = turns_after earlier in
    let h : SettledBy sides.B options run (suc (view options.b turns.b).told) (suc (view options.a turns.a).told) =
    older_settles law time sides.B options settled earlier run (view options.b turns.b) (view options.a turns.a) cookie bytes are fit (record { a = refl; b = refl })
    (record { a = keeps_a.same; b = keeps_b.same }) echoed t1 older waits quiet runs in
    record {
      p = h.q;
      q = h.p;
      linked = record { here = ap (λ (x : View). x.endpoint.core) h.at.a ∙ h.linked.there; there = ap (λ (x : View). x.endpoint.core) h.at.b ∙ h.linked.here };
      told_a = ap (λ (x : View). x.told) h.at.a ∙ h.told_others;
      told_b = ap (λ (x : View). x.told) h.at.b ∙ h.told_mine;
    }
