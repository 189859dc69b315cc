-- A lossy round with data in flight, whichever timer comes first: T1, or one of the other, which is Established.
use Rattle.std.specs.Duration.{max_nanos}
use Rattle.std.specs.Prelude.{nat_le}
use Rattle.std.proofs.Common.{◌≡◌, ◌≤◌, ℕ, suc, Bool, true, false, List, ◌++◌, length, refl, sym, subst, ap, ◌∙◌}
use Rattle.std.proofs.lemmas.List.{append-nil}
use Rattle.dcsctp_spec_lemmas.specs.types.declared.association.Held.{Held}
use Rattle.dcsctp_spec_lemmas.specs.types.declared.options.Options.{Options}
use Rattle.dcsctp_spec_lemmas.specs.types.declared.schedule.Side.{Side}
use Rattle.dcsctp_spec_lemmas.specs.types.Offer.{Offer, offer_of, negotiated_capabilities}
use Rattle.dcsctp_spec_lemmas.specs.spec.Cookie.{Cookie}
use Rattle.dcsctp_spec_lemmas.specs.spec.association.CookieEchoChanges.{held_by_cookie}
use Rattle.dcsctp_spec_lemmas.specs.spec.endpoint.CallTurns.{Transition, events_of}
use Rattle.dcsctp_spec_lemmas.specs.spec.endpoint.Endpoint.{Endpoint, held_by_core}
use Rattle.dcsctp_spec_lemmas.specs.spec.endpoint.Event.{packets_of_events}
use Rattle.dcsctp_spec_lemmas.specs.spec.endpoint.TimeTurns.{AdvanceTurns, TimeTurns, deadline_of, has_come, timers_counted}
use Rattle.dcsctp_spec_lemmas.specs.spec.endpoint.Turn.{with_clock}
use Rattle.dcsctp_spec_runs.specs.Sockets.{PerformedAct, Both, turns_after, SocketRun}
use Rattle.dcsctp_theorem_sockets.specs.Agreement.{AreUsable}
use Rattle.dcsctp_theorem_sockets.specs.Handshake.{AreFitting}
use Rattle.dcsctp_theorem_progress.specs.DataEchoes.{FlowsAsAgreed, EchoesWithData, HasCookie}
use Rattle.dcsctp_theorem_progress.specs.Heartbeats.{SurvivesRounds}
use Rattle.dcsctp_theorem_progress.specs.LossyRounds.{LossyExchanges, LossyRound}
use Rattle.dcsctp_theorem_progress.specs.LostInits.{DueT1}
use Rattle.dcsctp_theorem_progress.specs.Retries.{RetriesT1}
use Rattle.dcsctp_theorem_progress.specs.Rounds.{counts_shown}
use Rattle.dcsctp_theorem_sockets.proofs.Bytes.{ReadPairs, read_pairs_fit}
use Rattle.dcsctp_theorem_sockets.proofs.HandshakeTurns.{HandshakeLaws, Good}
use Rattle.dcsctp_theorem_progress.proofs.AckLost.{lesser_within}
use Rattle.dcsctp_theorem_progress.proofs.DataEcho.{StillAwaits, awaits_beside, echoes_on, still_awaits}
use Rattle.dcsctp_theorem_progress.proofs.AmidRounds.{gone_alone}
use Rattle.dcsctp_theorem_progress.proofs.Answering.{EchoSent, Awaiting, Answered, Answering, EchoAlone, answering, flows_of}
use Rattle.dcsctp_theorem_progress.proofs.DataBeats.{endured}
use Rattle.dcsctp_theorem_progress.proofs.Enduring.{EnduredAlong, FlowsOn}
use Rattle.dcsctp_theorem_progress.proofs.EchoAgain.{EchoedOn, RestedOn, echo_goes_again, rests_on}
use Rattle.dcsctp_theorem_progress.proofs.EchoComes.{bytes_of, echoing_end, shown_is}
use Rattle.dcsctp_theorem_progress.proofs.Facts.{Fit}
use Rattle.dcsctp_theorem_progress.proofs.Flows.{Flows}
use Rattle.dcsctp_theorem_progress.proofs.Handed.{Settles, settles, keep_same}
use Rattle.dcsctp_theorem_progress.proofs.Hearing.{SendsOn, all_speak}
use Rattle.dcsctp_theorem_progress.proofs.Lossy.{ran_lossy}
use Rattle.dcsctp_theorem_progress.proofs.LossyAcks.{crossed, answered_led, spoken_led}
use Rattle.dcsctp_theorem_progress.proofs.LossyBoth.{Crossing, Crossed, crossed_lossy}
use Rattle.dcsctp_theorem_progress.proofs.LossyEcho.{Led}
use Rattle.dcsctp_theorem_progress.proofs.Maintaining.{none_more, established_core, maintains_along}
use Rattle.dcsctp_theorem_progress.proofs.Promise.{MovedOf, fit_of, lesser_of, moves_of}
use Rattle.dcsctp_theorem_progress.proofs.Retries.{again as t1_again, t1_fits}
use Rattle.dcsctp_theorem_progress.proofs.Views.{AtOf, KeepOf, View, view_then}

-- ---- this side

-- The COOKIE ECHO went again, or nothing did.
data WentOut (v here : View) (b : Options) (cookie : Cookie) (bytes : List ℕ) : Type 0 where
  echo_went : EchoAlone here b cookie bytes v.shown → WentOut v here b cookie bytes
  none_went : here.shown ≡ v.shown → WentOut v here b cookie bytes

went_by : (present come : Bool) (v w : View) (cookie : Cookie) (bytes : List ℕ) (more moment : ℕ) (turns : List Transition) → nat_le v.endpoint.moment moment ≡ present
    → has_come moment (deadline_of v.endpoint.timers.t1) ≡ come → Good v.endpoint.options → EchoesWithData v.endpoint w.endpoint cookie bytes → RetriesT1 v.endpoint (suc more)
    → AdvanceTurns v.endpoint moment turns → WentOut v (view_then v turns) w.endpoint.options cookie bytes
went_by false come v w cookie bytes more moment turns is_present is_come good h t1 time =
    subst (λ (ts : List Transition). WentOut v (view_then v ts) w.endpoint.options cookie bytes) (sym (subst (λ (b : Bool). TimeTurns b v.endpoint moment turns) is_present time)) (none_went (append-nil v.shown))
went_by true false v w cookie bytes more moment turns is_present is_come good h t1 time =
    let a : Options = v.endpoint.options in
    let held : Held = echoing_end a w.endpoint.options cookie in
    let o : RestedOn (with_clock moment v.endpoint) held (view_then v turns).endpoint (events_of turns) =
    rests_on v.endpoint cookie.addressee held bytes moment turns (echoes_on v.endpoint w.endpoint cookie bytes h) is_come (subst (λ (b : Bool). TimeTurns b v.endpoint moment turns) is_present time) in
    none_went (ap (λ (ps : List (List ℕ)). v.shown ++ ps) (shown_is a turns ∙ ap (bytes_of a) o.silent) ∙ append-nil v.shown)
went_by true true v w cookie bytes more moment turns is_present is_come good h t1 time =
    let held : Held = echoing_end v.endpoint.options w.endpoint.options cookie in
    let due : DueT1 v.endpoint moment = record { present = is_present; come = is_come; again = t1_again v.endpoint more t1 } in
    let here : View = view_then v turns in
    let o : EchoedOn (with_clock moment v.endpoint) held bytes here.endpoint (events_of turns) =
    echo_goes_again v.endpoint cookie.addressee held bytes moment turns (echoes_on v.endpoint w.endpoint cookie bytes h) good due time in
    echo_went (gone_alone v here w.endpoint.options w.endpoint.options cookie bytes moment turns refl refl o)

went : (v w : View) (cookie : Cookie) (bytes : List ℕ) (more moment : ℕ) (turns : List Transition) → Good v.endpoint.options → EchoesWithData v.endpoint w.endpoint cookie bytes → RetriesT1 v.endpoint (suc more)
    → AdvanceTurns v.endpoint moment turns → WentOut v (view_then v turns) w.endpoint.options cookie bytes
went v w cookie bytes more moment turns good h t1 time =
    went_by (nat_le v.endpoint.moment moment) (has_come moment (deadline_of v.endpoint.timers.t1)) v w cookie bytes more moment turns refl refl good h t1 time

-- ---- the other

-- Its timers may have expired: it is Established by the cookie still, and has sent data.
timers_pass : (e : Endpoint) (w : View) (cookie : Cookie) (moment : ℕ) (turns : List Transition) → cookie.offer ≡ offer_of e.options → HasCookie e w.endpoint cookie → SurvivesRounds w.endpoint 1
    → AdvanceTurns w.endpoint moment turns → Answered w cookie w.told (view_then w turns)
timers_pass e w cookie moment turns offered h survives time =
    let a : Options = e.options in
    let b : Options = w.endpoint.options in
    let held : Held = held_by_cookie b cookie in
    let core : w.endpoint.core ≡ established_core b cookie = h.core ∙ sym (crossed a b a b cookie offered refl refl) in
    let flows : Flows held w.endpoint =
    flows_of w.endpoint held (ap held_by_core core) (subst (FlowsAsAgreed w.endpoint) (ap (λ (o : Offer). negotiated_capabilities (offer_of b) o) (sym offered)) h.data_flows) in
    let o : EnduredAlong held w.endpoint turns 0 =
    endured held cookie.maker w.endpoint moment 0 turns core (record { unpaused = flows.unpaused; reconfiguration = survives.reconfiguration; t2 = survives.t2; errors = survives.errors }) time in
    let on : FlowsOn held (view_then w turns).endpoint (events_of turns) = o.flows flows.kind in
    record {
      core = o.core ∙ core;
      options = o.options;
      flows = record { kind = on.kind; unpaused = o.endures.unpaused };
      told = o.told w.told;
      sent = packets_of_events (events_of turns);
      each = all_speak held (packets_of_events (events_of turns)) on.sent;
      shown = ap (λ (ps : List (List ℕ)). w.shown ++ ps) (shown_is b turns);
    }

-- It acknowledges the COOKIE ECHO then.
answers_again : HandshakeLaws → (e : Endpoint) (w now : View) (cookie : Cookie) (bytes : List ℕ) → EchoesWithData e w.endpoint cookie bytes → Fit e.options now.endpoint.options → Answered w cookie w.told now
    → Answering now e.options cookie bytes now.told
answers_again law e w now cookie bytes awaits fit h =
    let read : ReadPairs cookie = read_pairs_fit bytes cookie awaits.fits.cookie_in_bytes awaits.reads in
    answering none_more now e.options cookie bytes
    (λ more turns each input.
    maintains_along law now.endpoint e.options cookie bytes more turns (h.core ∙ ap (λ (o : Options). established_core o cookie) (sym h.options))
    (subst (λ (o : Options). Flows (held_by_cookie o cookie) now.endpoint) (sym h.options) h.flows) (record { reads = awaits.reads; fits = awaits.fits; own = read.maker }) fit.good_a fit.good_b fit.to_b each input)

-- ---- the round

borne_by : HandshakeLaws → (side : Side) (options : Both Options) (settled settled' : Both ℕ) (earlier run : List PerformedAct) (v w here now : View) (cookie : Cookie) (bytes : List ℕ) (more : ℕ)
    → Awaiting side options here w cookie bytes more → Fit here.endpoint.options now.endpoint.options → Answered w cookie w.told now → AtOf side options earlier here now
    → Settles settled side (length v.shown) (length w.shown) → WentOut v here w.endpoint.options cookie bytes → LossyExchanges options 4 settled earlier settled' run → SocketRun options run
    → Led side options run more (suc here.told) w.told
borne_by law side options settled settled' earlier run v w here now cookie bytes more g fit h at counts (none_went same) rest runs =
    answered_led law.wire 4 side options settled settled' earlier run here w now cookie bytes more w.told g h at
    (record { mine = counts.mine ∙ sym (ap length same); others = counts.others }) rest runs
borne_by law side options settled settled' earlier run v w here now cookie bytes more g fit h at counts (echo_went echo) rest runs =
    let a : Options = here.endpoint.options in
    let sent : EchoSent = record { cookie = cookie; bytes = bytes; before = v.shown } in
    let crossing : Crossing side options here w now sent settled = record {
      more = more;
      awaiting = g;
      answered = subst (λ (n : ℕ). Answered w cookie n now) (sym h.told) h;
      echo = echo;
      answers = answers_again law here.endpoint w now cookie bytes g.awaits fit h;
      counts = counts;
    } in
    let one : Crossed side options rest.0 here w now cookie =
    crossed_lossy law.wire side options settled earlier rest.0 here w now sent crossing at rest.1 (ran_lossy options 3 _ settled' rest.0 run rest.2 runs) in
    subst (λ (n : ℕ). Led side options run more (suc here.told) n) h.told
    (spoken_led law.wire 3 side options (counts_shown options (turns_after earlier)) settled' rest.0 run here now one.mine one.other cookie bytes more now.told
    (record {
      keep = keep_same side options here w here now refl h.options g.keep;
      fit = fit;
      awaits = awaits_beside here.endpoint w.endpoint now.endpoint cookie bytes h.options g.awaits;
      t1 = g.t1;
    })
    (subst (λ (o : Options). SendsOn cookie.addressee (echoing_end a o cookie) here one.mine) (sym h.options) one.sends) one.answered one.at (settles side options earlier here now at) rest.2 runs)

pub lossy_borne : HandshakeLaws → (side : Side) (options : Both Options) (settled : Both ℕ) (earlier run : List PerformedAct) (v w : View) (cookie : Cookie) (bytes : List ℕ) (more : ℕ) → AreUsable options → AreFitting options
    → AtOf side options earlier v w → KeepOf side options v w → EchoesWithData v.endpoint w.endpoint cookie bytes → RetriesT1 v.endpoint (suc more) → HasCookie v.endpoint w.endpoint cookie → SurvivesRounds w.endpoint 1
    → LossyRound options (counts_shown options (turns_after earlier)) earlier settled run → SocketRun options run → Led side options run more (suc v.told) w.told
lossy_borne law side options settled earlier run v w cookie bytes more are fit at keep awaits t1 has survives lossy runs =
    let moment : ℕ = lesser_of side v w in
    let between : SocketRun options lossy.between = ran_lossy options 4 _ settled lossy.between run lossy.exchanges runs in
    let good : Fit v.endpoint.options w.endpoint.options = fit_of side options v w are fit keep in
    let within : moment ≤ max_nanos = lesser_within side v w (t1_fits v.endpoint (suc more) (ap timers_counted awaits.core) t1) in
    let moved : MovedOf side options lossy.between v w moment = moves_of side options earlier lossy.between v w at keep lossy.time between in
    let here : View = view_then v moved.mine in
    let now : View = view_then w moved.others in
    let still : StillAwaits v w cookie bytes more moved.mine = still_awaits v w cookie bytes more moment moved.mine good.good_a within awaits t1 moved.mine_turns in
    let h : Answered w cookie w.told now = timers_pass v.endpoint w cookie moment moved.others awaits.offer has survives moved.others_turns in
    let kept : KeepOf side options here w = keep_same side options v w here w still.same refl keep in
    let kept_both : KeepOf side options here now = keep_same side options v w here now still.same h.options keep in
    subst (λ (k : ℕ). Led side options run more (suc k) w.told) still.told
    (borne_by law side options (counts_shown options (turns_after earlier)) settled lossy.between run v w here now cookie bytes more
    (record { keep = kept; fit = fit_of side options here w are fit kept; awaits = still.awaits; t1 = still.t1 }) (fit_of side options here now are fit kept_both) h moved.at
    (settles side options earlier v w at) (went v w cookie bytes more moment moved.mine good.good_a awaits t1 moved.mine_turns) lossy.exchanges runs)
