-- A COOKIE ECHO is under way, maybe with data behind it: it comes or not, and so do the COOKIE ACK to it and the data after that.
use Rattle.std.proofs.Common.{◌≡◌, ◌≤◌, ℕ, suc, false, List, ◌++◌, length, refl, sym, subst, ap, ◌∙◌}
use Rattle.std.specs.Duration.{max_nanos}
use Rattle.dcsctp_spec_lemmas.specs.types.declared.association.Held.{Held}
use Rattle.dcsctp_spec_lemmas.specs.types.declared.association.Pair.{Pair}
use Rattle.dcsctp_spec_lemmas.specs.types.declared.capabilities.Capabilities.{Capabilities}
use Rattle.dcsctp_spec_lemmas.specs.types.declared.options.Options.{Options}
use Rattle.dcsctp_spec_lemmas.specs.types.declared.schedule.Side.{Side}
use Rattle.dcsctp_spec_lemmas.specs.types.Offer.{Offer, offer_of, negotiated_capabilities}
use Rattle.dcsctp_spec_lemmas.specs.types.Settings.{ports_of}
use Rattle.dcsctp_spec_lemmas.specs.spec.Cookie.{Cookie}
use Rattle.dcsctp_spec_lemmas.specs.spec.Packet.{emission_bytes}
use Rattle.dcsctp_spec_lemmas.specs.spec.association.CookieEchoChanges.{held_by_cookie}
use Rattle.dcsctp_spec_lemmas.specs.spec.association.HandshakeChanges.{new_held}
use Rattle.dcsctp_spec_lemmas.specs.spec.endpoint.Endpoint.{Endpoint, Core, cookie_echoed, open_in, established}
use Rattle.dcsctp_spec_lemmas.specs.spec.endpoint.HeartbeatOutcomes.{is_exhausted}
use Rattle.dcsctp_spec_lemmas.specs.spec.endpoint.MessageOutcomes.{awaits_opening}
use Rattle.dcsctp_spec_runs.specs.Sockets.{PerformedAct, Both, turns_after, SocketRun}
use Rattle.dcsctp_theorem_progress.specs.DataEchoes.{FlowsAsAgreed, EchoesWithData}
use Rattle.dcsctp_theorem_progress.specs.LossyRounds.{LossyExchanges, TakesOrHas, has_it, still_sends}
use Rattle.dcsctp_theorem_progress.specs.Retries.{RetriesT1}
use Rattle.dcsctp_theorem_progress.specs.Rounds.{counts_shown}
use Rattle.dcsctp_theorem_sockets.proofs.HandshakeReads.{Wire}
use Rattle.dcsctp_theorem_progress.proofs.Constant.{KeepsTrying}
use Rattle.dcsctp_theorem_progress.proofs.EchoComes.{bytes_of, carried_as, echoing_end, same_interleaving, same_reliability}
use Rattle.dcsctp_theorem_progress.proofs.Establishing.{echo_then}
use Rattle.dcsctp_theorem_progress.proofs.Flows.{Flows}
use Rattle.dcsctp_theorem_progress.proofs.Handed.{Settles, settles, keep_same}
use Rattle.dcsctp_theorem_progress.proofs.Hearing.{all_speak, Hears, Becomes, as_before, has_opened, GoesOn, goes_then, SendsOn, sends_nothing, hears_then}
use Rattle.dcsctp_theorem_progress.proofs.Lossy.{HandedOrLost, given, lost, maybe_handed, lossy_end, ran_lossy}
use Rattle.dcsctp_theorem_progress.proofs.LossyEcho.{Led, as_far, joined}
use Rattle.dcsctp_theorem_progress.proofs.LossyOpen.{Ends, GoOnOf, go_on_of}
use Rattle.dcsctp_theorem_progress.proofs.Promise.{settled_in}
use Rattle.dcsctp_theorem_progress.proofs.Views.{AtOf, View, view_then}
use Rattle.dcsctp_theorem_progress.proofs.Answering.{Awaiting, Answered, Answering, EchoAlone, agreed_of, hears_mine, hears_other}

-- ---- in the end

abbrev pub caps_of : Options → Options → Capabilities
caps_of a b = negotiated_capabilities (offer_of a) (offer_of b)

pub named : (a a' b b' : Options) → a' ≡ a → b' ≡ b → caps_of a b ≡ caps_of a' b'
named a a' b b' same alike = ap (λ (x : Options). caps_of x b) (sym same) ∙ ap (caps_of a') (sym alike)

-- It awaits the COOKIE ACK still.
awaits_still : (e f e' f' : Endpoint) (cookie : Cookie) (bytes : List ℕ) → EchoesWithData e f cookie bytes → e'.core ≡ e.core → e'.options ≡ e.options → f'.options ≡ f.options → awaits_opening e' e'.core ≡ false
    → Flows (echoing_end e.options f.options cookie) e' → KeepsTrying e e' → EchoesWithData e' f' cookie bytes
awaits_still e f e' f' cookie bytes h core same alike asks flows trying =
    let caps : caps_of e.options f.options ≡ caps_of e'.options f'.options = named e.options e'.options f.options f'.options same alike in
    record {
      core = core ∙ h.core ∙ ap (λ (c : Capabilities). cookie_echoed cookie.addressee (new_held cookie.addressee cookie.maker c) bytes) caps;
      reads = h.reads;
      fits = h.fits;
      offer = h.offer ∙ ap offer_of (sym same);
      data_flows = subst (FlowsAsAgreed e') caps (agreed_of e' (echoing_end e.options f.options cookie) flows);
      asks = asks;
      errors = ap (λ (o : Options). is_exhausted o.max_retransmissions e'.error_count) same ∙ trying.errors e.options.max_retransmissions h.errors;
    }

pub t1_kept : (e f : Endpoint) (more : ℕ) → KeepsTrying e f → RetriesT1 e more → RetriesT1 f more
t1_kept e f more trying h =
    record {
      timer = h.timer;
      runs = trying.t1 ∙ h.runs;
      left = h.left;
      clock = subst (λ (n : ℕ). n ≤ max_nanos) (sym trying.moment) h.clock;
      deadline = h.deadline;
    }

never_echoes : (my other : Pair) (held theirs : Held) (bytes : List ℕ) (core : Core) → core ≡ open_in established my held → core ≡ cookie_echoed other theirs bytes → ⊥
never_echoes my other held theirs bytes core a b = cc

-- The other is still Established.
other_is : (my : Pair) (held : Held) (now last : View) → now.endpoint.core ≡ open_in established my held → Becomes my held now last → (last.endpoint.core ≡ open_in established my held) × (last.told ≡ now.told)
other_is my held now last is (as_before h) = (h.core ∙ is, h.told)
other_is my held now last is (has_opened h) = absurd (never_echoes my my held held h.bytes now.endpoint.core is h.awaited)

-- by the names of both options
pub crossed : (a b a' b' : Options) (cookie : Cookie) → cookie.offer ≡ offer_of a → a' ≡ a → b' ≡ b
    → open_in established cookie.maker (held_by_cookie b cookie) ≡ open_in established cookie.maker (new_held cookie.maker cookie.addressee (caps_of b' a'))
crossed a b a' b' cookie offered same alike =
    ap (λ (o : Offer). open_in established cookie.maker (new_held cookie.maker cookie.addressee (negotiated_capabilities (offer_of b) o))) offered
    ∙ ap (λ (c : Capabilities). open_in established cookie.maker (new_held cookie.maker cookie.addressee c)) (named b b' a a' alike same)

goes_to : (side : Side) (options : Both Options) (run : List PerformedAct) (v w now mine other : View) (cookie : Cookie) (bytes : List ℕ) (more n : ℕ) → Awaiting side options v w cookie bytes more → Answered w cookie n now
    → AtOf side options run mine other → GoesOn cookie.addressee (echoing_end v.endpoint.options w.endpoint.options cookie) v mine → GoesOn cookie.maker (held_by_cookie w.endpoint.options cookie) now other
    → Becomes cookie.addressee (echoing_end v.endpoint.options w.endpoint.options cookie) v mine → Led side options run more (suc v.told) n
goes_to side options run v w now mine other cookie bytes more n g h at here there (as_before i) =
    let a : Options = v.endpoint.options in
    let b : Options = w.endpoint.options in
    let alike : other.endpoint.options ≡ b = there.options ∙ h.options in
    let still : Hears now.endpoint.options mine cookie.addressee (echoing_end a b cookie) (held_by_cookie b cookie) =
    hears_then now.endpoint.options now.endpoint.options v mine cookie.addressee (echoing_end a b cookie) (held_by_cookie b cookie) refl here (hears_mine side options v w now cookie bytes more n g h) in
    let opened = other_is cookie.maker (held_by_cookie b cookie) now other h.core there.becomes in
    as_far mine other at (keep_same side options v w mine other here.options alike g.keep)
    (still_sends cookie bytes
    (awaits_still v.endpoint w.endpoint mine.endpoint other.endpoint cookie bytes g.awaits i.core here.options alike still.asks here.flows i.trying) (t1_kept v.endpoint mine.endpoint more i.trying g.t1)
    (has_it (record {
      core = opened.0 ∙ crossed a b mine.endpoint.options other.endpoint.options cookie g.awaits.offer here.options alike;
      data_flows = subst (FlowsAsAgreed other.endpoint)
          (ap (λ (o : Offer). negotiated_capabilities (offer_of b) o) g.awaits.offer ∙ named b other.endpoint.options a mine.endpoint.options alike here.options)
          (agreed_of other.endpoint (held_by_cookie b cookie) there.flows);
    })))
goes_to side options run v w now mine other cookie bytes more n g h at here there (has_opened i) =
    let a : Options = v.endpoint.options in
    let b : Options = w.endpoint.options in
    let opened = other_is cookie.maker (held_by_cookie b cookie) now other h.core there.becomes in
    joined
    (settled_in side options run v w (suc v.told) n g.keep
    (record {
      here = mine;
      there = other;
      at = at;
      p = cookie.addressee;
      q = cookie.maker;
      linked = record { here = i.core; there = opened.0 ∙ crossed a b a b cookie g.awaits.offer refl refl };
      told_here = i.told;
      told_there = opened.1 ∙ h.told;
    }))

-- ---- once the COOKIE ECHO has come

-- This side has gone on since, and sent data.
pub spoken_led : Wire → (k : ℕ) (side : Side) (options : Both Options) (settled settled' : Both ℕ) (earlier run : List PerformedAct) (v w here now : View) (cookie : Cookie) (bytes : List ℕ) (more n : ℕ)
    → Awaiting side options v w cookie bytes more → SendsOn cookie.addressee (echoing_end v.endpoint.options w.endpoint.options cookie) v here → Answered w cookie n now → AtOf side options earlier here now
    → Settles settled side (length v.shown) (length w.shown) → LossyExchanges options k settled earlier settled' run → SocketRun options run → Led side options run more (suc v.told) n
spoken_led wire k side options settled settled' earlier run v w here now cookie bytes more n g x h at counts rest runs =
    let a : Options = v.endpoint.options in
    let b : Options = w.endpoint.options in
    let mine : Held = echoing_end a b cookie in
    let other : Held = held_by_cookie b cookie in
    let ends : Ends = record { mine = cookie.addressee; other = cookie.maker; here = mine; there = other } in
    let on : GoOnOf side options run here now ends =
    go_on_of wire k side options here now ends settled settled' earlier run
    (record {
      hears_mine = hears_then now.endpoint.options now.endpoint.options v here cookie.addressee mine other refl x.goes (hears_mine side options v w now cookie bytes more n g h);
      hears_other = subst (λ (o : Options). Hears o now cookie.maker other mine) (sym x.goes.options) (hears_other side options v w now cookie bytes more n g h);
      keep = keep_same side options v w here now x.goes.options h.options g.keep;
      before_mine = v.shown;
      before_other = w.shown;
      sent_mine = x.sent;
      sent_other = h.sent;
      each_mine = all_speak mine x.sent x.carried;
      each_other = h.each;
      shown_mine = x.shown ∙ ap (λ (o : Options). v.shown ++ bytes_of o x.sent) (sym x.goes.options);
      shown_other = h.shown ∙ ap (λ (o : Options). w.shown ++ bytes_of o h.sent) (sym h.options);
      counts = counts;
    }) at rest runs in
    let goes : GoesOn cookie.addressee mine v on.mine = goes_then cookie.addressee mine v here on.mine x.goes on.goes_mine in
    goes_to side options run v w now on.mine on.other cookie bytes more n g h on.at goes on.goes_other goes.becomes

pub answered_led : Wire → (k : ℕ) (side : Side) (options : Both Options) (settled settled' : Both ℕ) (earlier run : List PerformedAct) (v w now : View) (cookie : Cookie) (bytes : List ℕ) (more n : ℕ)
    → Awaiting side options v w cookie bytes more → Answered w cookie n now → AtOf side options earlier v now → Settles settled side (length v.shown) (length w.shown)
    → LossyExchanges options k settled earlier settled' run → SocketRun options run → Led side options run more (suc v.told) n
answered_led wire k side options settled settled' earlier run v w now cookie bytes more n g h at counts rest runs =
    spoken_led wire k side options settled settled' earlier run v w v now cookie bytes more n g
    (sends_nothing cookie.addressee (echoing_end v.endpoint.options w.endpoint.options cookie) v (hears_mine side options v w now cookie bytes more n g h).flows) h at counts rest runs

by_echo : Wire → (k : ℕ) (side : Side) (options : Both Options) (settled settled' : Both ℕ) (earlier run : List PerformedAct) (v w : View) (cookie : Cookie) (bytes : List ℕ) (before : List (List ℕ)) (more n : ℕ)
    → Awaiting side options v w cookie bytes more → TakesOrHas v.endpoint w.endpoint cookie → Answering w v.endpoint.options cookie bytes n → (x : EchoAlone v w.endpoint.options cookie bytes before)
    → AtOf side options earlier v w → (rest : LossyExchanges options (suc k) settled earlier settled' run)
    → HandedOrLost side options earlier rest.0 v w (emission_bytes (ports_of v.endpoint.options) (echo_then cookie bytes x.more)) → SocketRun options run → Led side options run more (suc v.told) n
by_echo wire k side options settled settled' earlier run v w cookie bytes before more n g other answers x at rest (lost same) runs =
    let is : run ≡ earlier = lossy_end k side options settled settled' earlier rest.0 run v w at same rest.2 in
    as_far v w (subst (λ (r : List PerformedAct). AtOf side options r v w) (sym is) at) g.keep (still_sends cookie bytes g.awaits g.t1 other)
by_echo wire k side options settled settled' earlier run v w cookie bytes before more n g other answers x at rest (given h) runs =
    let a : Options = v.endpoint.options in
    let b : Options = w.endpoint.options in
    answered_led wire k side options (counts_shown options (turns_after earlier)) settled' rest.0 run v w (view_then w h.turns) cookie bytes more n g
    (answers x.more h.turns (carried_as _ _ _ _ x.more (same_interleaving a b cookie g.awaits.offer) (same_reliability a b cookie g.awaits.offer) x.carried) h.input)
    h.at (settles side options earlier v w at) rest.2 runs

-- The COOKIE ECHO is under way.
pub echo_led : Wire → (k : ℕ) (side : Side) (options : Both Options) (settled settled' : Both ℕ) (earlier run : List PerformedAct) (v w : View) (cookie : Cookie) (bytes : List ℕ) (before : List (List ℕ)) (more n : ℕ)
    → Awaiting side options v w cookie bytes more → TakesOrHas v.endpoint w.endpoint cookie → Answering w v.endpoint.options cookie bytes n → EchoAlone v w.endpoint.options cookie bytes before
    → AtOf side options earlier v w → Settles settled side (length before) (length w.shown) → LossyExchanges options (suc k) settled earlier settled' run → SocketRun options run
    → Led side options run more (suc v.told) n
echo_led wire k side options settled settled' earlier run v w cookie bytes before more n g other answers x at counts rest runs =
    by_echo wire k side options settled settled' earlier run v w cookie bytes before more n g other answers x at rest
    (maybe_handed side options settled earlier rest.0 v w _ at g.keep (record { before = before; shown = x.shown; mine = counts.mine; others = counts.others }) rest.1
    (ran_lossy options k _ settled' rest.0 run rest.2 runs)) runs
