-- An INIT, and then a COOKIE ECHO with data behind it, at a socket with an older association: it answers with a pair that it draws,
-- and begins again.
use Rattle.std.specs.Duration.{as_nanos}
use Rattle.std.specs.Prelude.{◌==◌}
use Rattle.std.proofs.Common.{◌≡◌, ◌≢◌, ◌≤◌, ℕ, suc, Bool, true, false, cond, eqb, List, [], ◌∷◌, Result, Ok, refl, sym, subst, ap, ◌∙◌}
use Rattle.dcsctp_spec_lemmas.specs.types.declared.association.Held.{Held}
use Rattle.dcsctp_spec_lemmas.specs.types.declared.association.Pair.{Pair}
use Rattle.dcsctp_spec_lemmas.specs.types.declared.options.Options.{Options}
use Rattle.dcsctp_spec_lemmas.specs.types.declared.word.Word.{Word}
use Rattle.dcsctp_spec_lemmas.specs.types.declared.word.Word.TheVariants.{U32, U64}
use Rattle.dcsctp_spec_lemmas.specs.types.Settings.{ports_of}
use Rattle.dcsctp_spec_lemmas.specs.spec.Admission.{admits}
use Rattle.dcsctp_spec_lemmas.specs.spec.Cookie.{Cookie, cookie_of_bytes, is_stale}
use Rattle.dcsctp_spec_lemmas.specs.spec.CookieFits.{FitsPair}
use Rattle.dcsctp_spec_lemmas.specs.spec.Packet.{Introduction, Content, init, cookie_ack, Emission, emission_bytes}
use Rattle.dcsctp_spec_lemmas.specs.spec.association.CookieEchoChanges.{Resolution, restart, simultaneous_init, aged_resolution, case_by_answers, held_by_cookie}
use Rattle.dcsctp_spec_lemmas.specs.spec.association.Effect.{holds, connects, identity_of}
use Rattle.dcsctp_spec_lemmas.specs.spec.association.HandshakeChanges.{introduction_of}
use Rattle.dcsctp_spec_lemmas.specs.spec.endpoint.CallTurns.{Transition, HandleInput}
use Rattle.dcsctp_spec_lemmas.specs.spec.endpoint.CookieEchoOutcomes.{CookieEchoTurn, EchoedAnswers, EstablishAnswers, ResolvedAnswers, cookie_echo_with_flush, endpoint_established, interleaves, queues_begun, resolve_with_flush, resolved_now, window_by_cookie}
use Rattle.dcsctp_spec_lemmas.specs.spec.endpoint.Endpoint.{Endpoint, Core, open_in, established}
use Rattle.dcsctp_spec_lemmas.specs.spec.endpoint.Event.{Event, connected, connection_restarted}
use Rattle.dcsctp_spec_lemmas.specs.spec.endpoint.FlushOutcomes.{Answer, FlushKind, flush_answered, flush_of, allows_packet}
use Rattle.dcsctp_spec_lemmas.specs.spec.endpoint.HandshakeOutcomes.{init_ack_emission, init_outcome, renewed_pair}
use Rattle.dcsctp_spec_lemmas.specs.spec.endpoint.MessageOutcomes.{awaits_opening}
use Rattle.dcsctp_spec_lemmas.specs.spec.endpoint.Outcome.{Outcome, behind, quiet, sends, with_effects_first, drawing, answering as counted}
use Rattle.dcsctp_spec_lemmas.specs.spec.endpoint.Turn.{BeginTurn}
use Rattle.dcsctp_theorem_sockets.proofs.HandshakeReads.{counted_at, delivered, Taken, taken}
use Rattle.dcsctp_theorem_sockets.proofs.HandshakeSizes.{init_ack_fits}
use Rattle.dcsctp_theorem_sockets.proofs.HandshakeTurns.{HandshakeLaws, Good, init_is_taken, taken_as}
use Rattle.dcsctp_theorem_sockets.proofs.Idle.{OwesNothing}
use Rattle.dcsctp_theorem_progress.proofs.Carrying.{begun_open}
use Rattle.dcsctp_theorem_progress.proofs.Echoes.{Spells}
use Rattle.dcsctp_theorem_progress.proofs.Establishing.{EstablishesAlong, Established, begun_along, echo_then}
use Rattle.dcsctp_theorem_progress.proofs.Flows.{AreCarriedFor, Flows}
use Rattle.dcsctp_theorem_progress.proofs.Flushes.{Fronts, front_draft, flush_fronts}
use Rattle.dcsctp_theorem_progress.proofs.Restarts.{differ, alike}
use Rattle.dcsctp_theorem_progress.proofs.Turns.{answers_first, init_packet}

-- ---- INIT

-- The answer has a drawn tag and a TSN far from those in use, and its cookie bears the tie tag of the association.
abbrev pub renewing : Endpoint → Introduction → ℕ → Outcome
renewing e theirs word =
    let mine : Pair = renewed_pair e word in
    counted (drawing mine (sends e (U32 word ∷ []) [] (init_ack_emission e theirs mine e.tie)))

pub record Renews (f : Endpoint) (theirs : Introduction) (turns : List Transition) : Type 0 where
  pub word : ℕ
  pub only : turns ≡ delivered f 0 (init theirs) (renewing (counted_at f) theirs word)

renew_sends : (e : Endpoint) (theirs : Introduction) (mine : Pair) (held : Held) (word next : ℕ) → 112 ≤ e.options.mtu
    → counted (init_outcome e theirs (open_in established mine held) word next) ≡ renewing e theirs word
renew_sends e theirs mine held word next large =
    let own : Pair = renewed_pair e word in
    let words : List Word = U32 word ∷ [] in
    let emission : Emission = init_ack_emission e theirs own e.tie in
    ap (λ (x : Bool). counted (drawing own (cond x (sends e words [] emission) (quiet e words [])))) (init_ack_fits e theirs own e.tie large)

pub renews : HandshakeLaws → (f : Endpoint) (a : Options) (p mine : Pair) (held : Held) (turns : List Transition) → f.core ≡ open_in established mine held → OwesNothing f.queues.transfer → Good a → Good f.options
    → FitsPair p → a.remote_port ≡ f.options.local_port → HandleInput f (init_packet a p) turns → Renews f (introduction_of a p) turns
renews law f a p mine held turns is owes good_a good_b own port input =
    let theirs : Introduction = introduction_of a p in
    let h : Taken f 0 (init theirs) turns =
    taken law.wire f a true 0 (init theirs) turns (init_is_taken law a f.options p good_a own port)
    (ap (λ (core : Core). admits core (record { tag = 0; contents = init theirs ∷ [] })) is) (ap (awaits_opening f) is)
    (λ e o rests. subst (λ (core : Core). BeginTurn e core false o) is rests) input in
    record {
      word = h.comes.0;
      only = taken_as f 0 (init theirs) turns h _
          (h.comes.2
          ∙ answers_first f.options.follow_rfc (counted_at f) theirs h.comes.0 h.comes.1
          ∙ ap (λ (core : Core). counted (init_outcome (counted_at f) theirs core h.comes.0 h.comes.1)) is
          ∙ renew_sends (counted_at f) theirs mine held h.comes.0 h.comes.1 good_b.allow.mtu) refl owes;
    }

-- ---- COOKIE ECHO

-- which case it is, by whether the drawn tag is the association's own
abbrev case_of : Bool → Resolution
case_of true = simultaneous_init
case_of false = restart

-- what it reports
abbrev told_of : Bool → List (Event Emission)
told_of true = connected ∷ []
told_of false = connection_restarted ∷ connected ∷ []

case_where : (own untied : Bool) → aged_resolution false (case_by_answers own false true untied) ≡ case_of own
case_where true untied = refl
case_where false untied = refl

case_is : (e : Endpoint) (mine : Pair) (held : Held) (cookie : Cookie) → cookie.addressee.tag ≢ held.peer.tag → cookie.tie ≡ e.tie → is_stale (as_nanos e.options.cookie_lifetime) e.moment cookie ≡ false
    → resolved_now e (open_in established mine held) cookie.maker.tag cookie ≡ case_of (eqb cookie.maker.tag mine.tag)
case_is e mine held cookie peer tie young =
    let own : Bool = eqb cookie.maker.tag mine.tag in
    let untied : Bool = eqb cookie.tie e.secret in
    ap (λ (old : Bool). aged_resolution old (case_by_answers own (eqb cookie.addressee.tag held.peer.tag) (eqb cookie.tie e.tie) untied)) young
    ∙ ap (λ (x : Bool). aged_resolution false (case_by_answers own x (eqb cookie.tie e.tie) untied)) (differ cookie.addressee.tag held.peer.tag peer)
    ∙ ap (λ (x : Bool). aged_resolution false (case_by_answers own false x untied)) (alike cookie.tie e.tie tie)
    ∙ case_where own untied

-- In either case all that was queued begins again.
answers_where : (own : Bool) (e : Endpoint) (mine : Pair) (held : Held) (cookie : Cookie) (word : ℕ) (answers : List Answer) → ResolvedAnswers e cookie (open_in established mine held) word (case_of own) answers
    → EstablishAnswers e cookie (queues_begun e cookie) word answers
answers_where true e mine held cookie word answers h = h
answers_where false e mine held cookie word answers h = h

abbrev begins_with : Bool → Endpoint → Cookie → ℕ → Outcome → Outcome
begins_with own e cookie word o =
    let held : Held = held_by_cookie e.options cookie in
    with_effects_first (holds (identity_of cookie.maker held) ∷ connects (identity_of cookie.maker held) ∷ []) (behind (U64 word ∷ []) (told_of own) o)

abbrev begun_end : Endpoint → Cookie → ℕ → Endpoint
begun_end e cookie word = endpoint_established e cookie (queues_begun e cookie) word

abbrev first_draft : Endpoint → Cookie → Emission
first_draft e cookie = front_draft ((held_by_cookie e.options cookie).capabilities.zero_checksum_method.0 == 0) cookie.addressee.tag cookie_ack

outcome_where : (own : Bool) (e : Endpoint) (mine : Pair) (held : Held) (cookie : Cookie) (word : ℕ) (answers : List Answer)
    → resolve_with_flush (flush_answered answers) e cookie (open_in established mine held) word (case_of own)
    ≡ begins_with own e cookie word (flush_of (begun_end e cookie word) (first_draft e cookie) answers)
outcome_where true e mine held cookie word answers = refl
outcome_where false e mine held cookie word answers = refl

abbrev FrontBegun : Endpoint → Cookie → ℕ → Outcome → Type 0
FrontBegun e cookie word o =
    let held : Held = held_by_cookie e.options cookie in
    Fronts held (begun_end e cookie word) (first_draft e cookie).with_checksum cookie.addressee.tag cookie_ack o

established_where : (own : Bool) (e : Endpoint) (cookie : Cookie) (word : ℕ) (o : Outcome) → FrontBegun e cookie word o → Established e cookie (begins_with own e cookie word o)
established_where true e cookie word o f =
    record {
      core = f.core;
      options = f.options;
      flows = f.flows;
      following = f.following;
      told = λ n. ap suc (f.told n);
      more = f.more;
      carried = f.carried;
      rest = f.rest;
      others = f.others;
      packets = f.packets;
    }
established_where false e cookie word o f =
    record {
      core = f.core;
      options = f.options;
      flows = f.flows;
      following = f.following;
      told = λ n. ap suc (f.told n);
      more = f.more;
      carried = f.carried;
      rest = f.rest;
      others = f.others;
      packets = f.packets;
    }

begun_by : (e : Endpoint) (mine : Pair) (held : Held) (cookie : Cookie) (bytes : List ℕ) (o : Outcome) (own : Bool) → e.core ≡ open_in established mine held
    → resolved_now e (open_in established mine held) cookie.maker.tag cookie ≡ case_of own → cookie_of_bytes bytes ≡ Ok cookie → allows_packet e.options.max_burst ≡ true
    → CookieEchoTurn e cookie.maker.tag bytes o → Established e cookie o
begun_by e mine held cookie bytes o own is case reads may turn =
    let at : Core = open_in established mine held in
    let word : ℕ = turn.0 in
    let answers : List Answer = turn.1 in
    let flush : FlushKind = flush_answered answers in
    let anew : Held = held_by_cookie e.options cookie in
    let at_core : EchoedAnswers e at cookie.maker.tag (cookie_of_bytes bytes) word answers = subst (λ (core : Core). EchoedAnswers e core cookie.maker.tag (cookie_of_bytes bytes) word answers) is turn.2 in
    let allowed : EstablishAnswers e cookie (queues_begun e cookie) word answers =
    answers_where own e mine held cookie word answers
    (subst (λ (case : Resolution). ResolvedAnswers e cookie at word case answers) case
    (subst (λ (found : Result Cookie (List ℕ)). EchoedAnswers e at cookie.maker.tag found word answers) reads at_core)) in
    let flows : Flows anew (begun_end e cookie word) = record {
      kind = record { peer = refl; transfer = _; known = refl; interleaves = refl; abandons = refl };
      unpaused = begun_open (interleaves e cookie) (window_by_cookie e.options cookie) e.queues.queue;
    } in
    let f : FrontBegun e cookie word (flush_of (begun_end e cookie word) (first_draft e cookie) answers) =
    flush_fronts anew (begun_end e cookie word) (first_draft e cookie).with_checksum cookie.addressee.tag cookie_ack answers may flows allowed in
    let so : o ≡ begins_with own e cookie word (flush_of (begun_end e cookie word) (first_draft e cookie) answers) =
    turn.3
    ∙ ap (λ (core : Core). cookie_echo_with_flush flush e core cookie.maker.tag (cookie_of_bytes bytes) word) is
    ∙ ap (λ (found : Result Cookie (List ℕ)). cookie_echo_with_flush flush e at cookie.maker.tag found word) reads
    ∙ ap (λ (case : Resolution). resolve_with_flush flush e cookie at word case) case
    ∙ outcome_where own e mine held cookie word answers in
    subst (Established e cookie) (sym so) (established_where own e cookie word _ f)

-- Whatever is behind it, the COOKIE ECHO makes the new association, whatever tag was drawn.
pub begins_again : HandshakeLaws → (e : Endpoint) (mine : Pair) (held : Held) (a : Options) (cookie : Cookie) (bytes : List ℕ) (more : List Content) (turns : List Transition) → e.core ≡ open_in established mine held
    → cookie.addressee.tag ≢ held.peer.tag → cookie.tie ≡ e.tie → is_stale (as_nanos e.options.cookie_lifetime) e.moment cookie ≡ false → Spells bytes cookie
    → Good a → Good e.options → a.remote_port ≡ e.options.local_port → AreCarriedFor (held_by_cookie e.options cookie) more
    → HandleInput e (emission_bytes (ports_of a) (echo_then cookie bytes more)) turns → EstablishesAlong e cookie turns
begins_again law e mine held a cookie bytes more turns is peer tie young spells good_a good_b port each input =
    begun_along law e (open_in established mine held) a cookie bytes more turns is (ap (awaits_opening e) is)
    (λ o turn. begun_by (counted_at e) mine held cookie bytes o (eqb cookie.maker.tag mine.tag) is (case_is (counted_at e) mine held cookie peer tie young) spells.reads good_b.allow.burst turn)
    (λ has f o begin. begin) spells good_a port each input
