-- INIT ACK, COOKIE ECHO and COOKIE ACK at any socket in which nothing waits.
use Rattle.std.proofs.Common.{◌≡◌, ◌≤◌, ℕ, Bool, true, false, cond, eqb, None, Some, List, [], ◌∷◌, ◌⊎◌, ◌≢◌, inl, Result, Ok, refl, sym, subst, ap, ◌∙◌, arith}
use Rattle.dcsctp_spec_lemmas.specs.wire.ReadsBack.{FitsEcho}
use Rattle.dcsctp_spec_lemmas.specs.types.declared.association.Pair.{Pair}
use Rattle.dcsctp_spec_lemmas.specs.types.declared.association.Held.{Held}
use Rattle.dcsctp_spec_lemmas.specs.types.declared.options.Options.{Options}
use Rattle.dcsctp_spec_lemmas.specs.types.declared.word.Word.{Word}
use Rattle.dcsctp_spec_lemmas.specs.types.declared.word.Word.TheVariants.{U64}
use Rattle.dcsctp_spec_lemmas.specs.types.Settings.{ports_of}
use Rattle.dcsctp_spec_lemmas.specs.types.Offer.{Offer, offer_of, agreed_method}
use Rattle.dcsctp_spec_lemmas.specs.spec.Cookie.{Cookie, cookie_bytes, cookie_of_bytes}
use Rattle.dcsctp_spec_lemmas.specs.spec.Packet.{Introduction, Content, init_ack, cookie_echo, cookie_ack, Packet, Emission, emission_bytes}
use Rattle.dcsctp_spec_lemmas.specs.spec.endpoint.Event.{connected}
use Rattle.dcsctp_spec_lemmas.specs.spec.endpoint.Endpoint.{Endpoint, Core, closed, cookie_wait, cookie_echoed, own_tag}
use Rattle.dcsctp_spec_lemmas.specs.spec.endpoint.Outcome.{Outcome, quiet, sends, still, with_effects_first}
use Rattle.dcsctp_spec_lemmas.specs.spec.endpoint.FlushOutcomes.{FlushKind, flush_answered, allows_packet, IsIdle}
use Rattle.dcsctp_spec_lemmas.specs.spec.endpoint.HandshakeOutcomes.{echo_emission, awaits_cookie_ack, init_ack_outcome, connected_after}
use Rattle.dcsctp_spec_lemmas.specs.spec.endpoint.CookieEchoOutcomes.{is_spent, endpoint_established, queues_kept, resolved_now, EstablishAnswers, ResolvedAnswers, EchoedAnswers, resolve_with_flush, cookie_echo_with_flush, establish_outcome, cookie_ack_emission}
use Rattle.dcsctp_spec_lemmas.specs.spec.association.CookieEchoChanges.{Resolution, establish_new, aged_resolution, case_without_peer, held_by_cookie}
use Rattle.dcsctp_spec_lemmas.specs.spec.association.HandshakeChanges.{introduction_of, held_by_init_ack}
use Rattle.dcsctp_spec_lemmas.specs.spec.association.Effect.{Effect, holds, connects, identity_of}
use Rattle.dcsctp_spec_lemmas.specs.spec.endpoint.MessageOutcomes.{awaits_opening}
use Rattle.dcsctp_spec_lemmas.specs.spec.endpoint.CallTurns.{Transition, HandleInput}
use Rattle.dcsctp_spec_lemmas.specs.spec.endpoint.Turn.{BeginTurn}
use Rattle.dcsctp_spec_lemmas.specs.spec.Admission.{all_chunks, admits, all_chunks_or_none, admission_by_answers, wrong_tag_text}
use Rattle.dcsctp_spec_lemmas.specs.spec.CookieFits.{FitsPair, FitsCookie}
use Rattle.dcsctp_spec_runs.proofs.FlushLemmas.{init_ack_turn_now, establish_now, cookie_ack_turn_now}
use Rattle.dcsctp_theorem_sockets.proofs.Bytes.{length_of_cookie, in_cookie}
use Rattle.dcsctp_theorem_sockets.proofs.HandshakeReads.{counted_at, delivered, alone, IsTaken, Taken, taken}
use Rattle.dcsctp_theorem_sockets.proofs.Idle.{OwesNothing}
use Rattle.dcsctp_theorem_sockets.proofs.HandshakeSizes.{echo_fits}
use Rattle.dcsctp_theorem_sockets.proofs.Sendable.{init_ack_sendable, echo_sendable, ack_sendable}
use Rattle.dcsctp_theorem_sockets.proofs.HandshakeTurns.{HandshakeLaws, Good, taken_as, same_tag, not_zero, method_checked, answer_to, ack_admitted}

-- ---- INIT ACK

abbrev pub echoing : Endpoint → Pair → Introduction → Cookie → ℕ → Outcome
echoing e p theirs cookie tie =
    with_effects_first (holds (identity_of p (held_by_init_ack e.options p theirs)) ∷ [])
    (sends (awaits_cookie_ack e p theirs (cookie_bytes cookie) tie) (U64 tie ∷ []) [] (echo_emission theirs.pair.tag (cookie_bytes cookie)))

pub record Echoes (e : Endpoint) (p : Pair) (theirs : Introduction) (cookie : Cookie) (turns : List Transition) : Type 0 where
  pub tie : ℕ
  pub only : turns ≡ delivered e p.tag (init_ack theirs (Some (cookie_bytes cookie))) (echoing (counted_at e) p theirs cookie tie)

echo_sends : (e : Endpoint) (p : Pair) (theirs : Introduction) (cookie : Cookie) (tie : ℕ) → Good e.options
    → init_ack_outcome e theirs (Some (cookie_bytes cookie)) (cookie_wait p) tie ≡ echoing e p theirs cookie tie
echo_sends e p theirs cookie tie good =
    let after : Endpoint = awaits_cookie_ack e p theirs (cookie_bytes cookie) tie in
    let emission : Emission = echo_emission theirs.pair.tag (cookie_bytes cookie) in
    let words : List Word = U64 tie ∷ [] in
    let holding : List Effect = holds (identity_of p (held_by_init_ack e.options p theirs)) ∷ [] in
    ap (λ (x : Bool). with_effects_first holding (cond x (cond (allows_packet e.options.max_burst) (sends after words [] emission) (quiet after words [])) (quiet after words []))) (echo_fits after theirs.pair.tag cookie good.allow.mtu)
    ∙ ap (λ (x : Bool). with_effects_first holding (cond x (sends after words [] emission) (quiet after words []))) good.allow.burst

pub answer_is_taken : HandshakeLaws → (a b : Options) (p q : Pair) (cookie : Cookie) → Good b → FitsPair p → FitsPair q → b.remote_port ≡ a.local_port
    → IsTaken a b (eqb (agreed_method (offer_of b) (offer_of a)) 0) p.tag (init_ack (answer_to a b p q) (Some (cookie_bytes cookie)))
answer_is_taken law a b p q cookie good mine own port =
    record {
      fits = good.fits;
      sendable = record { tag = mine.tag; contents = (init_ack_sendable law.offers b (introduction_of a p) q cookie good.valid good.fits own, tt) };
      minima = record { tag_is_not_zero = own.tag_is_not_zero; window_is_large_enough = good.allow.window; sends_on_a_stream = good.allow.outbound_streams; receives_on_a_stream = good.allow.inbound_streams };
      to_this_port = sym port;
      checked = method_checked b.zero_checksum_alternate_error_detection_method.0 a.zero_checksum_alternate_error_detection_method.0;
    }

-- the packet of the INIT ACK, with this cookie
abbrev pub answer_packet : Options → Options → Pair → Pair → Cookie → List ℕ
answer_packet a b p q cookie =
    emission_bytes (ports_of b) (alone (eqb (agreed_method (offer_of b) (offer_of a)) 0) p.tag (init_ack (answer_to a b p q) (Some (cookie_bytes cookie))))

-- The socket that awaits it echoes the cookie.
pub echoes : HandshakeLaws → (e : Endpoint) (b : Options) (p q : Pair) (cookie : Cookie) (turns : List Transition) → e.core ≡ cookie_wait p
    → ((word : ℕ) → IsIdle (awaits_cookie_ack (counted_at e) p (answer_to e.options b p q) (cookie_bytes cookie) word))
    → Good e.options → Good b → FitsPair p → FitsPair q → b.remote_port ≡ e.options.local_port
    → HandleInput e (answer_packet e.options b p q cookie) turns → Echoes e p (answer_to e.options b p q) cookie turns
echoes law e b p q cookie turns is idle good_a good_b mine own port input =
    let theirs : Introduction = answer_to e.options b p q in
    let content : Content = init_ack theirs (Some (cookie_bytes cookie)) in
    let h : Taken e p.tag content turns =
    taken law.wire e b (eqb (agreed_method (offer_of b) (offer_of e.options)) 0) p.tag content turns (answer_is_taken law e.options b p q cookie good_b mine own port)
    (ack_admitted e.core theirs (cookie_bytes cookie) p.tag (ap own_tag is) mine.tag_is_not_zero) (ap (awaits_opening e) is)
    (λ f o rests. subst (λ (core : Core). BeginTurn f core false o) is rests) input in
    let now : (word : ℕ) × (h.outcome ≡ init_ack_outcome (counted_at e) theirs (Some (cookie_bytes cookie)) (cookie_wait p) word) =
    init_ack_turn_now (counted_at e) theirs (cookie_bytes cookie) p h.outcome is idle h.comes in
    record { tie = now.0; only = taken_as e p.tag content turns h _ (now.1 ∙ echo_sends (counted_at e) p theirs cookie now.0 good_a) refl (refl, refl) }

-- ---- COOKIE ECHO

abbrev pub acknowledgement : Options → Cookie → Emission
acknowledgement b cookie = cookie_ack_emission (held_by_cookie b cookie) cookie

abbrev pub establishing : Endpoint → Cookie → ℕ → Outcome
establishing e cookie tie =
    let held : Held = held_by_cookie e.options cookie in
    with_effects_first (holds (identity_of cookie.maker held) ∷ connects (identity_of cookie.maker held) ∷ [])
    (sends (endpoint_established e cookie (queues_kept e cookie) tie) (U64 tie ∷ []) (connected ∷ []) (acknowledgement e.options cookie))

-- These bytes read as the cookie, and may be sent.
pub record Spells (bytes : List ℕ) (cookie : Cookie) : Type 0 where
  pub reads : cookie_of_bytes bytes ≡ Ok cookie
  pub fits : FitsEcho bytes
  pub own : FitsPair cookie.maker

pub own_bytes : HandshakeLaws → (cookie : Cookie) → FitsCookie cookie → Spells (cookie_bytes cookie) cookie
own_bytes law cookie fits =
    record { reads = law.cookies cookie fits; fits = record { len_fits = omega (arith, length_of_cookie cookie); cookie_in_bytes = in_cookie cookie }; own = fits.names.maker }

pub record EstablishesBy (e : Endpoint) (cookie : Cookie) (bytes : List ℕ) (turns : List Transition) : Type 0 where
  pub tie : ℕ
  pub only : turns ≡ delivered e cookie.maker.tag (cookie_echo bytes) (establishing (counted_at e) cookie tie)

abbrev pub Establishes : Endpoint → Cookie → List Transition → Type 0
Establishes e cookie turns = EstablishesBy e cookie (cookie_bytes cookie) turns

-- A cookie that isn't spent makes an association where there is none.
pub new_case : (e : Endpoint) (cookie : Cookie) → is_spent e closed cookie.maker.tag cookie ≡ false → resolved_now e closed cookie.maker.tag cookie ≡ establish_new
new_case e cookie unspent =
    ap (λ (spent : Bool). aged_resolution spent (case_without_peer (eqb cookie.maker.tag cookie.maker.tag))) unspent ∙ ap case_without_peer (same_tag cookie.maker.tag)

establish_sends : (e : Endpoint) (cookie : Cookie) (tie : ℕ) → Good e.options → establish_outcome e cookie (queues_kept e cookie) tie (connected ∷ []) ≡ establishing e cookie tie
establish_sends e cookie tie good =
    let held : Held = held_by_cookie e.options cookie in
    let after : Endpoint = endpoint_established e cookie (queues_kept e cookie) tie in
    ap (λ (x : Bool). with_effects_first (holds (identity_of cookie.maker held) ∷ connects (identity_of cookie.maker held) ∷ [])
    (cond x (sends after (U64 tie ∷ []) (connected ∷ []) (acknowledgement e.options cookie)) (quiet after (U64 tie ∷ []) (connected ∷ [])))) good.allow.burst

pub echo_is_taken : (a b : Options) (cookie : Cookie) (bytes : List ℕ) → Good a → Spells bytes cookie → a.remote_port ≡ b.local_port → IsTaken b a true cookie.maker.tag (cookie_echo bytes)
echo_is_taken a b cookie bytes good spells port =
    record {
      fits = good.fits;
      sendable = record { tag = spells.own.tag; contents = (echo_sendable bytes spells.fits, tt) };
      minima = tt;
      to_this_port = sym port;
      checked = inl refl;
    }

-- the packet of the COOKIE ECHO, with these bytes
abbrev pub bytes_packet : Options → Cookie → List ℕ → List ℕ
bytes_packet a cookie bytes = emission_bytes (ports_of a) (echo_emission cookie.maker.tag bytes)

abbrev pub echo_packet : Options → Cookie → List ℕ
echo_packet a cookie = bytes_packet a cookie (cookie_bytes cookie)

-- A socket that knows no peer is established by its own cookie.
establishes_in : HandshakeLaws → (e : Endpoint) (at : Core) (a : Options) (cookie : Cookie) (bytes : List ℕ) (turns : List Transition) → e.core ≡ at → awaits_opening e e.core ≡ false
    → resolved_now (counted_at e) at cookie.maker.tag cookie ≡ establish_new → ((f : Endpoint) (o : Outcome) → BeginTurn f at false o → o ≡ still f) → Spells bytes cookie
    → ((word : ℕ) → IsIdle (endpoint_established (counted_at e) cookie (queues_kept (counted_at e) cookie) word))
    → Good a → Good e.options → a.remote_port ≡ e.options.local_port
    → HandleInput e (bytes_packet a cookie bytes) turns → EstablishesBy e cookie bytes turns
establishes_in law e at a cookie bytes turns is asks case_is begins spells idle good_a good_b port input =
    let c : Endpoint = counted_at e in
    let h : Taken e cookie.maker.tag (cookie_echo bytes) turns =
    taken law.wire e a true cookie.maker.tag (cookie_echo bytes) turns (echo_is_taken a e.options cookie bytes good_a spells port)
    (ap (λ (core : Core). admits core (record { tag = cookie.maker.tag; contents = cookie_echo bytes ∷ [] })) is) asks
    (λ f o rests. begins f o (subst (λ (core : Core). BeginTurn f core false o) is rests)) input in
    let word : ℕ = h.comes.0 in
    let flush : FlushKind = flush_answered h.comes.1 in
    let reads : cookie_of_bytes bytes ≡ Ok cookie = spells.reads in
    let at_core : EchoedAnswers c at cookie.maker.tag (cookie_of_bytes bytes) word h.comes.1 = subst (λ (core : Core). EchoedAnswers c core cookie.maker.tag (cookie_of_bytes bytes) word h.comes.1) is h.comes.2 in
    let allowed : EstablishAnswers c cookie (queues_kept c cookie) word h.comes.1 =
    subst (λ (case : Resolution). ResolvedAnswers c cookie at word case h.comes.1) case_is
    (subst (λ (found : Result Cookie (List ℕ)). EchoedAnswers c at cookie.maker.tag found word h.comes.1) reads at_core) in
    let o : h.outcome ≡ establish_outcome c cookie (queues_kept c cookie) word (connected ∷ []) =
    h.comes.3
    ∙ ap (λ (core : Core). cookie_echo_with_flush flush c core cookie.maker.tag (cookie_of_bytes bytes) word) is
    ∙ ap (λ (found : Result Cookie (List ℕ)). cookie_echo_with_flush flush c at cookie.maker.tag found word) reads
    ∙ ap (λ (case : Resolution). resolve_with_flush flush c cookie at word case) case_is
    ∙ establish_now c cookie (queues_kept c cookie) word (connected ∷ []) h.comes.1 (idle word) allowed in
    record { tie = word; only = taken_as e cookie.maker.tag (cookie_echo bytes) turns h _ (o ∙ establish_sends c cookie word good_b) refl (refl, refl) }

-- A closed socket
pub establishes_by : HandshakeLaws → (e : Endpoint) (a : Options) (cookie : Cookie) (bytes : List ℕ) (turns : List Transition) → e.core ≡ closed
    → is_spent e closed cookie.maker.tag cookie ≡ false → Spells bytes cookie
    → ((word : ℕ) → IsIdle (endpoint_established (counted_at e) cookie (queues_kept (counted_at e) cookie) word))
    → Good a → Good e.options → a.remote_port ≡ e.options.local_port
    → HandleInput e (bytes_packet a cookie bytes) turns → EstablishesBy e cookie bytes turns
establishes_by law e a cookie bytes turns is unspent spells idle good_a good_b port input =
    establishes_in law e closed a cookie bytes turns is (ap (awaits_opening e) is) (new_case (counted_at e) cookie unspent) (λ f o begin. begin) spells idle good_a good_b port input

pub establishes : HandshakeLaws → (e : Endpoint) (a : Options) (cookie : Cookie) (turns : List Transition) → e.core ≡ closed
    → is_spent e closed cookie.maker.tag cookie ≡ false → FitsCookie cookie
    → ((word : ℕ) → IsIdle (endpoint_established (counted_at e) cookie (queues_kept (counted_at e) cookie) word))
    → Good a → Good e.options → a.remote_port ≡ e.options.local_port
    → HandleInput e (echo_packet a cookie) turns → Establishes e cookie turns
establishes law e a cookie turns is unspent fits idle good_a good_b port input =
    establishes_by law e a cookie (cookie_bytes cookie) turns is unspent (own_bytes law cookie fits) idle good_a good_b port input

-- and one that itself awaits an INIT ACK
pub establishes_waiting : HandshakeLaws → (e : Endpoint) (q : Pair) (a : Options) (cookie : Cookie) (turns : List Transition) → e.core ≡ cookie_wait q
    → is_spent e closed cookie.maker.tag cookie ≡ false → FitsCookie cookie
    → ((word : ℕ) → IsIdle (endpoint_established (counted_at e) cookie (queues_kept (counted_at e) cookie) word))
    → Good a → Good e.options → a.remote_port ≡ e.options.local_port
    → HandleInput e (echo_packet a cookie) turns → Establishes e cookie turns
establishes_waiting law e q a cookie turns is unspent fits idle good_a good_b port input =
    establishes_in law e (cookie_wait q) a cookie (cookie_bytes cookie) turns is (ap (awaits_opening e) is) (new_case (counted_at e) cookie unspent) (λ f o begin. begin) (own_bytes law cookie fits) idle good_a good_b port input

-- ---- COOKIE ACK

abbrev pub connecting_last : Endpoint → Pair → Held → Outcome
connecting_last e p held = with_effects_first (connects (identity_of p held) ∷ []) (quiet (connected_after e p held) [] (connected ∷ []))

pub last_admitted : (core : Core) (tag : ℕ) → own_tag core ≡ tag → 1 ≤ tag → admits core (record { tag = tag; contents = cookie_ack ∷ [] }) ≡ all_chunks
last_admitted core tag own some =
    let packet : Packet = record { tag = tag; contents = cookie_ack ∷ [] } in
    ap (λ (zero_tag : Bool). admission_by_answers core packet None None false false zero_tag) (not_zero tag some)
    ∙ ap (λ (is_own : Bool). all_chunks_or_none is_own (wrong_tag_text tag (own_tag core))) (ap (eqb tag) own ∙ same_tag tag)

ack_is_taken : (a b : Options) (p : Pair) (cookie : Cookie) → cookie.offer ≡ offer_of a → Good b → FitsPair p → b.remote_port ≡ a.local_port
    → IsTaken a b (acknowledgement b cookie).with_checksum p.tag cookie_ack
ack_is_taken a b p cookie offered good mine port =
    record {
      fits = good.fits;
      sendable = record { tag = mine.tag; contents = (ack_sendable, tt) };
      minima = tt;
      to_this_port = sym port;
      checked = subst (λ (offer : Offer). (eqb (agreed_method (offer_of b) offer) 0 ≡ true) ⊎ (a.zero_checksum_alternate_error_detection_method.0 ≢ 0)) (sym offered)
          (method_checked b.zero_checksum_alternate_error_detection_method.0 a.zero_checksum_alternate_error_detection_method.0);
    }

abbrev pub acknowledgement_packet : Options → Cookie → List ℕ
acknowledgement_packet b cookie = emission_bytes (ports_of b) (acknowledgement b cookie)

-- The socket that awaits it is established.
pub connects_last : HandshakeLaws → (e : Endpoint) (b : Options) (cookie : Cookie) (p : Pair) (held : Held) (echoed : List ℕ) (turns : List Transition) → e.core ≡ cookie_echoed p held echoed
    → awaits_opening e e.core ≡ false → IsIdle (connected_after (counted_at e) p held) → OwesNothing e.queues.transfer → cookie.addressee ≡ p → cookie.offer ≡ offer_of e.options
    → Good b → FitsPair p → b.remote_port ≡ e.options.local_port
    → HandleInput e (acknowledgement_packet b cookie) turns
    → turns ≡ delivered e p.tag cookie_ack (connecting_last (counted_at e) p held)
connects_last law e b cookie p held echoed turns is asks idle owes addressed offered good mine port input =
    let bytes : List ℕ = emission_bytes (ports_of b) (alone (acknowledgement b cookie).with_checksum p.tag cookie_ack) in
    let here : HandleInput e bytes turns =
    subst (λ (x : Pair). HandleInput e (emission_bytes (ports_of b) (alone (acknowledgement b cookie).with_checksum x.tag cookie_ack)) turns) addressed input in
    let h : Taken e p.tag cookie_ack turns =
    taken law.wire e b (acknowledgement b cookie).with_checksum p.tag cookie_ack turns (ack_is_taken e.options b p cookie offered good mine port)
    (last_admitted e.core p.tag (ap own_tag is) mine.tag_is_not_zero) asks
    (λ f o rests. subst (λ (core : Core). BeginTurn f core false o) is rests) here in
    taken_as e p.tag cookie_ack turns h _
    (cookie_ack_turn_now (counted_at e) p held echoed h.outcome is idle h.comes) refl owes
