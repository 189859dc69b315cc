-- Each turn leaves numbers that fit their fields, and sends what is read as itself.
use Rattle.std.proofs.Common.{◌≡◌, ℕ, ◌<◌, Bool, true, false, cond, Option, None, Some, Result, Ok, Err, List, [], ◌∷◌, ◌^◌, refl, sym, subst, arith}
use Rattle.dcsctp_spec_lemmas.proofs.RefusalLemmas.{by_stale_outcome}
use Rattle.dcsctp_spec_lemmas.specs.wire.ReadsBack.{FitsEcho}
use Rattle.dcsctp_spec_lemmas.specs.types.declared.association.Pair.{Pair}
use Rattle.dcsctp_spec_lemmas.specs.types.declared.association.Held.{Held}
use Rattle.dcsctp_spec_lemmas.specs.types.declared.word.Word.{Word}
use Rattle.dcsctp_spec_lemmas.specs.types.declared.word.Word.TheVariants.{U32, U64}
use Rattle.dcsctp_spec_lemmas.specs.types.declared.kinds.ErrorKind.TheVariants.{ProtocolViolation}
use Rattle.dcsctp_spec_lemmas.specs.spec.Cookie.{Cookie, cookie_of_bytes}
use Rattle.dcsctp_spec_lemmas.specs.spec.endpoint.Cause.{Cause}
use Rattle.dcsctp_spec_lemmas.specs.spec.endpoint.Event.{Event, sent, connected, connection_restarted, aborted}
use Rattle.dcsctp_spec_lemmas.specs.spec.Packet.{Introduction, Content, init, init_ack, cookie_echo, cookie_ack, re_config, abort, shutdown, shutdown_ack, shutdown_complete, plain, Emission}
use Rattle.dcsctp_spec_lemmas.specs.spec.queues.Transfer.{EndpointQueues}
use Rattle.dcsctp_spec_lemmas.specs.spec.endpoint.Endpoint.{Endpoint, Core, closed, cookie_wait, cookie_echoed, open_in, established, shutdown_pending, shutdown_sent, shutdown_received, shutdown_ack_sent, with_secret}
use Rattle.dcsctp_spec_lemmas.specs.spec.endpoint.Outcome.{Outcome, with_effects_first, quiet, sends, emits, fits, to_peer, drawing}
use Rattle.dcsctp_spec_lemmas.specs.spec.endpoint.Turn.{ContentTurn}
use Rattle.dcsctp_spec_lemmas.specs.spec.endpoint.FlushOutcomes.{Answer, draft_to, FlushAnswers, flush_answered}
use Rattle.dcsctp_spec_lemmas.specs.spec.endpoint.EndOutcomes.{ended_outcome, abort_outcome}
use Rattle.dcsctp_spec_lemmas.specs.spec.endpoint.HandshakeOutcomes.{pair_from, renewed_pair, renewed_pair_outcome, cookie_for, init_ack_emission, init_outcome, init_emission, awaits_init_ack, connect_outcome, no_cookie_text, abort_emission, awaits_cookie_ack, echo_emission, EchoAnswers, InitAckAnswers, accept_init_ack_with_flush, init_ack_with_flush, connected_after, CookieAckAnswers, cookie_ack_with_flush}
use Rattle.dcsctp_spec_lemmas.specs.spec.endpoint.CookieEchoOutcomes.{resolved_now, endpoint_established, cookie_ack_emission, EstablishAnswers, establish_with_flush, queues_kept, queues_begun, queues_collided, RestartAnswers, restart_with_flush_by_core, MaintainAnswers, maintain_with_flush, ResolvedAnswers, resolve_with_flush, EchoedAnswers, cookie_echo_with_flush}
use Rattle.dcsctp_spec_lemmas.specs.spec.association.Effect.{AssociationIdentity, Effect, holds, connects, identity_of}
use Rattle.dcsctp_spec_lemmas.specs.spec.association.HandshakeChanges.{held_by_init_ack, new_held}
use Rattle.dcsctp_spec_lemmas.specs.spec.association.CookieEchoChanges.{held_by_cookie, Resolution, establish_new, restart, simultaneous_init, discard, maintain_existing, invalid_tag, stale}
use Rattle.dcsctp_spec_lemmas.specs.spec.CookieFits.{FitsPair}
use Rattle.dcsctp_spec_runs.specs.Laws.{OfferReadsBack}
use Rattle.dcsctp_spec_lemmas.specs.types.declared.capabilities.Capabilities.{Capabilities}
use Rattle.dcsctp_spec_lemmas.specs.types.Offer.{offer_of, negotiated_capabilities}
use Rattle.dcsctp_spec_runs.specs.Fitting.{AllSent, FitsHeld, FitsCore, FitsEndpoint, IsSendable, Sendable, TurnFits}
use Rattle.dcsctp_spec_lemmas.proofs.AbortLemmas.{by_abort_outcome}
use Rattle.dcsctp_spec_lemmas.proofs.OneAnswerLemmas.{init_by}
use Rattle.dcsctp_theorem_sockets.proofs.Bytes.{ReadPairs, read_pairs_fit}
use Rattle.dcsctp_theorem_sockets.proofs.FlushFits.{still_fits, answering_fits, draft_sendable, flushed_fits}
use Rattle.dcsctp_theorem_sockets.proofs.PlainFits.{plain_fits}
use Rattle.dcsctp_theorem_sockets.proofs.Resets.{reset_fits}
use Rattle.dcsctp_theorem_sockets.proofs.Sendable.{init_sendable, init_ack_sendable, echo_sendable, ack_sendable, abort_sendable}
use Rattle.dcsctp_theorem_sockets.proofs.Sent.{all_sent_append}
use Rattle.dcsctp_theorem_sockets.proofs.HeardShutdowns.{heard_fits}
use Rattle.dcsctp_theorem_sockets.proofs.ShutdownFits.{stale_sendable, shutdown_ack_sendable, shutdown_ack_fits, shutdown_complete_fits, refused_restart_fits}
use Rattle.dcsctp_spec_lemmas.proofs.EarlyLemmas.{content_by}

-- ---- one packet at most

packet_fits : (b : Bool) (e : Endpoint) (words : List Word) (events : List (Event Emission)) (emission : Emission) → FitsEndpoint e → AllSent IsSendable events → IsSendable emission
    → TurnFits (cond b (sends e words events emission) (quiet e words events))
packet_fits true e words events emission h before good =
    record { after = record { valid = h.valid; options = h.options; core = h.core; t1 = h.t1 }; sends = all_sent_append IsSendable events (sent emission ∷ []) before (good, tt) }
packet_fits false e words events emission h before good = record { after = h; sends = before }

pub emits_fit : (e : Endpoint) (words : List Word) (emission : Emission) → FitsEndpoint e → IsSendable emission → TurnFits (emits e words emission)
emits_fit e words emission h good = packet_fits (fits e emission) e words [] emission h tt good

noting_fits : (effects : List Effect) (o : Outcome) → TurnFits o → TurnFits (with_effects_first effects o)
noting_fits effects o h = record { after = h.after; sends = h.sends }

drawing_fits : (pair : Pair) (o : Outcome) → TurnFits o → TurnFits (drawing pair o)
drawing_fits pair o h = record { after = h.after; sends = h.sends }

-- ---- INIT

pub drawn_fits : (word next : ℕ) → FitsPair (pair_from word next)
drawn_fits word next = record { tag_is_not_zero = omega arith; tag = omega arith; first_tsn = omega arith }

renewed_fits : (e : Endpoint) (word : ℕ) → FitsPair (renewed_pair e word)
renewed_fits e word = record { tag_is_not_zero = omega arith; tag = omega arith; first_tsn = omega arith }

answer_fits : OfferReadsBack → (e : Endpoint) (theirs : Introduction) (mine : Pair) (tie : ℕ) → FitsEndpoint e → FitsPair theirs.pair → FitsPair mine → IsSendable (init_ack_emission e theirs mine tie)
answer_fits law e theirs mine tie h said own = record { tag = said.tag; contents = (init_ack_sendable law e.options theirs mine (cookie_for e.moment theirs mine tie) h.valid h.options own, tt) }

-- A new pair is drawn for it.
renewed_answer_fits : OfferReadsBack → (e : Endpoint) (theirs : Introduction) (word : ℕ) → FitsEndpoint e → FitsPair theirs.pair → TurnFits (renewed_pair_outcome e theirs word)
renewed_answer_fits law e theirs word h said =
    drawing_fits (renewed_pair e word) _
    (emits_fit e (U32 word ∷ []) (init_ack_emission e theirs (renewed_pair e word) e.tie) h (answer_fits law e theirs (renewed_pair e word) e.tie h said (renewed_fits e word)))

init_fits : OfferReadsBack → (e : Endpoint) (theirs : Introduction) (core : Core) (word next : ℕ) → FitsEndpoint e → FitsCore core → FitsPair theirs.pair → TurnFits (init_outcome e theirs core word next)
init_fits law e theirs closed word next h own said =
    let mine = pair_from word next in
    let anew : Endpoint = with_secret e mine in
    let fits : FitsEndpoint anew = record { valid = h.valid; options = h.options; core = h.core; t1 = h.t1 } in
    drawing_fits mine _
    (emits_fit anew (U32 word ∷ U32 next ∷ []) (init_ack_emission anew theirs mine anew.secret) fits (answer_fits law anew theirs mine anew.secret fits said (drawn_fits word next)))
init_fits law e theirs (cookie_wait my) word next h own said = emits_fit e [] (init_ack_emission e theirs my e.secret) h (answer_fits law e theirs my e.secret h said own)
init_fits law e theirs (cookie_echoed my held cookie) word next h own said = emits_fit e [] (init_ack_emission e theirs my e.secret) h (answer_fits law e theirs my e.secret h said own.0)
init_fits law e theirs (open_in established my held) word next h own said = renewed_answer_fits law e theirs word h said
init_fits law e theirs (open_in shutdown_pending my held) word next h own said = renewed_answer_fits law e theirs word h said
init_fits law e theirs (open_in shutdown_sent my held) word next h own said = renewed_answer_fits law e theirs word h said
init_fits law e theirs (open_in shutdown_received my held) word next h own said = renewed_answer_fits law e theirs word h said
init_fits law e theirs (open_in shutdown_ack_sent my held) word next h own said =
    emits_fit e [] (to_peer held shutdown_ack) h (record { tag = own.1.peer.tag; contents = (shutdown_ack_sendable, tt) })

-- ---- connect

pub connect_fits : OfferReadsBack → (e : Endpoint) (core : Core) (word next : ℕ) → FitsEndpoint e → TurnFits (connect_outcome e core word next)
connect_fits law e closed word next h =
    let mine : Pair = pair_from word next in
    let waiting : FitsEndpoint (awaits_init_ack e mine) = record { valid = h.valid; options = h.options; core = drawn_fits word next; t1 = tt } in
    drawing_fits mine _
    (emits_fit (awaits_init_ack e mine) (U32 word ∷ U32 next ∷ []) (init_emission e mine) waiting
    (record { tag = omega arith; contents = (init_sendable law e.options mine h.valid h.options (drawn_fits word next), tt) }))
connect_fits law e (cookie_wait my) word next h = still_fits e h
connect_fits law e (cookie_echoed my held cookie) word next h = still_fits e h
connect_fits law e (open_in phase my held) word next h = still_fits e h

-- ---- what an association begins with

new_held_fits : (my peer : Pair) (capabilities : Capabilities) → FitsPair my → FitsPair peer → FitsHeld (new_held my peer capabilities)
new_held_fits my peer capabilities own theirs =
    let first : my.first_tsn < 2 ^ 32 = own.first_tsn in
    record { peer = theirs; own_next = first; own_outstanding = tt; peer_last = omega arith }

-- ---- INIT ACK

refused_fits : (b : Bool) (e : Endpoint) (tag : ℕ) → FitsEndpoint e → IsSendable (abort_emission tag)
    → TurnFits (ended_outcome (cond b (sends e [] [] (abort_emission tag)) (quiet e [] [])) (aborted ProtocolViolation no_cookie_text))
refused_fits true e tag h good = record { after = record { valid = h.valid; options = h.options; core = tt; t1 = tt }; sends = (good, (tt, tt)) }
refused_fits false e tag h good = record { after = record { valid = h.valid; options = h.options; core = tt; t1 = tt }; sends = (tt, tt) }

pub echoed_fits : (b : Bool) (e : Endpoint) (words : List Word) (tag : ℕ) (cookie : List ℕ) (answers : List Answer) → EchoAnswers b e tag cookie answers → FitsEndpoint e
    → IsSendable (echo_emission tag cookie) → TurnFits (cond b (flush_answered answers e words [] true tag (cookie_echo cookie ∷ [])) (quiet e words []))
echoed_fits true e words tag cookie answers allowed h good = flushed_fits e words [] true tag (cookie_echo cookie ∷ []) answers allowed h tt good
echoed_fits false e words tag cookie answers allowed h good = record { after = h; sends = tt }

accepted_fits : (e : Endpoint) (my : Pair) (theirs : Introduction) (cookie : Option (List ℕ)) (word : ℕ) (answers : List Answer) → InitAckAnswers e theirs cookie (cookie_wait my) word answers
    → FitsEndpoint e → FitsPair my → Sendable (init_ack theirs cookie) → TurnFits (accept_init_ack_with_flush (flush_answered answers) e my theirs cookie word)
accepted_fits e my theirs None word answers allowed h own good =
    refused_fits (fits e (abort_emission theirs.pair.tag)) e theirs.pair.tag h (record { tag = good.said.tag; contents = (abort_sendable, tt) })
accepted_fits e my theirs (Some cookie) word answers allowed h own good =
    let awaiting : Endpoint = awaits_cookie_ack e my theirs cookie word in
    noting_fits (holds (identity_of my (held_by_init_ack e.options my theirs)) ∷ []) _
    (echoed_fits (fits awaiting (echo_emission theirs.pair.tag cookie)) awaiting (U64 word ∷ []) theirs.pair.tag cookie answers allowed
    (record {
      valid = h.valid;
      options = h.options;
      core = (own, new_held_fits my theirs.pair (negotiated_capabilities (offer_of e.options) theirs.offer) own good.said.0, good.said.1);
      t1 = tt;
    }) (record { tag = good.said.0.tag; contents = (echo_sendable cookie good.said.1, tt) }))

init_ack_fits : (e : Endpoint) (theirs : Introduction) (cookie : Option (List ℕ)) (core : Core) (word : ℕ) (answers : List Answer) → InitAckAnswers e theirs cookie core word answers
    → FitsEndpoint e → FitsCore core → Sendable (init_ack theirs cookie) → TurnFits (init_ack_with_flush (flush_answered answers) e theirs cookie core word)
init_ack_fits e theirs cookie closed word answers allowed h own good = still_fits e h
init_ack_fits e theirs cookie (cookie_wait my) word answers allowed h own good = accepted_fits e my theirs cookie word answers allowed h own good
init_ack_fits e theirs cookie (cookie_echoed my held echoed) word answers allowed h own good = still_fits e h
init_ack_fits e theirs cookie (open_in phase my held) word answers allowed h own good = still_fits e h

-- ---- COOKIE ECHO

-- a flush that begins with COOKIE ACK
acknowledged_fits : (e : Endpoint) (words : List Word) (events : List (Event Emission)) (held : Held) (cookie : Cookie) (answers : List Answer) → FlushAnswers e (cookie_ack_emission held cookie) answers
    → FitsEndpoint e → AllSent IsSendable events → cookie.addressee.tag < 2 ^ 32
    → TurnFits (flush_answered answers e words events (cookie_ack_emission held cookie).with_checksum cookie.addressee.tag (cookie_ack ∷ []))
acknowledged_fits e words events held cookie answers allowed h before tag_fits =
    flushed_fits e words events (cookie_ack_emission held cookie).with_checksum cookie.addressee.tag (cookie_ack ∷ []) answers allowed h before
    (record { tag = tag_fits; contents = (ack_sendable, tt) })

established_fits : (e : Endpoint) (cookie : Cookie) (queues : EndpointQueues) (tie : ℕ) (events : List (Event Emission)) (answers : List Answer) → EstablishAnswers e cookie queues tie answers
    → FitsEndpoint e → ReadPairs cookie → AllSent IsSendable events → TurnFits (establish_with_flush (flush_answered answers) e cookie queues tie events)
established_fits e cookie queues tie events answers allowed h pairs before =
    let held : Held = held_by_cookie e.options cookie in
    let link : AssociationIdentity = identity_of cookie.maker held in
    noting_fits (holds link ∷ connects link ∷ []) _
    (acknowledged_fits (endpoint_established e cookie queues tie) (U64 tie ∷ []) events held cookie answers allowed
    (record {
      valid = h.valid;
      options = h.options;
      core = (pairs.maker, new_held_fits cookie.maker cookie.addressee (negotiated_capabilities (offer_of e.options) cookie.offer) pairs.maker pairs.addressee);
      t1 = tt;
    }) before pairs.addressee.tag)

restarted_fits : (e : Endpoint) (cookie : Cookie) (tie : ℕ) (core : Core) (answers : List Answer) → RestartAnswers e cookie tie core answers → FitsEndpoint e → FitsCore core → ReadPairs cookie
    → TurnFits (restart_with_flush_by_core (flush_answered answers) e cookie tie core)
restarted_fits e cookie tie closed answers allowed h own pairs = established_fits e cookie (queues_begun e cookie) tie (connection_restarted ∷ connected ∷ []) answers allowed h pairs (tt, (tt, tt))
restarted_fits e cookie tie (cookie_wait my) answers allowed h own pairs =
    established_fits e cookie (queues_begun e cookie) tie (connection_restarted ∷ connected ∷ []) answers allowed h pairs (tt, (tt, tt))
restarted_fits e cookie tie (cookie_echoed my held echoed) answers allowed h own pairs =
    established_fits e cookie (queues_begun e cookie) tie (connection_restarted ∷ connected ∷ []) answers allowed h pairs (tt, (tt, tt))
restarted_fits e cookie tie (open_in established my held) answers allowed h own pairs =
    established_fits e cookie (queues_begun e cookie) tie (connection_restarted ∷ connected ∷ []) answers allowed h pairs (tt, (tt, tt))
restarted_fits e cookie tie (open_in shutdown_pending my held) answers allowed h own pairs =
    established_fits e cookie (queues_begun e cookie) tie (connection_restarted ∷ connected ∷ []) answers allowed h pairs (tt, (tt, tt))
restarted_fits e cookie tie (open_in shutdown_sent my held) answers allowed h own pairs =
    established_fits e cookie (queues_begun e cookie) tie (connection_restarted ∷ connected ∷ []) answers allowed h pairs (tt, (tt, tt))
restarted_fits e cookie tie (open_in shutdown_received my held) answers allowed h own pairs =
    established_fits e cookie (queues_begun e cookie) tie (connection_restarted ∷ connected ∷ []) answers allowed h pairs (tt, (tt, tt))
restarted_fits e cookie tie (open_in shutdown_ack_sent my held) answers allowed h own pairs = refused_restart_fits e held h own.1

maintained_fits : (e : Endpoint) (cookie : Cookie) (core : Core) (answers : List Answer) → MaintainAnswers e cookie core answers → FitsEndpoint e → FitsCore core → ReadPairs cookie
    → TurnFits (maintain_with_flush (flush_answered answers) e cookie core)
maintained_fits e cookie closed answers allowed h own pairs = still_fits e h
maintained_fits e cookie (cookie_wait my) answers allowed h own pairs = still_fits e h
maintained_fits e cookie (cookie_echoed my held echoed) answers allowed h own pairs =
    noting_fits (connects (identity_of my held) ∷ []) _
    (acknowledged_fits (connected_after e my held) [] (connected ∷ []) held cookie answers allowed
    (record { valid = h.valid; options = h.options; core = (own.0, own.1); t1 = tt }) (tt, tt) pairs.addressee.tag)
maintained_fits e cookie (open_in phase my held) answers allowed h own pairs = acknowledged_fits e [] [] held cookie answers allowed h tt pairs.addressee.tag

resolved_fits : (e : Endpoint) (cookie : Cookie) (core : Core) (word : ℕ) (resolution : Resolution) (answers : List Answer) → ResolvedAnswers e cookie core word resolution answers → FitsEndpoint e
    → FitsCore core → ReadPairs cookie → TurnFits (resolve_with_flush (flush_answered answers) e cookie core word resolution)
resolved_fits e cookie core word establish_new answers allowed h own pairs = established_fits e cookie (queues_kept e cookie) word (connected ∷ []) answers allowed h pairs (tt, tt)
resolved_fits e cookie core word restart answers allowed h own pairs = restarted_fits e cookie word core answers allowed h own pairs
resolved_fits e cookie core word simultaneous_init answers allowed h own pairs = established_fits e cookie (queues_collided e core cookie) word (connected ∷ []) answers allowed h pairs (tt, tt)
resolved_fits e cookie core word discard answers allowed h own pairs = record { after = h; sends = tt }
resolved_fits e cookie core word maintain_existing answers allowed h own pairs = maintained_fits e cookie core answers allowed h own pairs
resolved_fits e cookie core word invalid_tag answers allowed h own pairs = record { after = h; sends = (tt, tt) }
resolved_fits e cookie core word stale answers allowed h own pairs =
    by_stale_outcome TurnFits e cookie
    (record {
      after = record { valid = h.valid; options = h.options; core = h.core; t1 = h.t1 };
      sends = (tt, (record { tag = pairs.addressee.tag; contents = (stale_sendable, tt) }, tt));
    })
    (record { after = h; sends = (tt, tt) })

echo_fits : (e : Endpoint) (core : Core) (header : ℕ) (bytes : List ℕ) (found : Result Cookie (List ℕ)) (word : ℕ) (answers : List Answer) → EchoedAnswers e core header found word answers
    → cookie_of_bytes bytes ≡ found → FitsEndpoint e → FitsCore core → FitsEcho bytes → TurnFits (cookie_echo_with_flush (flush_answered answers) e core header found word)
echo_fits e core header bytes (Err text) word answers allowed is h own echo = record { after = h; sends = (tt, tt) }
echo_fits e core header bytes (Ok cookie) word answers allowed is h own echo =
    resolved_fits e cookie core word (resolved_now e core header cookie) answers allowed h own (read_pairs_fit bytes cookie echo.cookie_in_bytes is)

-- ---- COOKIE ACK and ABORT

cookie_ack_fits : (e : Endpoint) (core : Core) (answers : List Answer) → CookieAckAnswers e core answers → FitsEndpoint e → FitsCore core → TurnFits (cookie_ack_with_flush (flush_answered answers) e core)
cookie_ack_fits e closed answers allowed h own = still_fits e h
cookie_ack_fits e (cookie_wait my) answers allowed h own = still_fits e h
cookie_ack_fits e (cookie_echoed my held cookie) answers allowed h own =
    noting_fits (connects (identity_of my held) ∷ []) _
    (flushed_fits (connected_after e my held) [] (connected ∷ []) (draft_to held).with_checksum held.peer.tag [] answers allowed
    (record { valid = h.valid; options = h.options; core = (own.0, own.1); t1 = tt }) (tt, tt) (draft_sendable held own.1))
cookie_ack_fits e (open_in phase my held) answers allowed h own = still_fits e h

abort_fits : (e : Endpoint) (causes : List Cause) (core : Core) → FitsEndpoint e → TurnFits (abort_outcome e causes core)
abort_fits e causes core h =
    by_abort_outcome TurnFits e causes core (record { after = record { valid = h.valid; options = h.options; core = tt; t1 = tt }; sends = (tt, tt) }) (still_fits e h)

-- ---- each chunk that is read of what a socket sent

pub turn_fits : OfferReadsBack → (e : Endpoint) (tag : ℕ) (content : Content) (o : Outcome) → ContentTurn e tag content o → FitsEndpoint e → tag < 2 ^ 32 → Sendable content → TurnFits o
turn_fits law e tag (init theirs) o turn h tagged good =
    let at : TurnFits (init_outcome e theirs e.core turn.0 turn.1) = init_fits law e theirs e.core turn.0 turn.1 h h.core good.said.0 in
    subst TurnFits (sym turn.2) (init_by TurnFits e theirs turn.0 turn.1 (still_fits e h) (answering_fits (init_outcome e theirs e.core turn.0 turn.1) at))
turn_fits law e tag (init_ack theirs cookie) o turn h tagged good = subst TurnFits (sym turn.3) (init_ack_fits e theirs cookie e.core turn.0 turn.1 turn.2 h h.core good)
turn_fits law e tag (cookie_echo bytes) o turn h tagged good = subst TurnFits (sym turn.3) (echo_fits e e.core tag bytes (cookie_of_bytes bytes) turn.0 turn.1 turn.2 refl h h.core good.fits)
turn_fits law e tag cookie_ack o turn h tagged good = subst TurnFits (sym turn.2) (cookie_ack_fits e e.core turn.0 turn.1 h h.core)
turn_fits law e tag (re_config parameters) o turn h tagged good =
    content_by e tag (re_config parameters) o (λ dropped. subst TurnFits (sym dropped) (still_fits e h)) (λ handled. reset_fits e e.core parameters o handled h h.core good) turn
turn_fits law e tag (abort reflected causes) o turn h tagged good = subst TurnFits (sym turn) (abort_fits e causes e.core h)
turn_fits law e tag (shutdown cumulative_tsn) o turn h tagged good = heard_fits e cumulative_tsn o turn h
turn_fits law e tag shutdown_ack o turn h tagged good = subst TurnFits (sym turn) (shutdown_ack_fits e e.core tag h h.core tagged)
turn_fits law e tag (shutdown_complete reflected) o turn h tagged good = subst TurnFits (sym turn) (shutdown_complete_fits e e.core h)
turn_fits law e tag (plain chunk) o turn h tagged good =
    content_by e tag (plain chunk) o (λ dropped. subst TurnFits (sym dropped) (still_fits e h)) (λ handled. plain_fits e chunk o handled h good) turn
