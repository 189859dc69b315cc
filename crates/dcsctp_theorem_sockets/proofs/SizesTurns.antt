-- The turns of the handshake, of ABORT and of T1 send no packet that is longer than a limit,
-- whatever a chunk says.
use Rattle.std.proofs.Common.{◌≡◌, ℕ, Option, None, Some, Result, Ok, Err, List, [], ◌∷◌, refl, arith}
use Rattle.dcsctp_spec_lemmas.proofs.RefusalLemmas.{by_stale_outcome}
use Rattle.dcsctp_spec_lemmas.specs.wire.Spelling.{parameter_bytes, other_bytes, parameter_chunk_bytes}
use Rattle.dcsctp_spec_lemmas.specs.types.declared.association.Pair.{Pair}
use Rattle.dcsctp_spec_lemmas.specs.types.declared.association.Held.{Held}
use Rattle.dcsctp_spec_lemmas.specs.types.declared.word.Word.{Word}
use Rattle.dcsctp_spec_lemmas.specs.types.declared.word.Word.TheVariants.{U32, U64}
use Rattle.dcsctp_spec_lemmas.specs.types.declared.ends.AbortReason.{AbortReason}
use Rattle.dcsctp_spec_lemmas.specs.types.declared.ends.AbortReason.TheVariants as reasons
use Rattle.dcsctp_spec_lemmas.specs.types.declared.kinds.ErrorKind.TheVariants.{ProtocolViolation}
use Rattle.dcsctp_spec_lemmas.specs.spec.endpoint.Cause.{Cause}
use Rattle.dcsctp_spec_lemmas.specs.spec.Cookie.{Cookie}
use Rattle.dcsctp_spec_lemmas.specs.spec.endpoint.Event.{Event, connected, connection_restarted, aborted}
use Rattle.dcsctp_spec_lemmas.specs.spec.queues.Transfer.{EndpointQueues}
use Rattle.dcsctp_spec_lemmas.specs.spec.Packet.{Introduction, cookie_ack, shutdown_ack, Emission}
use Rattle.dcsctp_spec_lemmas.specs.spec.endpoint.Endpoint.{Endpoint, Core, closed, cookie_wait, cookie_echoed, open_in, established, shutdown_pending, shutdown_sent, shutdown_received, shutdown_ack_sent, with_secret, secret_with}
use Rattle.dcsctp_spec_lemmas.specs.spec.endpoint.Outcome.{Outcome, contents_len, emits, to_peer}
use Rattle.dcsctp_spec_lemmas.specs.spec.endpoint.FlushOutcomes.{Answer, draft_to, FlushAnswers, flush_answered}
use Rattle.dcsctp_spec_lemmas.specs.spec.endpoint.EndOutcomes.{ended_outcome, abort_outcome, abort_to, end_of, aborting_outcome}
use Rattle.dcsctp_spec_lemmas.specs.spec.endpoint.HandshakeOutcomes.{pair_from, renewed_pair, init_ack_emission, init_outcome, init_emission, awaits_init_ack, connect_outcome, no_cookie_text, abort_emission, awaits_cookie_ack, InitAckAnswers, accept_init_ack_with_flush, init_ack_with_flush, connected_after, CookieAckAnswers, cookie_ack_with_flush}
use Rattle.dcsctp_spec_lemmas.specs.spec.endpoint.TimerOutcomes.{AgainAnswers, send_again_with_flush, t1_gives_up_outcome}
use Rattle.dcsctp_spec_lemmas.specs.spec.endpoint.CookieEchoOutcomes.{resolved_now, endpoint_established, cookie_ack_emission, EstablishAnswers, establish_with_flush, queues_kept, queues_begun, queues_collided, restart_with_flush, RestartAnswers, restart_with_flush_by_core, MaintainAnswers, maintain_with_flush, ResolvedAnswers, resolve_with_flush, EchoedAnswers, cookie_echo_with_flush}
use Rattle.dcsctp_spec_lemmas.specs.spec.association.CookieEchoChanges.{held_by_cookie, shutting_down_error, stale_error, Resolution, establish_new, restart, simultaneous_init, discard, maintain_existing, invalid_tag, stale}
use Rattle.dcsctp_spec_lemmas.proofs.AbortLemmas.{by_abort_outcome}
use Rattle.dcsctp_theorem_sockets.proofs.Sizes.{AtLimit, AllShort, TurnSizes, short_append, emits_sizes, flushed_sizes, echoed_sizes}

-- ---- the handshake

pub init_sizes : (limit : ℕ) (e : Endpoint) (theirs : Introduction) (core : Core) (word next : ℕ) → AtLimit limit e → TurnSizes limit (init_outcome e theirs core word next)
init_sizes limit e theirs closed word next h = emits_sizes limit (with_secret e (pair_from word next)) (U32 word ∷ U32 next ∷ []) (init_ack_emission (with_secret e (pair_from word next)) theirs (pair_from word next) (secret_with e (pair_from word next))) h
init_sizes limit e theirs (cookie_wait my) word next h = emits_sizes limit e [] (init_ack_emission e theirs my e.secret) h
init_sizes limit e theirs (cookie_echoed my held cookie) word next h = emits_sizes limit e [] (init_ack_emission e theirs my e.secret) h
init_sizes limit e theirs (open_in established my held) word next h = emits_sizes limit e (U32 word ∷ []) (init_ack_emission e theirs (renewed_pair e word) e.tie) h
init_sizes limit e theirs (open_in shutdown_pending my held) word next h = emits_sizes limit e (U32 word ∷ []) (init_ack_emission e theirs (renewed_pair e word) e.tie) h
init_sizes limit e theirs (open_in shutdown_sent my held) word next h = emits_sizes limit e (U32 word ∷ []) (init_ack_emission e theirs (renewed_pair e word) e.tie) h
init_sizes limit e theirs (open_in shutdown_received my held) word next h = emits_sizes limit e (U32 word ∷ []) (init_ack_emission e theirs (renewed_pair e word) e.tie) h
init_sizes limit e theirs (open_in shutdown_ack_sent my held) word next h = emits_sizes limit e [] (to_peer held shutdown_ack) h

pub connect_sizes : (limit : ℕ) (e : Endpoint) (core : Core) (word next : ℕ) → AtLimit limit e → TurnSizes limit (connect_outcome e core word next)
connect_sizes limit e closed word next h = emits_sizes limit (awaits_init_ack e (pair_from word next)) (U32 word ∷ U32 next ∷ []) (init_emission e (pair_from word next)) h
connect_sizes limit e (cookie_wait my) word next h = (h, tt)
connect_sizes limit e (cookie_echoed my held cookie) word next h = (h, tt)
connect_sizes limit e (open_in phase my held) word next h = (h, tt)

-- a packet, if there is one, and then an event that ends the association
ended_sizes : (limit : ℕ) (before : Outcome) (event : Event Emission) → TurnSizes limit before → AllShort limit (event ∷ []) → TurnSizes limit (ended_outcome before event)
ended_sizes limit before event h none = (h.0, short_append limit before.events (event ∷ []) h.1 none)

accepted_sizes : (limit : ℕ) (e : Endpoint) (my : Pair) (theirs : Introduction) (cookie : Option (List ℕ)) (word : ℕ) (answers : List Answer)
    → InitAckAnswers e theirs cookie (cookie_wait my) word answers → AtLimit limit e → TurnSizes limit (accept_init_ack_with_flush (flush_answered answers) e my theirs cookie word)
accepted_sizes limit e my theirs None word answers allowed h =
    ended_sizes limit (emits e [] (abort_emission theirs.pair.tag)) (aborted ProtocolViolation no_cookie_text) (emits_sizes limit e [] (abort_emission theirs.pair.tag) h) tt
accepted_sizes limit e my theirs (Some cookie) word answers allowed h =
    echoed_sizes limit (awaits_cookie_ack e my theirs cookie word) (U64 word ∷ []) theirs.pair.tag cookie answers allowed h

pub init_ack_sizes : (limit : ℕ) (e : Endpoint) (theirs : Introduction) (cookie : Option (List ℕ)) (core : Core) (word : ℕ) (answers : List Answer) → InitAckAnswers e theirs cookie core word answers
    → AtLimit limit e → TurnSizes limit (init_ack_with_flush (flush_answered answers) e theirs cookie core word)
init_ack_sizes limit e theirs cookie closed word answers allowed h = (h, tt)
init_ack_sizes limit e theirs cookie (cookie_wait my) word answers allowed h = accepted_sizes limit e my theirs cookie word answers allowed h
init_ack_sizes limit e theirs cookie (cookie_echoed my held echoed) word answers allowed h = (h, tt)
init_ack_sizes limit e theirs cookie (open_in phase my held) word answers allowed h = (h, tt)

pub cookie_ack_sizes : (limit : ℕ) (e : Endpoint) (core : Core) (answers : List Answer) → CookieAckAnswers e core answers → AtLimit limit e → TurnSizes limit (cookie_ack_with_flush (flush_answered answers) e core)
cookie_ack_sizes limit e closed answers allowed h = (h, tt)
cookie_ack_sizes limit e (cookie_wait my) answers allowed h = (h, tt)
cookie_ack_sizes limit e (cookie_echoed my held cookie) answers allowed h =
    flushed_sizes limit (connected_after e my held) [] (connected ∷ []) (draft_to held).with_checksum held.peer.tag [] answers allowed h tt (omega (arith, h.1))
cookie_ack_sizes limit e (open_in phase my held) answers allowed h = (h, tt)

-- ---- COOKIE ECHO

ack_len : contents_len (cookie_ack ∷ []) ≡ 4
unfolding other_bytes
ack_len = refl

-- a flush that begins with COOKIE ACK, after these events
acknowledged_sizes : (limit : ℕ) (e : Endpoint) (words : List Word) (events : List (Event Emission)) (held : Held) (cookie : Cookie) (answers : List Answer)
    → FlushAnswers e (cookie_ack_emission held cookie) answers → AtLimit limit e → AllShort limit events
    → TurnSizes limit (flush_answered answers e words events (cookie_ack_emission held cookie).with_checksum cookie.addressee.tag (cookie_ack ∷ []))
acknowledged_sizes limit e words events held cookie answers allowed h before =
    flushed_sizes limit e words events (cookie_ack_emission held cookie).with_checksum cookie.addressee.tag (cookie_ack ∷ []) answers allowed h before (omega (arith, h.1, ack_len))

established_sizes : (limit : ℕ) (e : Endpoint) (cookie : Cookie) (queues : EndpointQueues) (tie : ℕ) (events : List (Event Emission)) (answers : List Answer)
    → EstablishAnswers e cookie queues tie answers → AtLimit limit e → AllShort limit events → TurnSizes limit (establish_with_flush (flush_answered answers) e cookie queues tie events)
established_sizes limit e cookie queues tie events answers allowed h before =
    acknowledged_sizes limit (endpoint_established e cookie queues tie) (U64 tie ∷ []) events (held_by_cookie e.options cookie) cookie answers allowed h before

begun_sizes : (limit : ℕ) (e : Endpoint) (cookie : Cookie) (tie : ℕ) (answers : List Answer) → EstablishAnswers e cookie (queues_begun e cookie) tie answers → AtLimit limit e
    → TurnSizes limit (restart_with_flush (flush_answered answers) e cookie tie)
begun_sizes limit e cookie tie answers allowed h = established_sizes limit e cookie (queues_begun e cookie) tie (connection_restarted ∷ connected ∷ []) answers allowed h tt

-- SHUTDOWN ACK and ERROR
refusal_len : contents_len (shutdown_ack ∷ shutting_down_error ∷ []) ≡ 12
unfolding other_bytes parameter_chunk_bytes parameter_bytes
refusal_len = refl

-- ERROR with the cause Stale Cookie
stale_len : contents_len (stale_error ∷ []) ≡ 12
unfolding other_bytes parameter_chunk_bytes parameter_bytes
stale_len = refl

restarted_sizes : (limit : ℕ) (e : Endpoint) (cookie : Cookie) (tie : ℕ) (core : Core) (answers : List Answer) → RestartAnswers e cookie tie core answers → AtLimit limit e
    → TurnSizes limit (restart_with_flush_by_core (flush_answered answers) e cookie tie core)
restarted_sizes limit e cookie tie closed answers allowed h = begun_sizes limit e cookie tie answers allowed h
restarted_sizes limit e cookie tie (cookie_wait my) answers allowed h = begun_sizes limit e cookie tie answers allowed h
restarted_sizes limit e cookie tie (cookie_echoed my held echoed) answers allowed h = begun_sizes limit e cookie tie answers allowed h
restarted_sizes limit e cookie tie (open_in established my held) answers allowed h = begun_sizes limit e cookie tie answers allowed h
restarted_sizes limit e cookie tie (open_in shutdown_pending my held) answers allowed h = begun_sizes limit e cookie tie answers allowed h
restarted_sizes limit e cookie tie (open_in shutdown_sent my held) answers allowed h = begun_sizes limit e cookie tie answers allowed h
restarted_sizes limit e cookie tie (open_in shutdown_received my held) answers allowed h = begun_sizes limit e cookie tie answers allowed h
restarted_sizes limit e cookie tie (open_in shutdown_ack_sent my held) answers allowed h = (h, (omega (arith, h.1, refusal_len), tt))

maintained_sizes : (limit : ℕ) (e : Endpoint) (cookie : Cookie) (core : Core) (answers : List Answer) → MaintainAnswers e cookie core answers → AtLimit limit e
    → TurnSizes limit (maintain_with_flush (flush_answered answers) e cookie core)
maintained_sizes limit e cookie closed answers allowed h = (h, tt)
maintained_sizes limit e cookie (cookie_wait my) answers allowed h = (h, tt)
maintained_sizes limit e cookie (cookie_echoed my held echoed) answers allowed h = acknowledged_sizes limit (connected_after e my held) [] (connected ∷ []) held cookie answers allowed h tt
maintained_sizes limit e cookie (open_in phase my held) answers allowed h = acknowledged_sizes limit e [] [] held cookie answers allowed h tt

resolved_sizes : (limit : ℕ) (e : Endpoint) (cookie : Cookie) (core : Core) (word : ℕ) (resolution : Resolution) (answers : List Answer) → ResolvedAnswers e cookie core word resolution answers
    → AtLimit limit e → TurnSizes limit (resolve_with_flush (flush_answered answers) e cookie core word resolution)
resolved_sizes limit e cookie core word establish_new answers allowed h = established_sizes limit e cookie (queues_kept e cookie) word (connected ∷ []) answers allowed h tt
resolved_sizes limit e cookie core word restart answers allowed h = restarted_sizes limit e cookie word core answers allowed h
resolved_sizes limit e cookie core word simultaneous_init answers allowed h = established_sizes limit e cookie (queues_collided e core cookie) word (connected ∷ []) answers allowed h tt
resolved_sizes limit e cookie core word discard answers allowed h = (h, tt)
resolved_sizes limit e cookie core word maintain_existing answers allowed h = maintained_sizes limit e cookie core answers allowed h
resolved_sizes limit e cookie core word invalid_tag answers allowed h = (h, tt)
resolved_sizes limit e cookie core word stale answers allowed h = by_stale_outcome (TurnSizes limit) e cookie (h, (omega (arith, h.1, stale_len), tt)) (h, tt)

pub echo_sizes : (limit : ℕ) (e : Endpoint) (core : Core) (header : ℕ) (found : Result Cookie (List ℕ)) (word : ℕ) (answers : List Answer) → EchoedAnswers e core header found word answers
    → AtLimit limit e → TurnSizes limit (cookie_echo_with_flush (flush_answered answers) e core header found word)
echo_sizes limit e core header (Err text) word answers allowed h = (h, tt)
echo_sizes limit e core header (Ok cookie) word answers allowed h = resolved_sizes limit e cookie core word (resolved_now e core header cookie) answers allowed h

-- ---- ends, and T1

pub abort_sizes : (limit : ℕ) (e : Endpoint) (causes : List Cause) (core : Core) → AtLimit limit e → TurnSizes limit (abort_outcome e causes core)
abort_sizes limit e causes core h = by_abort_outcome (TurnSizes limit) e causes core (h, tt) (h, tt)

-- The event that ends an association is no packet.
end_short : (limit : ℕ) (reason : AbortReason) → AllShort limit (end_of reason ∷ [])
end_short limit reasons.CloseCalled = tt
end_short limit (reasons.Violation violation) = tt
end_short limit reasons.TooManyErrors = tt

pub aborting_sizes : (limit : ℕ) (e : Endpoint) (core : Core) (reason : AbortReason) → AtLimit limit e → TurnSizes limit (aborting_outcome e core reason)
aborting_sizes limit e closed reason h = (h, tt)
aborting_sizes limit e (cookie_wait my) reason h = (h, end_short limit reason)
aborting_sizes limit e (cookie_echoed my held cookie) reason h =
    ended_sizes limit (emits e [] (abort_to held reason)) (end_of reason) (emits_sizes limit e [] (abort_to held reason) h) (end_short limit reason)
aborting_sizes limit e (open_in phase my held) reason h =
    ended_sizes limit (emits e [] (abort_to held reason)) (end_of reason) (emits_sizes limit e [] (abort_to held reason) h) (end_short limit reason)

pub again_sizes : (limit : ℕ) (e : Endpoint) (core : Core) (answers : List Answer) → AgainAnswers e core answers → AtLimit limit e → TurnSizes limit (send_again_with_flush (flush_answered answers) e core)
again_sizes limit e closed answers allowed h = (h, tt)
again_sizes limit e (cookie_wait my) answers allowed h = emits_sizes limit e [] (init_emission e my) h
again_sizes limit e (cookie_echoed my held cookie) answers allowed h = echoed_sizes limit e [] held.peer.tag cookie answers allowed h
again_sizes limit e (open_in phase my held) answers allowed h = (h, tt)

pub gives_up_sizes : (limit : ℕ) (e : Endpoint) (core : Core) → AtLimit limit e → TurnSizes limit (t1_gives_up_outcome e core)
gives_up_sizes limit e closed h = (h, tt)
gives_up_sizes limit e (cookie_wait my) h = (h, tt)
gives_up_sizes limit e (cookie_echoed my held cookie) h = (h, tt)
gives_up_sizes limit e (open_in phase my held) h = (h, tt)
