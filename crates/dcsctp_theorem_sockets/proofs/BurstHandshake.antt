-- How many packets the turns of the handshake, of ABORT and of T1 send.
use Rattle.std.proofs.Common.{◌≡◌, ◌≤◌, ℕ, max, Option, None, Some, Result, Ok, Err, List, [], ◌∷◌, sym, subst, arith}
use Rattle.dcsctp_spec_lemmas.proofs.RefusalLemmas.{by_stale_outcome}
use Rattle.dcsctp_spec_lemmas.specs.types.declared.word.Word.TheVariants.{U32, U64}
use Rattle.dcsctp_spec_lemmas.specs.types.declared.ends.AbortReason.{AbortReason}
use Rattle.dcsctp_spec_lemmas.specs.types.declared.ends.AbortReason.TheVariants as reasons
use Rattle.dcsctp_spec_lemmas.specs.types.declared.kinds.ErrorKind.TheVariants.{ProtocolViolation}
use Rattle.dcsctp_spec_lemmas.specs.types.declared.options.Options.{Options}
use Rattle.dcsctp_spec_lemmas.specs.spec.endpoint.Cause.{Cause}
use Rattle.dcsctp_spec_lemmas.specs.spec.Cookie.{Cookie}
use Rattle.dcsctp_spec_lemmas.specs.spec.endpoint.Event.{aborted}
use Rattle.dcsctp_spec_lemmas.specs.spec.queues.Transfer.{EndpointQueues}
use Rattle.dcsctp_spec_lemmas.specs.spec.Packet.{Introduction, shutdown_ack, init_ack}
use Rattle.dcsctp_spec_lemmas.specs.spec.endpoint.Endpoint.{Endpoint, Core, closed, cookie_wait, cookie_echoed, open_in, established, shutdown_pending, shutdown_sent, shutdown_received, shutdown_ack_sent, with_secret, secret_with}
use Rattle.dcsctp_spec_lemmas.specs.spec.endpoint.Outcome.{Outcome, emits, to_peer}
use Rattle.dcsctp_spec_lemmas.specs.spec.endpoint.FlushOutcomes.{Answer, draft_to, flush_of, flush_answered}
use Rattle.dcsctp_spec_lemmas.specs.spec.endpoint.EndOutcomes.{abort_outcome, abort_to, end_of, aborting_outcome}
use Rattle.dcsctp_spec_lemmas.specs.spec.endpoint.HandshakeOutcomes.{pair_from, renewed_pair, init_ack_emission, init_outcome, init_emission, awaits_init_ack, connect_outcome, no_cookie_text, abort_emission, awaits_cookie_ack, InitAckAnswers, init_ack_with_flush, connected_after, CookieAckAnswers, cookie_ack_with_flush}
use Rattle.dcsctp_spec_lemmas.specs.spec.endpoint.TimerOutcomes.{AgainAnswers, send_again_with_flush, t1_gives_up_outcome}
use Rattle.dcsctp_spec_lemmas.specs.spec.endpoint.CookieEchoOutcomes.{resolved_now, endpoint_established, cookie_ack_emission, EstablishAnswers, queues_kept, queues_begun, queues_collided, RestartAnswers, restart_with_flush_by_core, MaintainAnswers, maintain_with_flush, ResolvedAnswers, resolve_with_flush, EchoedAnswers, cookie_echo_with_flush}
use Rattle.dcsctp_spec_lemmas.specs.spec.association.CookieEchoChanges.{held_by_cookie, Resolution, establish_new, restart, simultaneous_init, discard, maintain_existing, invalid_tag, stale}
use Rattle.dcsctp_theorem_sockets.specs.Bursts.{packets_of_chunk, packets_of_t1}
use Rattle.dcsctp_spec_lemmas.proofs.AbortLemmas.{by_abort_outcome}
use Rattle.dcsctp_theorem_sockets.proofs.Bursts.{count, append_few, Few, none, emits_few, HasPeer, allowed_after, IsBurst, flush_is_burst, echo_is_burst}

-- ---- the handshake

pub init_few : (e : Endpoint) (theirs : Introduction) (core : Core) (word next : ℕ) → Few 1 (init_outcome e theirs core word next)
init_few e theirs closed word next = emits_few (with_secret e (pair_from word next)) (U32 word ∷ U32 next ∷ []) (init_ack_emission (with_secret e (pair_from word next)) theirs (pair_from word next) (secret_with e (pair_from word next)))
init_few e theirs (cookie_wait my) word next = emits_few e [] (init_ack_emission e theirs my e.secret)
init_few e theirs (cookie_echoed my held cookie) word next = emits_few e [] (init_ack_emission e theirs my e.secret)
init_few e theirs (open_in established my held) word next = emits_few e (U32 word ∷ []) (init_ack_emission e theirs (renewed_pair e word) e.tie)
init_few e theirs (open_in shutdown_pending my held) word next = emits_few e (U32 word ∷ []) (init_ack_emission e theirs (renewed_pair e word) e.tie)
init_few e theirs (open_in shutdown_sent my held) word next = emits_few e (U32 word ∷ []) (init_ack_emission e theirs (renewed_pair e word) e.tie)
init_few e theirs (open_in shutdown_received my held) word next = emits_few e (U32 word ∷ []) (init_ack_emission e theirs (renewed_pair e word) e.tie)
init_few e theirs (open_in shutdown_ack_sent my held) word next = emits_few e [] (to_peer held shutdown_ack)

pub connect_few : (e : Endpoint) (core : Core) (word next : ℕ) → Few 1 (connect_outcome e core word next)
connect_few e closed word next = emits_few (awaits_init_ack e (pair_from word next)) (U32 word ∷ U32 next ∷ []) (init_emission e (pair_from word next))
connect_few e (cookie_wait my) word next = none 1
connect_few e (cookie_echoed my held cookie) word next = none 1
connect_few e (open_in phase my held) word next = none 1

-- an INIT ACK, with a cookie or without one
abbrev IsAfterInitAck : Options → Introduction → Option (List ℕ) → Outcome → Type 0
IsAfterInitAck options theirs cookie o = count o.events ≤ packets_of_chunk options (init_ack theirs cookie) (allowed_after o)

pub init_ack_counts : (e : Endpoint) (theirs : Introduction) (cookie : Option (List ℕ)) (core : Core) (word : ℕ) (answers : List Answer) → InitAckAnswers e theirs cookie core word answers
    → IsAfterInitAck e.options theirs cookie (init_ack_with_flush (flush_answered answers) e theirs cookie core word)
init_ack_counts e theirs None closed word answers allowed = none 1
init_ack_counts e theirs None (cookie_wait my) word answers allowed =
    append_few 1 0 (emits e [] (abort_emission theirs.pair.tag)).events (aborted ProtocolViolation no_cookie_text ∷ []) (emits_few e [] (abort_emission theirs.pair.tag)) (none 0)
init_ack_counts e theirs None (cookie_echoed my held echoed) word answers allowed = none 1
init_ack_counts e theirs None (open_in phase my held) word answers allowed = none 1
init_ack_counts e theirs (Some cookie) closed word answers allowed = omega arith
init_ack_counts e theirs (Some cookie) (cookie_wait my) word answers allowed =
    echo_is_burst (awaits_cookie_ack e my theirs cookie word) (U64 word ∷ []) theirs.pair.tag cookie answers tt allowed
init_ack_counts e theirs (Some cookie) (cookie_echoed my held echoed) word answers allowed = omega arith
init_ack_counts e theirs (Some cookie) (open_in phase my held) word answers allowed = omega arith

pub cookie_ack_is_burst : (e : Endpoint) (core : Core) (answers : List Answer) → CookieAckAnswers e core answers → IsBurst (cookie_ack_with_flush (flush_answered answers) e core)
cookie_ack_is_burst e closed answers allowed = omega arith
cookie_ack_is_burst e (cookie_wait my) answers allowed = omega arith
cookie_ack_is_burst e (cookie_echoed my held cookie) answers allowed = flush_is_burst (connected_after e my held) (draft_to held) answers tt allowed
cookie_ack_is_burst e (open_in phase my held) answers allowed = omega arith

-- ---- COOKIE ECHO

-- A flush, or one packet.
abbrev IsEchoed : Outcome → Type 0
IsEchoed o = count o.events ≤ max 1 (allowed_after o)

burst_of : (n : ℕ) (events : ℕ) → events ≤ n → events ≤ max 1 n
burst_of n events few = omega (arith, few)

nothing_of : (n : ℕ) → 0 ≤ max 1 n
nothing_of n = omega arith

established_echoed : (e : Endpoint) (cookie : Cookie) (queues : EndpointQueues) (tie : ℕ) (answers : List Answer) → EstablishAnswers e cookie queues tie answers
    → IsEchoed (flush_of (endpoint_established e cookie queues tie) (cookie_ack_emission (held_by_cookie e.options cookie) cookie) answers)
established_echoed e cookie queues tie answers allowed =
    burst_of _ _ (flush_is_burst (endpoint_established e cookie queues tie) (cookie_ack_emission (held_by_cookie e.options cookie) cookie) answers tt allowed)

restarted_echoed : (e : Endpoint) (cookie : Cookie) (tie : ℕ) (core : Core) (answers : List Answer) → RestartAnswers e cookie tie core answers
    → IsEchoed (restart_with_flush_by_core (flush_answered answers) e cookie tie core)
restarted_echoed e cookie tie closed answers allowed = established_echoed e cookie (queues_begun e cookie) tie answers allowed
restarted_echoed e cookie tie (cookie_wait my) answers allowed = established_echoed e cookie (queues_begun e cookie) tie answers allowed
restarted_echoed e cookie tie (cookie_echoed my held echoed) answers allowed = established_echoed e cookie (queues_begun e cookie) tie answers allowed
restarted_echoed e cookie tie (open_in established my held) answers allowed = established_echoed e cookie (queues_begun e cookie) tie answers allowed
restarted_echoed e cookie tie (open_in shutdown_pending my held) answers allowed = established_echoed e cookie (queues_begun e cookie) tie answers allowed
restarted_echoed e cookie tie (open_in shutdown_sent my held) answers allowed = established_echoed e cookie (queues_begun e cookie) tie answers allowed
restarted_echoed e cookie tie (open_in shutdown_received my held) answers allowed = established_echoed e cookie (queues_begun e cookie) tie answers allowed
restarted_echoed e cookie tie (open_in shutdown_ack_sent my held) answers allowed = omega arith

maintained_echoed : (e : Endpoint) (cookie : Cookie) (core : Core) (answers : List Answer) → e.core ≡ core → MaintainAnswers e cookie core answers → IsEchoed (maintain_with_flush (flush_answered answers) e cookie core)
maintained_echoed e cookie closed answers is allowed = nothing_of _
maintained_echoed e cookie (cookie_wait my) answers is allowed = nothing_of _
maintained_echoed e cookie (cookie_echoed my held echoed) answers is allowed = burst_of _ _ (flush_is_burst (connected_after e my held) (cookie_ack_emission held cookie) answers tt allowed)
maintained_echoed e cookie (open_in phase my held) answers is allowed = burst_of _ _ (flush_is_burst e (cookie_ack_emission held cookie) answers (subst HasPeer (sym is) tt) allowed)

resolved_echoed : (e : Endpoint) (cookie : Cookie) (core : Core) (word : ℕ) (resolution : Resolution) (answers : List Answer) → e.core ≡ core → ResolvedAnswers e cookie core word resolution answers
    → IsEchoed (resolve_with_flush (flush_answered answers) e cookie core word resolution)
resolved_echoed e cookie core word establish_new answers is allowed = established_echoed e cookie (queues_kept e cookie) word answers allowed
resolved_echoed e cookie core word restart answers is allowed = restarted_echoed e cookie word core answers allowed
resolved_echoed e cookie core word simultaneous_init answers is allowed = established_echoed e cookie (queues_collided e core cookie) word answers allowed
resolved_echoed e cookie core word discard answers is allowed = nothing_of _
resolved_echoed e cookie core word maintain_existing answers is allowed = maintained_echoed e cookie core answers is allowed
resolved_echoed e cookie core word invalid_tag answers is allowed = nothing_of _
resolved_echoed e cookie core word stale answers is allowed = by_stale_outcome IsEchoed e cookie (omega arith) (nothing_of _)

pub echo_counts : (e : Endpoint) (core : Core) (header : ℕ) (found : Result Cookie (List ℕ)) (word : ℕ) (answers : List Answer) → e.core ≡ core → EchoedAnswers e core header found word answers
    → IsEchoed (cookie_echo_with_flush (flush_answered answers) e core header found word)
echo_counts e core header (Err text) word answers is allowed = nothing_of _
echo_counts e core header (Ok cookie) word answers is allowed = resolved_echoed e cookie core word (resolved_now e core header cookie) answers is allowed

-- ---- ends, and T1

pub abort_few : (e : Endpoint) (causes : List Cause) (core : Core) → Few 0 (abort_outcome e causes core)
abort_few e causes core = by_abort_outcome (Few 0) e causes core (none 0) (none 0)

-- The event that ends an association is no packet.
end_few : (reason : AbortReason) → count (end_of reason ∷ []) ≤ 0
end_few reasons.CloseCalled = none 0
end_few (reasons.Violation violation) = none 0
end_few reasons.TooManyErrors = none 0

pub aborting_few : (e : Endpoint) (core : Core) (reason : AbortReason) → Few 1 (aborting_outcome e core reason)
aborting_few e closed reason = none 1
aborting_few e (cookie_wait my) reason = append_few 1 0 [] (end_of reason ∷ []) (none 1) (end_few reason)
aborting_few e (cookie_echoed my held cookie) reason = append_few 1 0 (emits e [] (abort_to held reason)).events (end_of reason ∷ []) (emits_few e [] (abort_to held reason)) (end_few reason)
aborting_few e (open_in phase my held) reason = append_few 1 0 (emits e [] (abort_to held reason)).events (end_of reason ∷ []) (emits_few e [] (abort_to held reason)) (end_few reason)

pub again_counts : (e : Endpoint) (core : Core) (answers : List Answer) → e.core ≡ core → AgainAnswers e core answers
    → count (send_again_with_flush (flush_answered answers) e core).events ≤ packets_of_t1 core (allowed_after (send_again_with_flush (flush_answered answers) e core))
again_counts e closed answers is allowed = none 0
again_counts e (cookie_wait my) answers is allowed = emits_few e [] (init_emission e my)
again_counts e (cookie_echoed my held cookie) answers is allowed = echo_is_burst e [] held.peer.tag cookie answers (subst HasPeer (sym is) tt) allowed
again_counts e (open_in phase my held) answers is allowed = none 0

pub gives_up_few : (e : Endpoint) (core : Core) → Few 0 (t1_gives_up_outcome e core)
gives_up_few e closed = none 0
gives_up_few e (cookie_wait my) = none 0
gives_up_few e (cookie_echoed my held cookie) = none 0
gives_up_few e (open_in phase my held) = none 0
