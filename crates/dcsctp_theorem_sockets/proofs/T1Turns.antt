-- Each turn leaves T1 running where the association connects, whatever numbers a chunk carries.
use Rattle.std.proofs.Common.{ℕ, Bool, true, false, cond, Option, None, Some, Result, Ok, Err, List, [], ◌∷◌, sym, subst}
use Rattle.dcsctp_spec_lemmas.proofs.RefusalLemmas.{by_stale_outcome}
use Rattle.dcsctp_spec_lemmas.specs.types.declared.association.Pair.{Pair}
use Rattle.dcsctp_spec_lemmas.specs.types.declared.word.Word.{Word}
use Rattle.dcsctp_spec_lemmas.specs.types.declared.word.Word.TheVariants.{U32, U64}
use Rattle.dcsctp_spec_lemmas.specs.types.declared.ends.AbortReason.{AbortReason}
use Rattle.dcsctp_spec_lemmas.specs.spec.endpoint.Cause.{Cause}
use Rattle.dcsctp_spec_lemmas.specs.spec.Cookie.{Cookie}
use Rattle.dcsctp_spec_lemmas.specs.spec.endpoint.Event.{Event, connected, connection_restarted}
use Rattle.dcsctp_spec_lemmas.specs.spec.queues.Transfer.{EndpointQueues}
use Rattle.dcsctp_spec_lemmas.specs.spec.Packet.{Introduction, cookie_echo, shutdown_ack, Emission}
use Rattle.dcsctp_spec_runs.specs.Deadlines.{T1Runs}
use Rattle.dcsctp_spec_lemmas.specs.spec.endpoint.Endpoint.{Endpoint, Core, closed, cookie_wait, cookie_echoed, open_in, established, shutdown_pending, shutdown_sent, shutdown_received, shutdown_ack_sent, with_secret, secret_with}
use Rattle.dcsctp_spec_lemmas.specs.spec.endpoint.Outcome.{Outcome, quiet, sends, emits, fits, to_peer}
use Rattle.dcsctp_spec_lemmas.specs.spec.endpoint.FlushOutcomes.{Answer, draft_to, flush_of, packets_allowed, first_ask, FlushAnswers, flush_answered}
use Rattle.dcsctp_spec_lemmas.specs.spec.endpoint.EndOutcomes.{abort_outcome, aborting_outcome}
use Rattle.dcsctp_spec_lemmas.specs.spec.endpoint.HandshakeOutcomes.{pair_from, renewed_pair, init_ack_emission, init_outcome, init_emission, awaits_init_ack, connect_outcome, awaits_cookie_ack, echo_emission, EchoAnswers, InitAckAnswers, accept_init_ack_with_flush, init_ack_with_flush, connected_after, CookieAckAnswers, cookie_ack_with_flush}
use Rattle.dcsctp_spec_lemmas.specs.spec.endpoint.TimerOutcomes.{AgainAnswers, send_again_with_flush, t1_gives_up_outcome}
use Rattle.dcsctp_spec_lemmas.specs.spec.endpoint.CookieEchoOutcomes.{resolved_now, endpoint_established, cookie_ack_emission, EstablishAnswers, establish_with_flush, queues_kept, queues_begun, queues_collided, RestartAnswers, restart_with_flush_by_core, MaintainAnswers, maintain_with_flush, ResolvedAnswers, resolve_with_flush, EchoedAnswers, cookie_echo_with_flush}
use Rattle.dcsctp_spec_lemmas.specs.spec.association.CookieEchoChanges.{held_by_cookie, Resolution, establish_new, restart, simultaneous_init, discard, maintain_existing, invalid_tag, stale}
use Rattle.dcsctp_spec_lemmas.proofs.AbortLemmas.{by_abort_outcome}
use Rattle.dcsctp_spec_lemmas.proofs.FlushKeeps.{Keeps, begun_by, flush_keeps}
use Rattle.dcsctp_spec_lemmas.specs.spec.endpoint.BegunResets.{BegunReset}
use Rattle.dcsctp_theorem_sockets.proofs.BegunSends.{begun_runs}

-- T1 runs while the association connects.
abbrev pub Up : Endpoint → Type 0
Up e = T1Runs e.core e.timers.t1

-- it runs after this
abbrev pub UpAfter : Outcome → Type 0
UpAfter o = Up o.after

-- ---- packets

packet_up : (b : Bool) (e : Endpoint) (words : List Word) (events : List (Event Emission)) (emission : Emission) → Up e → Up (cond b (sends e words events emission) (quiet e words events)).after
packet_up true e words events emission h = h
packet_up false e words events emission h = h

emits_up : (e : Endpoint) (words : List Word) (emission : Emission) → Up e → Up (emits e words emission).after
emits_up e words emission h = packet_up (fits e emission) e words [] emission h

-- ---- a flush

-- where T1 stays, and the association but for a request
pub kept_up : (begun : Option BegunReset) (e : Endpoint) (o : Outcome) → Keeps begun e o → Up e → UpAfter o
kept_up begun e o keeps h = subst (T1Runs o.after.core) (sym keeps.t1) (subst (λ (core : Core). T1Runs core e.timers.t1) (sym keeps.core) (begun_runs begun e h))

pub flush_up : (e : Endpoint) (draft : Emission) (answers : List Answer) → FlushAnswers e draft answers → Up e → UpAfter (flush_of e draft answers)
flush_up e draft answers allowed h = kept_up (begun_by answers) e (flush_of e draft answers) (flush_keeps first_ask (packets_allowed e.options.max_burst e.core) e draft answers allowed) h

echoed_up : (b : Bool) (e : Endpoint) (words : List Word) (tag : ℕ) (cookie : List ℕ) (answers : List Answer) → EchoAnswers b e tag cookie answers → Up e
    → UpAfter (cond b (flush_answered answers e words [] true tag (cookie_echo cookie ∷ [])) (quiet e words []))
echoed_up true e words tag cookie answers allowed h = flush_up e (echo_emission tag cookie) answers allowed h
echoed_up false e words tag cookie answers allowed h = h

-- ---- the handshake

pub init_up : (e : Endpoint) (theirs : Introduction) (core : Core) (word next : ℕ) → Up e → Up (init_outcome e theirs core word next).after
init_up e theirs closed word next h = emits_up (with_secret e (pair_from word next)) (U32 word ∷ U32 next ∷ []) (init_ack_emission (with_secret e (pair_from word next)) theirs (pair_from word next) (secret_with e (pair_from word next))) h
init_up e theirs (cookie_wait my) word next h = emits_up e [] (init_ack_emission e theirs my e.secret) h
init_up e theirs (cookie_echoed my held cookie) word next h = emits_up e [] (init_ack_emission e theirs my e.secret) h
init_up e theirs (open_in established my held) word next h = emits_up e (U32 word ∷ []) (init_ack_emission e theirs (renewed_pair e word) e.tie) h
init_up e theirs (open_in shutdown_pending my held) word next h = emits_up e (U32 word ∷ []) (init_ack_emission e theirs (renewed_pair e word) e.tie) h
init_up e theirs (open_in shutdown_sent my held) word next h = emits_up e (U32 word ∷ []) (init_ack_emission e theirs (renewed_pair e word) e.tie) h
init_up e theirs (open_in shutdown_received my held) word next h = emits_up e (U32 word ∷ []) (init_ack_emission e theirs (renewed_pair e word) e.tie) h
init_up e theirs (open_in shutdown_ack_sent my held) word next h = emits_up e [] (to_peer held shutdown_ack) h

pub connect_up : (e : Endpoint) (core : Core) (word next : ℕ) → Up e → Up (connect_outcome e core word next).after
connect_up e closed word next h = emits_up (awaits_init_ack e (pair_from word next)) (U32 word ∷ U32 next ∷ []) (init_emission e (pair_from word next)) tt
connect_up e (cookie_wait my) word next h = h
connect_up e (cookie_echoed my held cookie) word next h = h
connect_up e (open_in phase my held) word next h = h

accepted_up : (e : Endpoint) (my : Pair) (theirs : Introduction) (cookie : Option (List ℕ)) (word : ℕ) (answers : List Answer) → InitAckAnswers e theirs cookie (cookie_wait my) word answers
    → UpAfter (accept_init_ack_with_flush (flush_answered answers) e my theirs cookie word)
accepted_up e my theirs None word answers allowed = tt
accepted_up e my theirs (Some cookie) word answers allowed =
    let awaiting : Endpoint = awaits_cookie_ack e my theirs cookie word in
    echoed_up (fits awaiting (echo_emission theirs.pair.tag cookie)) awaiting (U64 word ∷ []) theirs.pair.tag cookie answers allowed tt

pub init_ack_up : (e : Endpoint) (theirs : Introduction) (cookie : Option (List ℕ)) (core : Core) (word : ℕ) (answers : List Answer) → InitAckAnswers e theirs cookie core word answers → Up e
    → UpAfter (init_ack_with_flush (flush_answered answers) e theirs cookie core word)
init_ack_up e theirs cookie closed word answers allowed h = h
init_ack_up e theirs cookie (cookie_wait my) word answers allowed h = accepted_up e my theirs cookie word answers allowed
init_ack_up e theirs cookie (cookie_echoed my held echoed) word answers allowed h = h
init_ack_up e theirs cookie (open_in phase my held) word answers allowed h = h

pub cookie_ack_up : (e : Endpoint) (core : Core) (answers : List Answer) → CookieAckAnswers e core answers → Up e → UpAfter (cookie_ack_with_flush (flush_answered answers) e core)
cookie_ack_up e closed answers allowed h = h
cookie_ack_up e (cookie_wait my) answers allowed h = h
cookie_ack_up e (cookie_echoed my held cookie) answers allowed h = flush_up (connected_after e my held) (draft_to held) answers allowed tt
cookie_ack_up e (open_in phase my held) answers allowed h = h

-- ---- COOKIE ECHO

established_up : (e : Endpoint) (cookie : Cookie) (queues : EndpointQueues) (tie : ℕ) (events : List (Event Emission)) (answers : List Answer) → EstablishAnswers e cookie queues tie answers
    → UpAfter (establish_with_flush (flush_answered answers) e cookie queues tie events)
established_up e cookie queues tie events answers allowed = flush_up (endpoint_established e cookie queues tie) (cookie_ack_emission (held_by_cookie e.options cookie) cookie) answers allowed tt

restarted_up : (e : Endpoint) (cookie : Cookie) (tie : ℕ) (core : Core) (answers : List Answer) → RestartAnswers e cookie tie core answers → Up e
    → UpAfter (restart_with_flush_by_core (flush_answered answers) e cookie tie core)
restarted_up e cookie tie closed answers allowed h = established_up e cookie (queues_begun e cookie) tie (connection_restarted ∷ connected ∷ []) answers allowed
restarted_up e cookie tie (cookie_wait my) answers allowed h = established_up e cookie (queues_begun e cookie) tie (connection_restarted ∷ connected ∷ []) answers allowed
restarted_up e cookie tie (cookie_echoed my held echoed) answers allowed h = established_up e cookie (queues_begun e cookie) tie (connection_restarted ∷ connected ∷ []) answers allowed
restarted_up e cookie tie (open_in established my held) answers allowed h = established_up e cookie (queues_begun e cookie) tie (connection_restarted ∷ connected ∷ []) answers allowed
restarted_up e cookie tie (open_in shutdown_pending my held) answers allowed h = established_up e cookie (queues_begun e cookie) tie (connection_restarted ∷ connected ∷ []) answers allowed
restarted_up e cookie tie (open_in shutdown_sent my held) answers allowed h = established_up e cookie (queues_begun e cookie) tie (connection_restarted ∷ connected ∷ []) answers allowed
restarted_up e cookie tie (open_in shutdown_received my held) answers allowed h = established_up e cookie (queues_begun e cookie) tie (connection_restarted ∷ connected ∷ []) answers allowed
restarted_up e cookie tie (open_in shutdown_ack_sent my held) answers allowed h = h

maintained_up : (e : Endpoint) (cookie : Cookie) (core : Core) (answers : List Answer) → MaintainAnswers e cookie core answers → Up e → UpAfter (maintain_with_flush (flush_answered answers) e cookie core)
maintained_up e cookie closed answers allowed h = h
maintained_up e cookie (cookie_wait my) answers allowed h = h
maintained_up e cookie (cookie_echoed my held echoed) answers allowed h = flush_up (connected_after e my held) (cookie_ack_emission held cookie) answers allowed tt
maintained_up e cookie (open_in phase my held) answers allowed h = flush_up e (cookie_ack_emission held cookie) answers allowed h

resolved_up : (e : Endpoint) (cookie : Cookie) (core : Core) (word : ℕ) (resolution : Resolution) (answers : List Answer) → ResolvedAnswers e cookie core word resolution answers → Up e
    → UpAfter (resolve_with_flush (flush_answered answers) e cookie core word resolution)
resolved_up e cookie core word establish_new answers allowed h = established_up e cookie (queues_kept e cookie) word (connected ∷ []) answers allowed
resolved_up e cookie core word restart answers allowed h = restarted_up e cookie word core answers allowed h
resolved_up e cookie core word simultaneous_init answers allowed h = established_up e cookie (queues_collided e core cookie) word (connected ∷ []) answers allowed
resolved_up e cookie core word discard answers allowed h = h
resolved_up e cookie core word maintain_existing answers allowed h = maintained_up e cookie core answers allowed h
resolved_up e cookie core word invalid_tag answers allowed h = h
resolved_up e cookie core word stale answers allowed h = by_stale_outcome UpAfter e cookie h h

pub echo_up : (e : Endpoint) (core : Core) (header : ℕ) (found : Result Cookie (List ℕ)) (word : ℕ) (answers : List Answer) → EchoedAnswers e core header found word answers → Up e
    → UpAfter (cookie_echo_with_flush (flush_answered answers) e core header found word)
echo_up e core header (Err text) word answers allowed h = h
echo_up e core header (Ok cookie) word answers allowed h = resolved_up e cookie core word (resolved_now e core header cookie) answers allowed h

-- ---- ends, and T1

pub abort_up : (e : Endpoint) (causes : List Cause) (core : Core) → Up e → Up (abort_outcome e causes core).after
abort_up e causes core h = by_abort_outcome (λ o. Up o.after) e causes core tt h

pub aborting_up : (e : Endpoint) (core : Core) (reason : AbortReason) → Up e → Up (aborting_outcome e core reason).after
aborting_up e closed reason h = h
aborting_up e (cookie_wait my) reason h = tt
aborting_up e (cookie_echoed my held cookie) reason h = tt
aborting_up e (open_in phase my held) reason h = tt

pub again_up : (e : Endpoint) (core : Core) (answers : List Answer) → AgainAnswers e core answers → Up e → UpAfter (send_again_with_flush (flush_answered answers) e core)
again_up e closed answers allowed h = h
again_up e (cookie_wait my) answers allowed h = emits_up e [] (init_emission e my) h
again_up e (cookie_echoed my held cookie) answers allowed h = echoed_up (fits e (echo_emission held.peer.tag cookie)) e [] held.peer.tag cookie answers allowed h
again_up e (open_in phase my held) answers allowed h = h

pub gives_up_up : (e : Endpoint) (core : Core) → Up e → Up (t1_gives_up_outcome e core).after
gives_up_up e closed h = h
gives_up_up e (cookie_wait my) h = tt
gives_up_up e (cookie_echoed my held cookie) h = tt
gives_up_up e (open_in phase my held) h = h
