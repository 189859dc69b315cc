-- What the chunks of the association make of the messages that the last one left: they stay, or one begins, or it ends.
use Rattle.std.proofs.Common.{◌≡◌, inl, inr, ℕ, Bool, true, false, Option, None, Some, Result, Ok, Err, List, [], ◌∷◌, refl, sym, subst, ap}
use Rattle.std.specs.Prelude.{if◌then◌else◌}
use Rattle.dcsctp_spec_lemmas.specs.types.declared.association.Pair.{Pair}
use Rattle.dcsctp_spec_lemmas.specs.types.declared.association.Held.{Held}
use Rattle.dcsctp_spec_lemmas.specs.types.declared.word.Word.{Word}
use Rattle.dcsctp_spec_lemmas.specs.types.declared.word.Word.TheVariants.{U32, U64}
use Rattle.dcsctp_spec_lemmas.specs.types.declared.kinds.ErrorKind.TheVariants.{ProtocolViolation}
use Rattle.dcsctp_spec_lemmas.specs.spec.Cookie.{Cookie, cookie_of_bytes}
use Rattle.dcsctp_spec_lemmas.specs.spec.Packet.{Introduction, cookie_echo, shutdown_ack, re_config, Emission}
use Rattle.dcsctp_spec_lemmas.specs.spec.Reconfiguration.{NumberedReset, RequestedReset, ResetParameter}
use Rattle.dcsctp_spec_lemmas.specs.spec.association.CookieEchoChanges.{Resolution, establish_new, restart, simultaneous_init, discard, maintain_existing, invalid_tag, stale, held_by_cookie}
use Rattle.dcsctp_spec_lemmas.specs.spec.association.ResetChanges.{HandledParameters}
use Rattle.dcsctp_spec_lemmas.specs.spec.queues.Transfer.{Transfer, EndpointQueues}
use Rattle.dcsctp_spec_lemmas.specs.spec.endpoint.Cause.{Cause}
use Rattle.dcsctp_spec_lemmas.specs.spec.endpoint.Endpoint.{Endpoint, Core, closed, cookie_wait, cookie_echoed, open_in, OpenPhase, established, shutdown_pending, shutdown_sent, shutdown_received, shutdown_ack_sent, with_secret, secret_with}
use Rattle.dcsctp_spec_lemmas.specs.spec.endpoint.Event.{Event, aborted, connected, connection_restarted}
use Rattle.dcsctp_spec_lemmas.specs.spec.endpoint.Outcome.{Outcome, quiet, sends, fits, to_peer}
use Rattle.dcsctp_spec_lemmas.specs.spec.endpoint.FlushOutcomes.{Answer, draft_to, flush_of, flush_answered}
use Rattle.dcsctp_spec_lemmas.specs.spec.endpoint.EndOutcomes.{ended_outcome, abort_outcome}
use Rattle.dcsctp_spec_lemmas.specs.spec.endpoint.HandshakeOutcomes.{pair_from, renewed_pair, init_ack_emission, init_outcome, InitTurn, no_cookie_text, abort_emission, awaits_cookie_ack, echo_emission, EchoAnswers, init_ack_with_flush, InitAckAnswers, InitAckTurn, connected_after, cookie_ack_with_flush, CookieAckAnswers, CookieAckTurn}
use Rattle.dcsctp_spec_lemmas.specs.spec.endpoint.CookieEchoOutcomes.{endpoint_established, cookie_ack_emission, establish_with_flush, queues_begun, queues_kept, queues_collided, restart_with_flush_by_phase, restart_with_flush_by_core, maintain_with_flush, outlasts, queues_if_kept, queues_for_other, resolve_with_flush, resolved_now, cookie_echo_with_flush, EstablishAnswers, RestartAnswersByPhase, RestartAnswers, MaintainAnswers, ResolvedAnswers, EchoedAnswers, CookieEchoTurn}
use Rattle.dcsctp_spec_lemmas.specs.spec.endpoint.ResetOutcomes.{first_reset_request, renewable_left, has_reset, answers_in_progress, ResetsInQueues, OwnAnswer, unanswered, retried, was_performed, has_failed, handled_parameters_of, answer_to_own, reset_events_of, resets_handled, responses_outcome, responses_unless_refused, ResponseAnswers, HandlesResets, ResetTurn}
use Rattle.dcsctp_spec_lemmas.specs.spec.endpoint.ShutdownOutcomes.{shutdown_ack_outcome, shutdown_complete_outcome}
use Rattle.dcsctp_spec_lemmas.proofs.AbortLemmas.{by_abort_outcome}
use Rattle.dcsctp_spec_lemmas.proofs.RefusalLemmas.{by_stale_outcome}
use Rattle.dcsctp_spec_laws.proofs.LeftLemmas.{is_there, Stays, Ends, StaysIn, LeavesIn, unmoved, stays_then, begins_then, emits_stays, flush_stays, answer_stays}
use Rattle.dcsctp_spec_lemmas.proofs.OneAnswerLemmas.{init_by}

-- ---- INIT

init_stays : (e : Endpoint) (theirs : Introduction) (core : Core) (word next : ℕ) → StaysIn e (init_outcome e theirs core word next)
init_stays e theirs closed word next =
    let mine = pair_from word next in
    stays_then e (with_secret e mine) (init_outcome e theirs closed word next).after (record { left = refl; there = refl; last = refl })
    (emits_stays (with_secret e mine) (U32 word ∷ U32 next ∷ []) (init_ack_emission (with_secret e mine) theirs mine (secret_with e mine)))
init_stays e theirs (cookie_wait mine) word next = emits_stays e [] (init_ack_emission e theirs mine e.secret)
init_stays e theirs (cookie_echoed mine held cookie) word next = emits_stays e [] (init_ack_emission e theirs mine e.secret)
init_stays e theirs (open_in established mine held) word next = emits_stays e (U32 word ∷ []) (init_ack_emission e theirs (renewed_pair e word) e.tie)
init_stays e theirs (open_in shutdown_pending mine held) word next = emits_stays e (U32 word ∷ []) (init_ack_emission e theirs (renewed_pair e word) e.tie)
init_stays e theirs (open_in shutdown_sent mine held) word next = emits_stays e (U32 word ∷ []) (init_ack_emission e theirs (renewed_pair e word) e.tie)
init_stays e theirs (open_in shutdown_received mine held) word next = emits_stays e (U32 word ∷ []) (init_ack_emission e theirs (renewed_pair e word) e.tie)
init_stays e theirs (open_in shutdown_ack_sent mine held) word next = emits_stays e [] (to_peer held shutdown_ack)

pub init_leaves : (e : Endpoint) (theirs : Introduction) (o : Outcome) → InitTurn e theirs o → LeavesIn e o
init_leaves e theirs o turn =
    let at : StaysIn e (init_outcome e theirs e.core turn.0 turn.1) = init_stays e theirs e.core turn.0 turn.1 in
    subst (LeavesIn e) (sym turn.2)
    (inl (init_by (StaysIn e) e theirs turn.0 turn.1 (unmoved e) (record { left = at.left; there = at.there; last = at.last })))

-- ---- INIT ACK

refused_ends : (b : Bool) (e : Endpoint) (tag : ℕ)
    → Ends e (ended_outcome (if b then sends e [] [] (abort_emission tag) else quiet e [] []) (aborted ProtocolViolation no_cookie_text)).after
refused_ends true e tag = record { left = refl; none = refl; last = refl }
refused_ends false e tag = record { left = refl; none = refl; last = refl }

pub echo_stays : (b : Bool) (e : Endpoint) (words : List Word) (tag : ℕ) (cookie : List ℕ) (answers : List Answer) → EchoAnswers b e tag cookie answers
    → StaysIn e (if b then flush_answered answers e words [] true tag (cookie_echo cookie ∷ []) else quiet e words [])
echo_stays true e words tag cookie answers h = flush_stays e (echo_emission tag cookie) answers h
echo_stays false e words tag cookie answers h = unmoved e

init_ack_at : (e : Endpoint) (core : Core) (theirs : Introduction) (cookie : Option (List ℕ)) (word : ℕ) (answers : List Answer) → InitAckAnswers e theirs cookie core word answers
    → LeavesIn e (init_ack_with_flush (flush_answered answers) e theirs cookie core word)
init_ack_at e closed theirs cookie word answers h = inl (unmoved e)
init_ack_at e (cookie_wait mine) theirs None word answers h = inr (inr (refused_ends (fits e (abort_emission theirs.pair.tag)) e theirs.pair.tag))
init_ack_at e (cookie_wait mine) theirs (Some cookie) word answers h =
    let begun : Endpoint = awaits_cookie_ack e mine theirs cookie word in
    inr (inl (begins_then e begun _ (record { left = refl; there = refl; last = refl })
    (echo_stays (fits begun (echo_emission theirs.pair.tag cookie)) begun (U64 word ∷ []) theirs.pair.tag cookie answers h)))
init_ack_at e (cookie_echoed mine held echoed) theirs cookie word answers h = inl (unmoved e)
init_ack_at e (open_in phase mine held) theirs cookie word answers h = inl (unmoved e)

pub init_ack_leaves : (e : Endpoint) (theirs : Introduction) (cookie : Option (List ℕ)) (o : Outcome) → InitAckTurn e theirs cookie o → LeavesIn e o
init_ack_leaves e theirs cookie o turn = subst (LeavesIn e) (sym turn.3) (init_ack_at e e.core theirs cookie turn.0 turn.1 turn.2)

-- ---- COOKIE ECHO

established_begins : (e : Endpoint) (cookie : Cookie) (queues : EndpointQueues) (tie : ℕ) (events : List (Event Emission)) (answers : List Answer) → is_there queues.transfer ≡ true → EstablishAnswers e cookie queues tie answers
    → LeavesIn e (establish_with_flush (flush_answered answers) e cookie queues tie events)
established_begins e cookie queues tie events answers there h =
    let begun : Endpoint = endpoint_established e cookie queues tie in
    inr (inl (begins_then e begun _ (record { left = refl; there = there; last = refl }) (flush_stays begun (cookie_ack_emission (held_by_cookie e.options cookie) cookie) answers h)))

restart_in : (e : Endpoint) (cookie : Cookie) (tie : ℕ) (phase : OpenPhase) (held : Held) (answers : List Answer) → RestartAnswersByPhase e cookie tie phase answers
    → LeavesIn e (restart_with_flush_by_phase (flush_answered answers) e cookie tie phase held)
restart_in e cookie tie established held answers h = established_begins e cookie (queues_begun e cookie) tie (connection_restarted ∷ connected ∷ []) answers refl h
restart_in e cookie tie shutdown_pending held answers h = established_begins e cookie (queues_begun e cookie) tie (connection_restarted ∷ connected ∷ []) answers refl h
restart_in e cookie tie shutdown_sent held answers h = established_begins e cookie (queues_begun e cookie) tie (connection_restarted ∷ connected ∷ []) answers refl h
restart_in e cookie tie shutdown_received held answers h = established_begins e cookie (queues_begun e cookie) tie (connection_restarted ∷ connected ∷ []) answers refl h
restart_in e cookie tie shutdown_ack_sent held answers h = inl (record { left = refl; there = refl; last = refl })

restart_at : (e : Endpoint) (cookie : Cookie) (tie : ℕ) (core : Core) (answers : List Answer) → RestartAnswers e cookie tie core answers
    → LeavesIn e (restart_with_flush_by_core (flush_answered answers) e cookie tie core)
restart_at e cookie tie closed answers h = established_begins e cookie (queues_begun e cookie) tie (connection_restarted ∷ connected ∷ []) answers refl h
restart_at e cookie tie (cookie_wait mine) answers h = established_begins e cookie (queues_begun e cookie) tie (connection_restarted ∷ connected ∷ []) answers refl h
restart_at e cookie tie (cookie_echoed mine held echoed) answers h = established_begins e cookie (queues_begun e cookie) tie (connection_restarted ∷ connected ∷ []) answers refl h
restart_at e cookie tie (open_in phase mine held) answers h = restart_in e cookie tie phase held answers h

connected_stays : (e : Endpoint) (mine : Pair) (held : Held) → Stays e (connected_after e mine held)
connected_stays e mine held = record { left = refl; there = refl; last = refl }

maintain_stays : (e : Endpoint) (cookie : Cookie) (core : Core) (answers : List Answer) → MaintainAnswers e cookie core answers → StaysIn e (maintain_with_flush (flush_answered answers) e cookie core)
maintain_stays e cookie closed answers h = unmoved e
maintain_stays e cookie (cookie_wait mine) answers h = unmoved e
maintain_stays e cookie (cookie_echoed mine held echoed) answers h =
    stays_then e (connected_after e mine held) _ (connected_stays e mine held) (flush_stays (connected_after e mine held) (cookie_ack_emission held cookie) answers h)
maintain_stays e cookie (open_in phase mine held) answers h = flush_stays e (cookie_ack_emission held cookie) answers h

by_there : (b : Bool) (e : Endpoint) (cookie : Cookie) (transfer : Transfer) → is_there (queues_if_kept b e cookie transfer).transfer ≡ true
by_there true e cookie transfer = refl
by_there false e cookie transfer = refl

other_there : (e : Endpoint) (mine : Pair) (held : Held) (cookie : Cookie) (transfer : Option Transfer) → is_there (queues_for_other e mine held cookie transfer).transfer ≡ true
other_there e mine held cookie None = refl
other_there e mine held cookie (Some transfer) = by_there (outlasts e mine held cookie transfer) e cookie transfer

collided_there : (e : Endpoint) (core : Core) (cookie : Cookie) → is_there (queues_collided e core cookie).transfer ≡ true
collided_there e closed cookie = refl
collided_there e (cookie_wait mine) cookie = refl
collided_there e (cookie_echoed mine held echoed) cookie = other_there e mine held cookie e.queues.transfer
collided_there e (open_in phase mine held) cookie = refl

resolved_leaves : (e : Endpoint) (cookie : Cookie) (core : Core) (word : ℕ) (resolution : Resolution) (answers : List Answer) → ResolvedAnswers e cookie core word resolution answers
    → LeavesIn e (resolve_with_flush (flush_answered answers) e cookie core word resolution)
resolved_leaves e cookie core word establish_new answers h = established_begins e cookie (queues_kept e cookie) word (connected ∷ []) answers refl h
resolved_leaves e cookie core word restart answers h = restart_at e cookie word core answers h
resolved_leaves e cookie core word simultaneous_init answers h = established_begins e cookie (queues_collided e core cookie) word (connected ∷ []) answers (collided_there e core cookie) h
resolved_leaves e cookie core word discard answers h = inl (unmoved e)
resolved_leaves e cookie core word maintain_existing answers h = inl (maintain_stays e cookie core answers h)
resolved_leaves e cookie core word invalid_tag answers h = inl (unmoved e)
resolved_leaves e cookie core word stale answers h = by_stale_outcome (LeavesIn e) e cookie (inl (record { left = refl; there = refl; last = refl })) (inl (unmoved e))

echoed_leaves : (e : Endpoint) (core : Core) (header : ℕ) (read : Result Cookie (List ℕ)) (word : ℕ) (answers : List Answer) → EchoedAnswers e core header read word answers
    → LeavesIn e (cookie_echo_with_flush (flush_answered answers) e core header read word)
echoed_leaves e core header (Err text) word answers h = inl (unmoved e)
echoed_leaves e core header (Ok cookie) word answers h = resolved_leaves e cookie core word (resolved_now e core header cookie) answers h

pub cookie_echo_leaves : (e : Endpoint) (tag : ℕ) (bytes : List ℕ) (o : Outcome) → CookieEchoTurn e tag bytes o → LeavesIn e o
cookie_echo_leaves e tag bytes o turn = subst (LeavesIn e) (sym turn.3) (echoed_leaves e e.core tag (cookie_of_bytes bytes) turn.0 turn.1 turn.2)

-- ---- COOKIE ACK

cookie_ack_stays : (e : Endpoint) (core : Core) (answers : List Answer) → CookieAckAnswers e core answers → StaysIn e (cookie_ack_with_flush (flush_answered answers) e core)
cookie_ack_stays e closed answers h = unmoved e
cookie_ack_stays e (cookie_wait mine) answers h = unmoved e
cookie_ack_stays e (cookie_echoed mine held cookie) answers h =
    stays_then e (connected_after e mine held) _ (connected_stays e mine held) (flush_stays (connected_after e mine held) (draft_to held) answers h)
cookie_ack_stays e (open_in phase mine held) answers h = unmoved e

pub cookie_ack_leaves : (e : Endpoint) (o : Outcome) → CookieAckTurn e o → LeavesIn e o
cookie_ack_leaves e o turn = subst (LeavesIn e) (sym turn.2) (inl (cookie_ack_stays e e.core turn.0 turn.1))

-- ---- RE-CONFIG

below_there : (performed in_progress : Bool) (reset : Option RequestedReset) (old new : Option Transfer) → ResetsInQueues performed in_progress reset old new → is_there new ≡ is_there old
below_there true in_progress (Some reset) (Some old) new h = ap is_there h.1
below_there true in_progress (Some reset) None new h = ap is_there h
below_there true in_progress None old new h = ap is_there h
below_there false true (Some reset) (Some old) new h = ap is_there h
below_there false true (Some reset) None new h = ap is_there h
below_there false true None old new h = ap is_there h
below_there false false reset old new h = ap is_there h

worked_stays : (e : Endpoint) (answer : OwnAnswer) (held : Held) (left : Option Transfer) (renewable : Option NumberedReset) → is_there left ≡ is_there e.queues.transfer
    → Stays e (resets_handled e answer held left renewable)
worked_stays e unanswered held left renewable same = record { left = refl; there = same; last = refl }
worked_stays e retried held left renewable same = record { left = refl; there = same; last = refl }
worked_stays e was_performed held left renewable same = record { left = refl; there = same; last = refl }
worked_stays e has_failed held left renewable same = record { left = refl; there = same; last = refl }

response_stays : (e : Endpoint) (held : Held) (responses : List ResetParameter) → StaysIn e (responses_outcome e held responses)
response_stays e held [] = unmoved e
response_stays e held (response ∷ responses) = answer_stays e (to_peer held (re_config (response ∷ responses)))

responses_stay : (refused : Bool) (e : Endpoint) (told : List (Event Emission)) (held : Held) (parameters responses : List ResetParameter) (answers : List Answer)
    → ResponseAnswers refused e held responses answers → StaysIn e (responses_unless_refused refused e told held parameters responses answers)
responses_stay true e told held parameters responses answers h = unmoved e
responses_stay false e told held parameters responses answers h =
    let sent : Outcome = responses_outcome e held responses in
    stays_then e sent.after (flush_of sent.after (draft_to held) answers).after (response_stays e held responses) (flush_stays sent.after (draft_to held) answers h)

works_resets_stay : (e : Endpoint) (my : Pair) (held : Held) (parameters : List ResetParameter) (o : Outcome) → HandlesResets e my held parameters o → StaysIn e o
works_resets_stay e my held parameters o turn =
    let w : HandledParameters = handled_parameters_of e my held parameters in
    let base : Endpoint = resets_handled e (answer_to_own held w parameters) w.held turn.left (renewable_left e held w parameters) in
    subst (StaysIn e) (sym turn.is)
    (stays_then e base _
    (worked_stays e (answer_to_own held w parameters) w.held turn.left (renewable_left e held w parameters) (below_there (has_reset w.effects) (answers_in_progress w.answers) (first_reset_request parameters) e.queues.transfer turn.left turn.below))
    (responses_stay w.is_refused base (reset_events_of e parameters w.effects) w.held parameters w.answers turn.answers turn.allowed))

resets_stay : (e : Endpoint) (core : Core) (parameters : List ResetParameter) (o : Outcome) → ResetTurn e core parameters o → StaysIn e o
resets_stay e closed parameters o turn = subst (StaysIn e) (sym turn) (unmoved e)
resets_stay e (cookie_wait my) parameters o turn = subst (StaysIn e) (sym turn) (unmoved e)
resets_stay e (cookie_echoed my held cookie) parameters o turn = works_resets_stay e my held parameters o turn
resets_stay e (open_in phase my held) parameters o turn = works_resets_stay e my held parameters o turn

pub reset_leaves : (e : Endpoint) (parameters : List ResetParameter) (o : Outcome) → ResetTurn e e.core parameters o → LeavesIn e o
reset_leaves e parameters o turn = inl (resets_stay e e.core parameters o turn)

-- ---- what ends an association

pub abort_leaves : (e : Endpoint) (causes : List Cause) (core : Core) → LeavesIn e (abort_outcome e causes core)
abort_leaves e causes core = by_abort_outcome (LeavesIn e) e causes core (inr (inr (record { left = refl; none = refl; last = refl }))) (inl (unmoved e))

pub shutdown_ack_leaves : (e : Endpoint) (core : Core) (tag : ℕ) → LeavesIn e (shutdown_ack_outcome e core tag)
shutdown_ack_leaves e closed tag = inl (record { left = refl; there = refl; last = refl })
shutdown_ack_leaves e (cookie_wait my) tag = inl (record { left = refl; there = refl; last = refl })
shutdown_ack_leaves e (cookie_echoed my held cookie) tag = inl (record { left = refl; there = refl; last = refl })
shutdown_ack_leaves e (open_in established my held) tag = inl (record { left = refl; there = refl; last = refl })
shutdown_ack_leaves e (open_in shutdown_pending my held) tag = inl (record { left = refl; there = refl; last = refl })
shutdown_ack_leaves e (open_in shutdown_sent my held) tag = inr (inr (record { left = refl; none = refl; last = refl }))
shutdown_ack_leaves e (open_in shutdown_received my held) tag = inl (record { left = refl; there = refl; last = refl })
shutdown_ack_leaves e (open_in shutdown_ack_sent my held) tag = inr (inr (record { left = refl; none = refl; last = refl }))

pub shutdown_complete_leaves : (e : Endpoint) (core : Core) → LeavesIn e (shutdown_complete_outcome e core)
shutdown_complete_leaves e closed = inl (unmoved e)
shutdown_complete_leaves e (cookie_wait my) = inl (unmoved e)
shutdown_complete_leaves e (cookie_echoed my held cookie) = inl (unmoved e)
shutdown_complete_leaves e (open_in established my held) = inl (unmoved e)
shutdown_complete_leaves e (open_in shutdown_pending my held) = inl (unmoved e)
shutdown_complete_leaves e (open_in shutdown_sent my held) = inl (unmoved e)
shutdown_complete_leaves e (open_in shutdown_received my held) = inl (unmoved e)
shutdown_complete_leaves e (open_in shutdown_ack_sent my held) = inr (inr (record { left = refl; none = refl; last = refl }))
