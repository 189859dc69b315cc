-- Under which tags packets are handled, and to which they go.
use Rattle.std.proofs.Common.{◌≡◌, ◌==◌, ℕ, Bool, true, false, List, [], ◌∷◌, ◌++◌, map, refl, sym, ◌∙◌, ap, subst}
use Rattle.std.specs.Prelude.{◌&&◌, not, Option, None, Some, Result, Ok}
use Rattle.std.proofs.lemmas.Bool.{eqb-true}
use Rattle.dcsctp_spec_lemmas.proofs.ControlEcho.{kept_by_age}
use Rattle.dcsctp_spec_lemmas.specs.spec.Admission.{all_chunks, admits, admission_by_answers, admits_shutdown_ack, all_chunks_or_none, all_chunks_or_acks, is_own_tag, is_own_nonzero_tag, first_abort, first_shutdown_complete, has_shutdown_ack, is_echo_in_front, is_single_init, wrong_tag_text, single_init_text, shutdown_ack_text}
use Rattle.dcsctp_spec_lemmas.specs.spec.Cookie.{Cookie, cookie_of_bytes}
use Rattle.dcsctp_spec_lemmas.specs.spec.endpoint.Endpoint.{Endpoint, Core, closed, cookie_wait, cookie_echoed, open_in, own_tag, established, shutdown_pending, shutdown_sent, shutdown_received, shutdown_ack_sent}
use Rattle.dcsctp_spec_lemmas.specs.spec.endpoint.Event.{Event, sent, connected, closed as closed_event, connection_restarted, aborted, error, buffered_amount_low, total_buffered_amount_low, streams_reset_failed, streams_reset_performed, incoming_stream_reset, lifecycle_message_fully_sent, lifecycle_message_maybe_expired, lifecycle_message_expired, lifecycle_message_delivered, lifecycle_end, packets_of_events}
use Rattle.dcsctp_spec_lemmas.specs.spec.endpoint.Following.{next_chunk, dropped_rest}
use Rattle.dcsctp_spec_lemmas.specs.spec.endpoint.Outcome.{Outcome}
use Rattle.dcsctp_spec_lemmas.specs.spec.association.CookieEchoChanges.{Resolution, establish_new, restart, simultaneous_init, discard, maintain_existing, invalid_tag, stale, aged_resolution, case_by_answers, case_without_peer, resolve, held_by_cookie}
use Rattle.dcsctp_spec_lemmas.proofs.RefusalLemmas.{by_stale_outcome}
use Rattle.dcsctp_spec_lemmas.specs.spec.queues.Transfer.{EndpointQueues}
use Rattle.dcsctp_spec_lemmas.specs.spec.endpoint.BegunResets.{BegunReset, core_asking, after_begun}
use Rattle.dcsctp_spec_lemmas.specs.spec.endpoint.CookieEchoOutcomes.{is_spent, endpoint_established, cookie_ack_emission, EstablishAnswers, establish_with_flush, queues_kept, queues_begun, queues_collided, stale_outcome, RestartAnswers, restart_with_flush_by_core, MaintainAnswers, maintain_with_flush, ResolvedAnswers, resolve_with_flush, EchoedAnswers, cookie_echo_with_flush, resolved_now, CookieEchoTurn}
use Rattle.dcsctp_spec_lemmas.specs.spec.association.Effect.{identity_of_core}
use Rattle.dcsctp_spec_lemmas.specs.spec.endpoint.FlushOutcomes.{FillingEvent, amount_is_low, total_amount_is_low, message_is_sent, message_may_have_expired, message_has_expired, message_ends, filling_event, Answer, answer_contents, filled_draft, goes_out, asked_outcome, next_draft, Ask, IsFlushAnswer, first_ask, later_ask, AreFlushAnswers, at_limit, at_empty, after_packet, FlushAnswers, flush_of, flush_answered, packets_allowed}
use Rattle.dcsctp_delivery_sockets.specs.turns.Tags.{IsPeerTag, AllTo}
use Rattle.dcsctp_spec_lemmas.specs.spec.endpoint.HandshakeOutcomes.{connected_after}
use Rattle.dcsctp_spec_lemmas.proofs.FlushKeeps.{begun_by, asked_keeps, flush_keeps}
use Rattle.dcsctp_spec_lemmas.specs.spec.Packet.{Packet, Content, Emission}

-- it isn't refused
let_in : (b : Bool) (text : List ℕ) → all_chunks_or_none b text ≡ all_chunks → b ≡ true
let_in true text e = refl
let_in false text e = absurd (cc)

uncut : (b : Bool) → all_chunks_or_acks b ≡ all_chunks → b ≡ true
uncut true e = refl
uncut false e = absurd (cc)

first_of : (a b : Bool) → (a && b) ≡ true → a ≡ true
first_of true b e = refl
first_of false b e = absurd (cc)

by_tag : (core : Core) (tag : ℕ) → is_own_tag core tag ≡ true → tag ≡ own_tag core
by_tag core tag e = eqb-true tag (own_tag core) e

acks_own : (core : Core) (tag : ℕ) → admits_shutdown_ack core tag ≡ all_chunks → tag ≡ own_tag core
acks_own closed tag e = by_tag closed tag (first_of (is_own_tag closed tag) (not (tag == 0)) (uncut (is_own_nonzero_tag closed tag) e))
acks_own (cookie_wait my) tag e = by_tag (cookie_wait my) tag (first_of (is_own_tag (cookie_wait my) tag) (not (tag == 0)) (uncut (is_own_nonzero_tag (cookie_wait my) tag) e))
acks_own (cookie_echoed my held cookie) tag e =
    by_tag (cookie_echoed my held cookie) tag (first_of (is_own_tag (cookie_echoed my held cookie) tag) (not (tag == 0)) (uncut (is_own_nonzero_tag (cookie_echoed my held cookie) tag) e))
acks_own (open_in phase my held) tag e = by_tag (open_in phase my held) tag (let_in (is_own_tag (open_in phase my held) tag) shutdown_ack_text e)

by_answers : (core : Core) (packet : Packet) (acks zero : Bool) → is_single_init packet.contents ≡ false → admission_by_answers core packet None None acks false zero ≡ all_chunks → packet.tag ≡ own_tag core
by_answers core packet true zero single e = acks_own core packet.tag e
by_answers core packet false true single e =
    let in_it : is_single_init packet.contents ≡ true = let_in (is_single_init packet.contents) single_init_text e in
    let clash : true ≡ false = sym in_it ∙ single in
    absurd (cc)
by_answers core packet false false single e = by_tag core packet.tag (let_in (is_own_tag core packet.tag) (wrong_tag_text packet.tag (own_tag core)) e)

pub tags_own : (core : Core) (packet : Packet) → first_abort packet.contents ≡ None → first_shutdown_complete packet.contents ≡ None → is_echo_in_front packet.contents ≡ false
    → is_single_init packet.contents ≡ false → admits core packet ≡ all_chunks → packet.tag ≡ own_tag core
tags_own core packet no_abort no_complete no_echo single e =
    by_answers core packet (has_shutdown_ack packet.contents) (packet.tag == 0) single
    (sym (ap (λ (a : Option Bool). admission_by_answers core packet a (first_shutdown_complete packet.contents) (has_shutdown_ack packet.contents) (is_echo_in_front packet.contents) (packet.tag == 0)) no_abort
    ∙ ap (λ (c : Option Bool). admission_by_answers core packet None c (has_shutdown_ack packet.contents) (is_echo_in_front packet.contents) (packet.tag == 0)) no_complete
    ∙ ap (λ (b : Bool). admission_by_answers core packet None None (has_shutdown_ack packet.contents) b (packet.tag == 0)) no_echo) ∙ e)

-- ---- after a COOKIE ECHO

asking_tag : (core : Core) → own_tag (core_asking core) ≡ own_tag core
asking_tag closed = refl
asking_tag (cookie_wait my) = refl
asking_tag (cookie_echoed my held cookie) = refl
asking_tag (open_in phase my held) = refl

begun_tag : (begun : Option BegunReset) (e : Endpoint) → own_tag (after_begun begun e).core ≡ own_tag e.core
begun_tag None e = refl
begun_tag (Some begun) e = asking_tag e.core

flushed_tag : (e : Endpoint) (draft : Emission) (answers : List Answer) → FlushAnswers e draft answers → own_tag (flush_of e draft answers).after.core ≡ own_tag e.core
flushed_tag e draft answers allowed =
    ap own_tag (flush_keeps first_ask (packets_allowed e.options.max_burst e.core) e draft answers allowed).core ∙ begun_tag (begun_by answers) e

established_tag : (e : Endpoint) (cookie : Cookie) (queues : EndpointQueues) (tie : ℕ) (events : List (Event Emission)) (answers : List Answer) → EstablishAnswers e cookie queues tie answers
    → own_tag (establish_with_flush (flush_answered answers) e cookie queues tie events).after.core ≡ cookie.maker.tag
established_tag e cookie queues tie events answers allowed = flushed_tag (endpoint_established e cookie queues tie) (cookie_ack_emission (held_by_cookie e.options cookie) cookie) answers allowed

not_next : dropped_rest ≡ next_chunk → ⊥
not_next e = absurd (cc)

restarted_tag : (e : Endpoint) (cookie : Cookie) (tie : ℕ) (core : Core) (answers : List Answer) → RestartAnswers e cookie tie core answers → (restart_with_flush_by_core (flush_answered answers) e cookie tie core).following ≡ next_chunk
    → own_tag (restart_with_flush_by_core (flush_answered answers) e cookie tie core).after.core ≡ cookie.maker.tag
restarted_tag e cookie tie closed answers allowed next = established_tag e cookie (queues_begun e cookie) tie (connection_restarted ∷ connected ∷ []) answers allowed
restarted_tag e cookie tie (cookie_wait my) answers allowed next = established_tag e cookie (queues_begun e cookie) tie (connection_restarted ∷ connected ∷ []) answers allowed
restarted_tag e cookie tie (cookie_echoed my held echoed) answers allowed next = established_tag e cookie (queues_begun e cookie) tie (connection_restarted ∷ connected ∷ []) answers allowed
restarted_tag e cookie tie (open_in established my held) answers allowed next = established_tag e cookie (queues_begun e cookie) tie (connection_restarted ∷ connected ∷ []) answers allowed
restarted_tag e cookie tie (open_in shutdown_pending my held) answers allowed next = established_tag e cookie (queues_begun e cookie) tie (connection_restarted ∷ connected ∷ []) answers allowed
restarted_tag e cookie tie (open_in shutdown_sent my held) answers allowed next = established_tag e cookie (queues_begun e cookie) tie (connection_restarted ∷ connected ∷ []) answers allowed
restarted_tag e cookie tie (open_in shutdown_received my held) answers allowed next = established_tag e cookie (queues_begun e cookie) tie (connection_restarted ∷ connected ∷ []) answers allowed
restarted_tag e cookie tie (open_in shutdown_ack_sent my held) answers allowed next = absurd (not_next next)

-- the existing association is under the header's tag
is_existing : (own peer tie zero : Bool) → case_by_answers own peer tie zero ≡ maintain_existing → own ≡ true
is_existing true peer tie zero e = refl
is_existing false true tie true e = absurd (cc)
is_existing false true tie false e = absurd (cc)
is_existing false false true zero e = absurd (cc)
is_existing false false false zero e = absurd (cc)

not_existing : (b : Bool) → case_without_peer b ≡ maintain_existing → ⊥
not_existing true e = absurd (cc)
not_existing false e = absurd (cc)

maintained_tag : (e : Endpoint) (cookie : Cookie) (header : ℕ) (core : Core) (answers : List Answer) → e.core ≡ core → resolve core e.tie e.secret header cookie ≡ maintain_existing → MaintainAnswers e cookie core answers
    → own_tag (maintain_with_flush (flush_answered answers) e cookie core).after.core ≡ header
maintained_tag e cookie header closed answers is resolved allowed = absurd (not_existing (header == cookie.maker.tag) resolved)
maintained_tag e cookie header (cookie_wait my) answers is resolved allowed = absurd (not_existing (header == cookie.maker.tag) resolved)
maintained_tag e cookie header (cookie_echoed my held echoed) answers is resolved allowed =
    flushed_tag (connected_after e my held) (cookie_ack_emission held cookie) answers allowed
    ∙ sym (eqb-true header my.tag (is_existing (header == my.tag) (cookie.addressee.tag == held.peer.tag) (cookie.tie == e.tie) (cookie.tie == e.secret) resolved))
maintained_tag e cookie header (open_in phase my held) answers is resolved allowed =
    flushed_tag e (cookie_ack_emission held cookie) answers allowed ∙ ap own_tag is
    ∙ sym (eqb-true header my.tag (is_existing (header == my.tag) (cookie.addressee.tag == held.peer.tag) (cookie.tie == e.tie) (cookie.tie == e.secret) resolved))

-- A stale one drops the rest of its packet.
stale_drops : (e : Endpoint) (cookie : Cookie) → (stale_outcome e cookie).following ≡ next_chunk → ⊥
stale_drops e cookie next = by_stale_outcome (λ o. o.following ≡ next_chunk → ⊥) e cookie not_next not_next next

resolved_tag : (e : Endpoint) (cookie : Cookie) (header : ℕ) (core : Core) (word : ℕ) (old : Bool) (resolution : Resolution) (answers : List Answer) → e.core ≡ core → header ≡ cookie.maker.tag → aged_resolution old (resolve core e.tie e.secret header cookie) ≡ resolution
    → ResolvedAnswers e cookie core word resolution answers → (resolve_with_flush (flush_answered answers) e cookie core word resolution).following ≡ next_chunk
    → own_tag (resolve_with_flush (flush_answered answers) e cookie core word resolution).after.core ≡ header
resolved_tag e cookie header core word old establish_new answers is bears resolved allowed next = established_tag e cookie (queues_kept e cookie) word (connected ∷ []) answers allowed ∙ sym bears
resolved_tag e cookie header core word old restart answers is bears resolved allowed next = restarted_tag e cookie word core answers allowed next ∙ sym bears
resolved_tag e cookie header core word old simultaneous_init answers is bears resolved allowed next = established_tag e cookie (queues_collided e core cookie) word (connected ∷ []) answers allowed ∙ sym bears
resolved_tag e cookie header core word old discard answers is bears resolved allowed next = absurd (not_next next)
resolved_tag e cookie header core word old maintain_existing answers is bears resolved allowed next = maintained_tag e cookie header core answers is (kept_by_age old (resolve core e.tie e.secret header cookie) resolved) allowed
resolved_tag e cookie header core word old invalid_tag answers is bears resolved allowed next = absurd (not_next next)
resolved_tag e cookie header core word old stale answers is bears resolved allowed next = absurd (stale_drops e cookie next)

pub echoes_own : (e : Endpoint) (header : ℕ) (bytes : List ℕ) (cookie : Cookie) (o : Outcome) → cookie_of_bytes bytes ≡ Ok cookie → header ≡ cookie.maker.tag → CookieEchoTurn e header bytes o
    → o.following ≡ next_chunk → own_tag o.after.core ≡ header
echoes_own e header bytes cookie o read bears (word, answers, allowed, is) next =
    let allowed' = subst (λ (r : Result Cookie (List ℕ)). EchoedAnswers e e.core header r word answers) read allowed in
    let is' : o ≡ cookie_echo_with_flush (flush_answered answers) e e.core header (Ok cookie) word = is ∙ ap (λ (r : Result Cookie (List ℕ)). cookie_echo_with_flush (flush_answered answers) e e.core header r word) read in
    subst (λ (x : Outcome). own_tag x.after.core ≡ header) (sym is')
    (resolved_tag e cookie header e.core word (is_spent e e.core header cookie) (resolved_now e e.core header cookie) answers refl bears refl allowed' (ap (λ (x : Outcome). x.following) (sym is') ∙ next))

-- ---- where packets go

both_to : (tag : ℕ) (told : List FillingEvent) (rest : List (Event Emission)) → AllTo tag (packets_of_events rest) → AllTo tag (packets_of_events (map filling_event told ++ rest))
both_to tag [] rest to = to
both_to tag (amount_is_low stream ∷ told) rest to = both_to tag told rest to
both_to tag (total_amount_is_low ∷ told) rest to = both_to tag told rest to
both_to tag (message_is_sent id ∷ told) rest to = both_to tag told rest to
both_to tag (message_may_have_expired id ∷ told) rest to = both_to tag told rest to
both_to tag (message_has_expired id ∷ told) rest to = both_to tag told rest to
both_to tag (message_ends id ∷ told) rest to = both_to tag told rest to

no_rest : (events : List (Event Emission)) → events ++ [] ≡ events
no_rest [] = refl
no_rest (event ∷ events) = ap (λ (l : List (Event Emission)). event ∷ l) (no_rest events)

out_to : (e : Endpoint) (told : List FillingEvent) (with_checksum : Bool) (tag : ℕ) (contents : List Content) → AllTo tag (packets_of_events (goes_out e (map filling_event told) with_checksum tag contents).events)
out_to e told with_checksum tag [] = subst (λ (l : List (Event Emission)). AllTo tag (packets_of_events l)) (no_rest (map filling_event told)) (both_to tag told [] tt)
out_to e told with_checksum tag (c ∷ contents) = both_to tag told (sent (record { with_checksum = with_checksum; packet = record { tag = tag; contents = c ∷ contents } }) ∷ []) (refl, tt)

events_to : (tag : ℕ) (events others : List (Event Emission)) → AllTo tag (packets_of_events events) → AllTo tag (packets_of_events others) → AllTo tag (packets_of_events (events ++ others))
events_to tag [] others to to' = to'
events_to tag (sent e ∷ events) others to to' = (to.0, events_to tag events others to.1 to')
events_to tag (connected ∷ events) others to to' = events_to tag events others to to'
events_to tag (closed_event ∷ events) others to to' = events_to tag events others to to'
events_to tag (connection_restarted ∷ events) others to to' = events_to tag events others to to'
events_to tag (aborted k t ∷ events) others to to' = events_to tag events others to to'
events_to tag (error k t ∷ events) others to to' = events_to tag events others to to'
events_to tag (buffered_amount_low i ∷ events) others to to' = events_to tag events others to to'
events_to tag (total_buffered_amount_low ∷ events) others to to' = events_to tag events others to to'
events_to tag (streams_reset_failed i ∷ events) others to to' = events_to tag events others to to'
events_to tag (streams_reset_performed i ∷ events) others to to' = events_to tag events others to to'
events_to tag (incoming_stream_reset i ∷ events) others to to' = events_to tag events others to to'
events_to tag (lifecycle_message_fully_sent i ∷ events) others to to' = events_to tag events others to to'
events_to tag (lifecycle_message_maybe_expired i ∷ events) others to to' = events_to tag events others to to'
events_to tag (lifecycle_message_expired i ∷ events) others to to' = events_to tag events others to to'
events_to tag (lifecycle_message_delivered i ∷ events) others to to' = events_to tag events others to to'
events_to tag (lifecycle_end i ∷ events) others to to' = events_to tag events others to to'

asking_peer : (core : Core) (tag : ℕ) → IsPeerTag core tag → IsPeerTag (core_asking core) tag
asking_peer closed tag is = is
asking_peer (cookie_wait my) tag is = is
asking_peer (cookie_echoed my held cookie) tag is = is
asking_peer (open_in phase my held) tag is = is

begun_peer : (begun : Option BegunReset) (e : Endpoint) (tag : ℕ) → IsPeerTag e.core tag → IsPeerTag (after_begun begun e).core tag
begun_peer None e tag is = is
begun_peer (Some begun) e tag is = asking_peer e.core tag is

next_to : (core : Core) (draft : Emission) (tag : ℕ) → IsPeerTag core tag → draft.packet.tag ≡ tag → (next_draft core draft).packet.tag ≡ tag
next_to closed draft tag is same = same
next_to (cookie_wait my) draft tag is same = same
next_to (cookie_echoed my held cookie) draft tag is same = is
next_to (open_in phase my held) draft tag is same = is

asked_to : (e : Endpoint) (draft : Emission) (answer : Answer) (tag : ℕ) → draft.packet.tag ≡ tag → AllTo tag (packets_of_events (asked_outcome e draft answer).events)
asked_to e draft answer tag same =
    subst (λ (t : ℕ). AllTo t (packets_of_events (asked_outcome e draft answer).events)) same (out_to answer.after answer.told draft.with_checksum draft.packet.tag (filled_draft draft (answer_contents answer)).packet.contents)

answers_to : (tag : ℕ) (ask : Ask) (n : ℕ) (e : Endpoint) (draft : Emission) (answers : List Answer) → IsPeerTag e.core tag → draft.packet.tag ≡ tag → AreFlushAnswers ask n e draft answers → AllTo tag (packets_of_events (flush_of e draft answers).events)
answers_to tag _ _ _ _ _ is same (at_limit ask e draft) = tt
answers_to tag _ _ _ _ _ is same (at_empty ask more e draft answer answered empty) = events_to tag (asked_outcome e draft answer).events [] (asked_to e draft answer tag same) tt
answers_to tag _ _ _ _ _ is same (after_packet ask more e draft answer answers answered some rest) =
    events_to tag (asked_outcome e draft answer).events (flush_of (asked_outcome e draft answer).after (next_draft e.core draft) answers).events (asked_to e draft answer tag same)
    (answers_to tag later_ask more (asked_outcome e draft answer).after (next_draft e.core draft) answers
    (subst (λ (c : Core). IsPeerTag c tag) (sym (asked_keeps ask e draft answer answered).core) (begun_peer answer.begun e tag is)) (next_to e.core draft tag is same) rest)

pub flushes_to : (e : Endpoint) (draft : Emission) (answers : List Answer) → IsPeerTag e.core draft.packet.tag → FlushAnswers e draft answers → AllTo draft.packet.tag (packets_of_events (flush_of e draft answers).events)
flushes_to e draft answers is allowed = answers_to draft.packet.tag first_ask (packets_allowed e.options.max_burst e.core) e draft answers is refl allowed

-- ---- a flush leaves the association

pub asking_link : (core : Core) → identity_of_core (core_asking core) ≡ identity_of_core core
asking_link closed = refl
asking_link (cookie_wait my) = refl
asking_link (cookie_echoed my held cookie) = refl
asking_link (open_in phase my held) = refl

begun_link : (begun : Option BegunReset) (e : Endpoint) → identity_of_core (after_begun begun e).core ≡ identity_of_core e.core
begun_link None e = refl
begun_link (Some begun) e = asking_link e.core

asked_link : (ask : Ask) (e : Endpoint) (draft : Emission) (answer : Answer) → IsFlushAnswer ask e draft answer → identity_of_core (asked_outcome e draft answer).after.core ≡ identity_of_core e.core
asked_link ask e draft answer answered = ap identity_of_core (asked_keeps ask e draft answer answered).core ∙ begun_link answer.begun e

answers_link : (ask : Ask) (n : ℕ) (e : Endpoint) (draft : Emission) (answers : List Answer) → AreFlushAnswers ask n e draft answers → identity_of_core (flush_of e draft answers).after.core ≡ identity_of_core e.core
answers_link _ _ _ _ _ (at_limit ask e draft) = refl
answers_link _ _ _ _ _ (at_empty ask more e draft answer answered empty) = asked_link ask e draft answer answered
answers_link _ _ _ _ _ (after_packet ask more e draft answer answers answered some rest) =
    answers_link later_ask more (asked_outcome e draft answer).after (next_draft e.core draft) answers rest ∙ asked_link ask e draft answer answered

pub flush_link : (e : Endpoint) (draft : Emission) (answers : List Answer) → FlushAnswers e draft answers → identity_of_core (flush_of e draft answers).after.core ≡ identity_of_core e.core
flush_link e draft answers allowed = answers_link first_ask (packets_allowed e.options.max_burst e.core) e draft answers allowed
