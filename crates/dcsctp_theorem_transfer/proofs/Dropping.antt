-- A chunk of data or control that drops the rest of its packet has ended the association.
use Rattle.std.proofs.Common.{◌≡◌, ◌==◌, ℕ, Bool, true, false, cond, Option, None, Some, List, [], ◌∷◌, inl, refl, sym, ap, ◌∙◌, subst}
use Rattle.std.specs.Prelude.{if◌then◌else◌, nat_le}
use Rattle.dcsctp_spec_lemmas.specs.wire.Content.{SackContent, no_user_data, ParameterContent, data_chunk, sack_chunk, error_chunk, i_data_chunk, forward_tsn_chunk, i_forward_tsn_chunk}
use Rattle.dcsctp_spec_lemmas.specs.types.declared.arrivals.SkippedTo.{SkippedTo}
use Rattle.dcsctp_spec_lemmas.specs.types.declared.association.Held.{Held}
use Rattle.dcsctp_spec_lemmas.specs.types.declared.ends.AbortReason.TheVariants as reasons
use Rattle.dcsctp_spec_lemmas.specs.types.declared.ends.AbortReason.{AbortReason}
use Rattle.dcsctp_spec_lemmas.specs.types.declared.ends.Violation.{Violation}
use Rattle.dcsctp_spec_lemmas.specs.spec.Packet.{Introduction, Plain, Content, init, init_ack, cookie_echo, cookie_ack, re_config, abort, shutdown, shutdown_ack, shutdown_complete, plain, error_of, unknown, heartbeat, heartbeat_ack, unworked, Emission}
use Rattle.dcsctp_spec_lemmas.specs.types.declared.word.Word.{Word}
use Rattle.dcsctp_spec_lemmas.specs.types.declared.word.Word.TheVariants.{U32}
use Rattle.dcsctp_spec_lemmas.specs.spec.association.Acts.{chunk_change}
use Rattle.dcsctp_spec_lemmas.specs.spec.association.Controlled.{IsControlledChunk}
use Rattle.dcsctp_spec_lemmas.specs.spec.association.Effect.{Change}
use Rattle.dcsctp_spec_lemmas.specs.spec.endpoint.HandshakeOutcomes.{pair_from, renewed_pair, init_ack_emission, init_outcome}
use Rattle.dcsctp_spec_lemmas.specs.spec.endpoint.Turn.{ContentTurn}
use Rattle.dcsctp_spec_laws.specs.TurnLaws.{ChunksAreControlled}
use Rattle.dcsctp_spec_lemmas.proofs.EarlyLemmas.{content_by}
use Rattle.dcsctp_theorem_transfer.proofs.Opening.{IsDecided, EndsOrRests, chunk_goes}
use Rattle.dcsctp_spec_lemmas.specs.spec.endpoint.Cause.{Cause}
use Rattle.dcsctp_spec_lemmas.specs.spec.endpoint.DataOutcomes.{HandlesPayload, no_user_data_outcome, ReceiveTurn, ForwardTurn, TakesSackAndFlushes, HandlesSackIfValid, HandlesSackIfConnected, SackTurn}
use Rattle.dcsctp_spec_lemmas.specs.spec.endpoint.EndOutcomes.{aborting_outcome}
use Rattle.dcsctp_spec_lemmas.specs.spec.endpoint.Endpoint.{Endpoint, Core, closed, cookie_wait, cookie_echoed, open_in, established, shutdown_pending, shutdown_sent, shutdown_received, shutdown_ack_sent, held_by_core, with_secret, secret_with}
use Rattle.dcsctp_spec_lemmas.specs.spec.endpoint.FlushOutcomes.{draft_to, first_ask, packets_allowed}
use Rattle.dcsctp_spec_lemmas.specs.spec.endpoint.Following.{next_chunk, packet_end, dropped_rest}
use Rattle.dcsctp_spec_lemmas.specs.spec.endpoint.HeartbeatOutcomes.{heartbeat_outcome, first_heartbeat_info, counter_of, endpoint_answered, heartbeat_ack_outcome}
use Rattle.dcsctp_spec_lemmas.specs.spec.endpoint.Outcome.{Outcome, answering, still, quiet, sends, fits, answers_with, to_peer}
use Rattle.dcsctp_spec_lemmas.specs.spec.endpoint.PlainOutcomes.{PlainTurn, PlainTurnUnlessViolating, violation_by_core, error_outcome}
use Rattle.dcsctp_spec_lemmas.specs.spec.endpoint.ShutdownOutcomes.{shutdown_ack_outcome}
use Rattle.dcsctp_spec_lemmas.specs.spec.queues.Acknowledging.{is_sack_valid}
use Rattle.dcsctp_spec_lemmas.specs.spec.queues.Arrivals.{Arrival, data_arrival, i_data_arrival, named_skips, skipped_messages}
use Rattle.dcsctp_spec_lemmas.specs.spec.queues.Transfer.{Transfer}
use Rattle.dcsctp_spec_lemmas.proofs.AbortLemmas.{by_error_outcome}
use Rattle.dcsctp_spec_lemmas.proofs.FlushKeeps.{flush_keeps}
use Rattle.dcsctp_spec_lemmas.proofs.OneAnswerLemmas.{answered_by, init_by}

abbrev pub EndsIfDropped : Outcome → Type 0
EndsIfDropped o = o.following ≡ dropped_rest → o.after.core ≡ closed

-- Another chunk, or the packet's end, follows.
goes_on : (o : Outcome) → o.following ≡ next_chunk → EndsIfDropped o
goes_on o next is = absurd (let both : next_chunk ≡ dropped_rest = sym next ∙ is in cc)

sent_goes : (b : Bool) (e : Endpoint) (emission : Emission) → EndsIfDropped (cond b (sends e [] [] emission) (quiet e [] []))
sent_goes true e emission is = absurd (cc)
sent_goes false e emission is = absurd (cc)

answer_goes : (e : Endpoint) (emission : Emission) → EndsIfDropped (answers_with e emission)
answer_goes e emission = answered_by EndsIfDropped e emission (goes_on (still e) refl) (sent_goes (fits e emission) e emission)

heartbeat_goes : (e : Endpoint) (core : Core) (parameters : List ParameterContent) → EndsIfDropped (heartbeat_outcome e core parameters)
heartbeat_goes e closed parameters is = absurd (cc)
heartbeat_goes e (cookie_wait my) parameters is = absurd (cc)
heartbeat_goes e (cookie_echoed my held cookie) parameters is = answer_goes e (to_peer held (plain (heartbeat_ack parameters))) is
heartbeat_goes e (open_in phase my held) parameters is = answer_goes e (to_peer held (plain (heartbeat_ack parameters))) is

counted_goes : (b : Bool) (e : Endpoint) → EndsIfDropped (cond b (still (endpoint_answered e)) (still e))
counted_goes true e is = absurd (cc)
counted_goes false e is = absurd (cc)

heartbeat_ack_goes : (e : Endpoint) (counter : Option ℕ) → EndsIfDropped (heartbeat_ack_outcome e counter)
heartbeat_ack_goes e None is = absurd (cc)
heartbeat_ack_goes e (Some counter) is = counted_goes (counter == e.heartbeat_counter) e is

pub aborting_goes : (e : Endpoint) (core : Core) (reason : AbortReason) → EndsIfDropped (aborting_outcome e core reason)
aborting_goes e closed reason is = absurd (cc)
aborting_goes e (cookie_wait my) reason is = refl
aborting_goes e (cookie_echoed my held cookie) reason is = refl
aborting_goes e (open_in phase my held) reason is = refl

unknown_follows : (b : Bool) → (if b then next_chunk else packet_end) ≡ dropped_rest → ⊥
unknown_follows true is = absurd (cc)
unknown_follows false is = absurd (cc)

no_data_goes : (b : Bool) (e : Endpoint) (emission : Emission) → (cond b (sends e [] [] emission) (quiet e [] [])).following ≡ next_chunk
no_data_goes true e emission = refl
no_data_goes false e emission = refl

empty_goes : (e : Endpoint) (peer : Option Held) (tsn : ℕ) → EndsIfDropped (no_user_data_outcome e peer tsn)
empty_goes e None tsn is = absurd (cc)
empty_goes e (Some held) tsn is =
    absurd (let goes = no_data_goes (fits e (to_peer held (plain (error_of (no_user_data tsn ∷ []))))) e (to_peer held (plain (error_of (no_user_data tsn ∷ [])))) in cc)

same_goes : (o other : Outcome) → o ≡ other → EndsIfDropped other → EndsIfDropped o
same_goes o other is h = subst EndsIfDropped (sym is) h

receive_goes : (e : Endpoint) (found : Option Transfer) (arrived : Arrival) (o : Outcome) → ReceiveTurn e found arrived o → EndsIfDropped o
receive_goes e None arrived o turn = goes_on o (ap (λ (x : Outcome). x.following) turn)
receive_goes e (Some t) arrived o turn = goes_on o (ap (λ (x : Outcome). x.following) turn.2)

payload_goes : (e : Endpoint) (arrived : Arrival) (payload : List ℕ) (o : Outcome) → HandlesPayload e arrived payload o → EndsIfDropped o
payload_goes e arrived [] o turn = same_goes o _ turn (empty_goes e (held_by_core e.core) arrived.tsn)
payload_goes e arrived (byte ∷ bytes) o turn = receive_goes e e.queues.transfer arrived o turn

forward_goes : (e : Endpoint) (found : Option Transfer) (tsn : ℕ) (entries : List SkippedTo) (o : Outcome) → ForwardTurn e found tsn entries o → EndsIfDropped o
forward_goes e None tsn entries o turn = goes_on o (ap (λ (x : Outcome). x.following) turn)
forward_goes e (Some t) tsn entries o turn = goes_on o (ap (λ (x : Outcome). x.following) turn.2)

taken_goes : (e : Endpoint) (held : Held) (t : Transfer) (sack : SackContent) (o : Outcome) → TakesSackAndFlushes e held t sack o → EndsIfDropped o
taken_goes e held t sack o turn =
    goes_on o (ap (λ (x : Outcome). x.following) turn.is
    ∙ (flush_keeps first_ask (packets_allowed turn.fast.after.options.max_burst turn.fast.after.core) turn.fast.after (draft_to held) turn.answers turn.allowed).following)

valid_goes : (b : Bool) (e : Endpoint) (held : Held) (t : Transfer) (sack : SackContent) (o : Outcome) → HandlesSackIfValid b e held t sack o → EndsIfDropped o
valid_goes false e held t sack o turn = goes_on o (ap (λ (x : Outcome). x.following) turn)
valid_goes true e held t sack o turn = taken_goes e held t sack o turn

connected_goes : (e : Endpoint) (peer : Option Held) (t : Transfer) (sack : SackContent) (o : Outcome) → HandlesSackIfConnected e peer t sack o → EndsIfDropped o
connected_goes e None t sack o turn = goes_on o (ap (λ (x : Outcome). x.following) turn)
connected_goes e (Some held) t sack o turn = valid_goes (is_sack_valid t.retransmission sack.cumulative_tsn_ack) e held t sack o turn

sack_goes : (e : Endpoint) (found : Option Transfer) (sack : SackContent) (o : Outcome) → SackTurn e found sack o → EndsIfDropped o
sack_goes e None sack o turn = goes_on o (ap (λ (x : Outcome). x.following) turn)
sack_goes e (Some t) sack o turn = connected_goes e (held_by_core e.core) t sack o turn

error_goes : (e : Endpoint) (causes : List Cause) → EndsIfDropped (error_outcome e e.core causes)
error_goes e causes = by_error_outcome EndsIfDropped e e.core causes (λ is. refl) (λ is. absurd (cc)) (λ is. absurd (cc))

plain_by : (e : Endpoint) (chunk : Plain) (violation : Option Violation) (o : Outcome) → PlainTurnUnlessViolating e chunk violation o → EndsIfDropped o
plain_by e chunk (Some violation) o turn = same_goes o _ turn (aborting_goes e e.core (reasons.Violation violation))
plain_by e (unknown type flags value) None o turn = λ is. absurd (unknown_follows (nat_le 128 type) (sym (ap (λ (x : Outcome). x.following) turn) ∙ is))
plain_by e (heartbeat parameters) None o turn = same_goes o _ turn (heartbeat_goes e e.core parameters)
plain_by e (heartbeat_ack parameters) None o turn = same_goes o _ turn (heartbeat_ack_goes e (counter_of (first_heartbeat_info parameters)))
plain_by e (unworked (data_chunk chunk)) None o turn = payload_goes e (data_arrival chunk) (data_arrival chunk).chunk.payload o turn
plain_by e (unworked (i_data_chunk chunk)) None o turn = payload_goes e (i_data_arrival chunk) (i_data_arrival chunk).chunk.payload o turn
plain_by e (unworked (sack_chunk chunk)) None o turn = sack_goes e e.queues.transfer chunk o turn
plain_by e (unworked (forward_tsn_chunk tsn streams)) None o turn = forward_goes e e.queues.transfer tsn (named_skips streams) o turn
plain_by e (unworked (i_forward_tsn_chunk tsn streams)) None o turn = forward_goes e e.queues.transfer tsn (skipped_messages streams) o turn
plain_by e (unworked (error_chunk causes)) None o turn = same_goes o _ turn (error_goes e causes)
plain_by e (unworked chunk) None o turn = goes_on o (ap (λ (x : Outcome). x.following) turn)

pub plain_goes : (e : Endpoint) (chunk : Plain) (o : Outcome) → PlainTurn e chunk o → EndsIfDropped o
plain_goes e chunk o turn = plain_by e chunk (violation_by_core e.core chunk) o turn

reflected_follows : (b : Bool) → (if b then packet_end else next_chunk) ≡ dropped_rest → ⊥
reflected_follows true is = absurd (cc)
reflected_follows false is = absurd (cc)

pub shutdown_ack_goes : (e : Endpoint) (core : Core) (tag : ℕ) → EndsIfDropped (shutdown_ack_outcome e core tag)
shutdown_ack_goes e closed tag is = absurd (reflected_follows e.options.follow_rfc is)
shutdown_ack_goes e (cookie_wait my) tag is = absurd (reflected_follows e.options.follow_rfc is)
shutdown_ack_goes e (cookie_echoed my held cookie) tag is = absurd (reflected_follows e.options.follow_rfc is)
shutdown_ack_goes e (open_in established my held) tag is = absurd (reflected_follows e.options.follow_rfc is)
shutdown_ack_goes e (open_in shutdown_pending my held) tag is = absurd (reflected_follows e.options.follow_rfc is)
shutdown_ack_goes e (open_in shutdown_sent my held) tag is = refl
shutdown_ack_goes e (open_in shutdown_received my held) tag is = absurd (reflected_follows e.options.follow_rfc is)
shutdown_ack_goes e (open_in shutdown_ack_sent my held) tag is = refl

-- ---- an INIT

words_goes : (b : Bool) (e : Endpoint) (words : List Word) (emission : Emission) → (cond b (sends e words [] emission) (quiet e words [])).following ≡ next_chunk
words_goes true e words emission = refl
words_goes false e words emission = refl

init_goes : (e : Endpoint) (theirs : Introduction) (core : Core) (word next : ℕ) → EndsIfDropped (answering (init_outcome e theirs core word next))
init_goes e theirs closed word next is =
    absurd (let goes = words_goes (fits (with_secret e (pair_from word next)) (init_ack_emission (with_secret e (pair_from word next)) theirs (pair_from word next) (secret_with e (pair_from word next)))) (with_secret e (pair_from word next))
    (U32 word ∷ U32 next ∷ []) (init_ack_emission (with_secret e (pair_from word next)) theirs (pair_from word next) (secret_with e (pair_from word next))) in cc)
init_goes e theirs (cookie_wait my) word next is = absurd (let goes = words_goes (fits e (init_ack_emission e theirs my e.secret)) e [] (init_ack_emission e theirs my e.secret) in cc)
init_goes e theirs (cookie_echoed my held cookie) word next is = absurd (let goes = words_goes (fits e (init_ack_emission e theirs my e.secret)) e [] (init_ack_emission e theirs my e.secret) in cc)
init_goes e theirs (open_in established my held) word next is =
    absurd (let goes = words_goes (fits e (init_ack_emission e theirs (renewed_pair e word) e.tie)) e (U32 word ∷ []) (init_ack_emission e theirs (renewed_pair e word) e.tie) in cc)
init_goes e theirs (open_in shutdown_pending my held) word next is =
    absurd (let goes = words_goes (fits e (init_ack_emission e theirs (renewed_pair e word) e.tie)) e (U32 word ∷ []) (init_ack_emission e theirs (renewed_pair e word) e.tie) in cc)
init_goes e theirs (open_in shutdown_sent my held) word next is =
    absurd (let goes = words_goes (fits e (init_ack_emission e theirs (renewed_pair e word) e.tie)) e (U32 word ∷ []) (init_ack_emission e theirs (renewed_pair e word) e.tie) in cc)
init_goes e theirs (open_in shutdown_received my held) word next is =
    absurd (let goes = words_goes (fits e (init_ack_emission e theirs (renewed_pair e word) e.tie)) e (U32 word ∷ []) (init_ack_emission e theirs (renewed_pair e word) e.tie) in cc)
init_goes e theirs (open_in shutdown_ack_sent my held) word next is = absurd (let goes = words_goes (fits e (to_peer held shutdown_ack)) e [] (to_peer held shutdown_ack) in cc)

-- ---- each chunk

-- by its change
by_change : ChunksAreControlled → (e : Endpoint) (tag : ℕ) (content : Content) (o : Outcome) → IsDecided content → IsControlledChunk e tag content o → o.following ≡ dropped_rest
    → EndsOrRests content e.core o.after.core
by_change law e tag content o decided at is =
    let change : Change = chunk_change e.options e.core tag content at.1.0 in
    let follows : change.following ≡ dropped_rest = ap (λ (c : Change). c.following) (sym at.1.2) ∙ sym at.2.following ∙ is in
    let core : o.after.core ≡ change.core = at.2.core ∙ ap (λ (c : Change). c.core) at.1.2 in
    subst (EndsOrRests content e.core) (sym core) (chunk_goes e.options e.core tag content at.1.0 decided follows)

pub dropped : ChunksAreControlled → (e : Endpoint) (tag : ℕ) (content : Content) (o : Outcome) → ContentTurn e tag content o → o.following ≡ dropped_rest → EndsOrRests content e.core o.after.core
dropped law e tag (init theirs) o turn is =
    inl (same_goes o _ turn.2 (init_by EndsIfDropped e theirs turn.0 turn.1 (goes_on (still e) refl) (init_goes e theirs e.core turn.0 turn.1)) is)
dropped law e tag (init_ack theirs cookie) o turn is = by_change law e tag (init_ack theirs cookie) o tt (law e tag (init_ack theirs cookie) o turn tt) is
dropped law e tag (cookie_echo cookie) o turn is = by_change law e tag (cookie_echo cookie) o tt (law e tag (cookie_echo cookie) o turn tt) is
dropped law e tag cookie_ack o turn is = by_change law e tag cookie_ack o tt (law e tag cookie_ack o turn tt) is
dropped law e tag (re_config parameters) o turn is = by_change law e tag (re_config parameters) o tt (law e tag (re_config parameters) o turn tt) is
dropped law e tag (abort reflected causes) o turn is = by_change law e tag (abort reflected causes) o tt (law e tag (abort reflected causes) o turn tt) is
dropped law e tag (shutdown tsn) o turn is = by_change law e tag (shutdown tsn) o tt (law e tag (shutdown tsn) o turn tt) is
dropped law e tag shutdown_ack o turn is = inl (same_goes o _ turn (shutdown_ack_goes e e.core tag) is)
dropped law e tag (shutdown_complete reflected) o turn is = by_change law e tag (shutdown_complete reflected) o tt (law e tag (shutdown_complete reflected) o turn tt) is
dropped law e tag (plain chunk) o turn is =
    inl (content_by e tag (plain chunk) o (λ early. same_goes o (still e) early (goes_on (still e) refl) is) (λ handled. plain_goes e chunk o handled is) turn)
