-- How many packets are sent by chunks that concern no association, by RE-CONFIG, and by timers.
use Rattle.std.proofs.Common.{◌==◌, ◌≡◌, ◌≤◌, ℕ, Bool, true, false, cond, Option, None, Some, List, [], ◌∷◌, ◌++◌, refl, sym, subst, arith}
use Rattle.dcsctp_spec_lemmas.specs.wire.Content.{ParameterContent, data_chunk, sack_chunk, error_chunk, i_data_chunk, forward_tsn_chunk, i_forward_tsn_chunk}
use Rattle.dcsctp_spec_lemmas.specs.types.declared.association.Pair.{Pair}
use Rattle.dcsctp_spec_lemmas.specs.types.declared.association.Held.{Held}
use Rattle.dcsctp_spec_lemmas.specs.types.declared.capabilities.Capabilities.{Capabilities}
use Rattle.dcsctp_spec_lemmas.specs.types.declared.ends.Violation.{Violation}
use Rattle.dcsctp_spec_lemmas.specs.types.declared.ends.AbortReason.TheVariants as reasons
use Rattle.dcsctp_spec_lemmas.specs.types.declared.kinds.ErrorKind.TheVariants.{ProtocolViolation}
use Rattle.dcsctp_spec_lemmas.specs.spec.endpoint.Cause.{Cause}
use Rattle.dcsctp_spec_lemmas.specs.spec.endpoint.Event.{Event, error}
use Rattle.dcsctp_spec_lemmas.specs.spec.Packet.{Plain, plain, unknown, heartbeat, heartbeat_ack, unworked, Content, re_config, Emission}
use Rattle.dcsctp_spec_lemmas.specs.spec.Reconfiguration.{RequestedReset, ResetParameter, renewed_reset}
use Rattle.dcsctp_spec_lemmas.specs.spec.queues.Arrivals.{data_arrival, i_data_arrival, named_skips, skipped_messages}
use Rattle.dcsctp_spec_lemmas.specs.spec.endpoint.Endpoint.{Endpoint, Core, closed, cookie_wait, cookie_echoed, open_in, OutstandingRequest, held_by_core}
use Rattle.dcsctp_spec_lemmas.specs.spec.endpoint.Outcome.{Outcome, still, fits, answers_with, to_peer}
use Rattle.dcsctp_spec_lemmas.specs.spec.association.Effect.{Effect}
use Rattle.dcsctp_spec_lemmas.specs.spec.association.FlushChanges.{reset_request}
use Rattle.dcsctp_spec_lemmas.specs.spec.association.ResetChanges.{HandledParameters}
use Rattle.dcsctp_spec_lemmas.specs.spec.endpoint.FlushOutcomes.{Answer, draft_to, flush_of}
use Rattle.dcsctp_spec_lemmas.specs.spec.endpoint.HeartbeatOutcomes.{heartbeat_outcome, first_heartbeat_info, counter_of, endpoint_answered, heartbeat_ack_outcome, interval_expired, beating, heartbeat_emission, beat, interval_outcome, is_exhausted}
use Rattle.dcsctp_spec_lemmas.specs.spec.endpoint.OwnTimers.{OwnTimer, acknowledgement_delay, retransmission, heartbeat_interval, heartbeat_timeout, reconfiguration, TimerTurn}
use Rattle.dcsctp_spec_lemmas.specs.spec.endpoint.PlainOutcomes.{PlainTurn, PlainTurnUnlessViolating, violation_of_capabilities, violation_by_core, is_reported, after_unknown, unknown_bytes, unknown_chunk_outcome, error_outcome}
use Rattle.dcsctp_spec_lemmas.specs.spec.endpoint.ReconfigurationOutcomes.{reset_again, request_emitted, renewed_request_if_fitting, request_renewed, request_unless, is_renewed, request_errors, request_expired, reconfiguration_outcome}
use Rattle.dcsctp_spec_lemmas.specs.spec.endpoint.ResetOutcomes.{request_state, renewable_left, handled_parameters_of, OwnAnswer, answer_to_own, reset_events, reset_events_of, reset_refusal_text, resets_handled, responses_outcome, core_with, responses_unless_refused, ResponseAnswers, HandlesResets, ResetTurn}
use Rattle.dcsctp_spec_laws.proofs.ResetLemmas.{AreResets, nothing, acceptance, performance, renewal, completion, failure, chunk_brings}
use Rattle.dcsctp_spec_lemmas.proofs.AbortLemmas.{by_error_outcome}
use Rattle.dcsctp_spec_lemmas.proofs.OneAnswerLemmas.{answered_by}
use Rattle.dcsctp_theorem_sockets.specs.Bursts.{packets_of_plain, packets_of_timer}
use Rattle.dcsctp_theorem_sockets.proofs.Bursts.{count, append_few, none_in_front, Few, none, one, emits_core, emits_few, HasPeer, allowed_after, flush_is_burst}
use Rattle.dcsctp_theorem_sockets.proofs.BurstData.{IsBehind, data_few, forward_few, sack_behind, delay_few, loss_few}
use Rattle.dcsctp_theorem_sockets.proofs.BurstHandshake.{aborting_few}

-- ---- an unknown chunk, and an ERROR

unknown_few : (e : Endpoint) (core : Core) (type : ℕ) (chunk : List ℕ) (reported : Bool)
    → Few 1 (record (cond reported (unknown_chunk_outcome e core type chunk) (still e)) { following = after_unknown type })
unknown_few e core type chunk false = none 1
unknown_few e closed type chunk true = none 1
unknown_few e (cookie_wait my) type chunk true = none 1
unknown_few e (cookie_echoed my held cookie) type chunk true = one 0
unknown_few e (open_in phase my held) type chunk true = one 0

error_few : (e : Endpoint) (core : Core) (causes : List Cause) → Few 0 (error_outcome e core causes)
error_few e core causes = by_error_outcome (Few 0) e core causes (none 0) (none 0) (none 0)

-- ---- heartbeats

answer_few : (e : Endpoint) (emission : Emission) → Few 1 (answers_with e emission)
answer_few e emission = answered_by (Few 1) e emission (none 1) (emits_few e [] emission)

heartbeat_few : (e : Endpoint) (core : Core) (parameters : List ParameterContent) → Few 1 (heartbeat_outcome e core parameters)
heartbeat_few e closed parameters = none 1
heartbeat_few e (cookie_wait my) parameters = none 1
heartbeat_few e (cookie_echoed my held cookie) parameters = answer_few e (to_peer held (plain (heartbeat_ack parameters)))
heartbeat_few e (open_in phase my held) parameters = answer_few e (to_peer held (plain (heartbeat_ack parameters)))

counted_few : (b : Bool) (e : Endpoint) → Few 0 (cond b (still (endpoint_answered e)) (still e))
counted_few true e = none 0
counted_few false e = none 0

heartbeat_ack_few : (e : Endpoint) (counter : Option ℕ) → Few 0 (heartbeat_ack_outcome e counter)
heartbeat_ack_few e None = none 0
heartbeat_ack_few e (Some counter) = counted_few (counter == e.heartbeat_counter) e

beat_few : (e : Endpoint) (held : Held) → Few 1 (beat e held)
beat_few e held = emits_few (beating e) [] (heartbeat_emission held (beating e).heartbeat_counter)

interval_few : (e : Endpoint) (core : Core) → Few 1 (interval_outcome e core)
interval_few e closed = none 1
interval_few e (cookie_wait my) = none 1
interval_few e (cookie_echoed my held cookie) = beat_few (interval_expired e) held
interval_few e (open_in phase my held) = beat_few (interval_expired e) held

-- ---- a request to reset streams again

request_few : (e : Endpoint) (held : Held) (number : Option ℕ) (reset : RequestedReset) → Few 1 (request_emitted e held number reset)
request_few e held None reset = none 1
request_few e held (Some number) reset = emits_few e [] (to_peer held (reset_request number reset))

renewed_few : (b : Bool) (e : Endpoint) (held : Held) (number : ℕ) (request : Content) → Few 1 (renewed_request_if_fitting b e held number request)
renewed_few true e held number request = one 0
renewed_few false e held number request = none 1

anew_few : (e : Endpoint) (held : Held) (number : Option ℕ) (reset : RequestedReset) → Few 1 (request_renewed e held number reset)
anew_few e held None reset = none 1
anew_few e held (Some number) reset = renewed_few (fits e (to_peer held (reset_request held.own_next (renewed_reset reset)))) e held number (reset_request held.own_next (renewed_reset reset))

unless_few : (b is_new : Bool) (e : Endpoint) (held : Held) (reset : RequestedReset) → Few 1 (request_unless b is_new e held reset)
unless_few true is_new e held reset = none 1
unless_few false false e held reset = request_few e held held.own_outstanding reset
unless_few false true e held reset = anew_few e held held.own_outstanding reset

reconfiguration_few : (e : Endpoint) (peer : Option Held) (request : Option OutstandingRequest) → Few 1 (reconfiguration_outcome e peer request)
reconfiguration_few e None request = none 1
reconfiguration_few e (Some held) None = none 1
reconfiguration_few e (Some held) (Some request) =
    unless_few (is_exhausted e.options.max_retransmissions (request_errors e request)) (is_renewed e (Some request)) (request_expired e request) held (reset_again (Some request))

-- ---- each timer

pub timer_few : (e : Endpoint) (timer : OwnTimer) (o : Outcome) → TimerTurn e timer o → Few (packets_of_timer timer) o
timer_few e acknowledgement_delay o turn = subst (Few 0) (sym turn) (delay_few e e.queues.transfer)
timer_few e retransmission o turn = loss_few e e.queues.transfer o turn
timer_few e heartbeat_interval o turn = subst (Few 1) (sym turn) (interval_few e e.core)
timer_few e heartbeat_timeout o turn = subst (Few 0) (sym turn) (none 0)
timer_few e reconfiguration o turn = subst (Few 1) (sym turn) (reconfiguration_few e (held_by_core e.core) e.outstanding)

-- ---- RE-CONFIG

-- No event of a reset is a packet.
told_few : (theirs own : List ℕ) (es : List Effect) → AreResets es → count (reset_events theirs own es) ≤ 0
told_few theirs own _ nothing = none 0
told_few theirs own _ (acceptance number es are) = told_few theirs own es are
told_few theirs own _ (performance peer number es are) = told_few theirs own es are
told_few theirs own _ (renewal peer number es are) = told_few theirs own es are
told_few theirs own _ (completion my number es are) = told_few theirs own es are
told_few theirs own _ (failure number es are) = told_few theirs own es are

response_few : (e : Endpoint) (held : Held) (responses : List ResetParameter) → Few 1 (responses_outcome e held responses)
response_few e held [] = none 1
response_few e held (response ∷ responses) = answer_few e (to_peer held (re_config (response ∷ responses)))

response_core : (e : Endpoint) (held : Held) (responses : List ResetParameter) → (responses_outcome e held responses).after.core ≡ e.core
response_core e held [] = refl
response_core e held (response ∷ responses) =
    let emission : Emission = to_peer held (re_config (response ∷ responses)) in
    answered_by (λ (o : Outcome). o.after.core ≡ e.core) e emission refl (emits_core e [] emission)

sent_behind : (refused : Bool) (e : Endpoint) (told : List (Event Emission)) (held : Held) (parameters responses : List ResetParameter) (answers : List Answer)
    → HasPeer e.core → ResponseAnswers refused e held responses answers → count told ≤ 0 → IsBehind 1 (responses_unless_refused refused e told held parameters responses answers)
sent_behind true e told held parameters responses answers peer allowed before =
    let few : count (told ++ error ProtocolViolation (reset_refusal_text parameters) ∷ []) ≤ 0 =
    none_in_front 0 told (error ProtocolViolation (reset_refusal_text parameters) ∷ []) before (none 0) in
    omega (arith, few)
sent_behind false e told held parameters responses answers peer allowed before =
    let sent : Outcome = responses_outcome e held responses in
    let flushed : Outcome = flush_of sent.after (draft_to held) answers in
    append_few 1 (allowed_after flushed) (told ++ sent.events) flushed.events (none_in_front 1 told sent.events before (response_few e held responses))
    (flush_is_burst sent.after (draft_to held) answers (subst HasPeer (sym (response_core e held responses)) peer) allowed)

-- The peer stays known.
with_peer : (core : Core) (held : Held) → HasPeer core → HasPeer (core_with core held)
with_peer closed held peer = absurd peer
with_peer (cookie_wait my) held peer = absurd peer
with_peer (cookie_echoed my own cookie) held peer = tt
with_peer (open_in phase my own) held peer = tt

works_behind : (e : Endpoint) (my : Pair) (held : Held) (parameters : List ResetParameter) (o : Outcome) → HasPeer e.core → HandlesResets e my held parameters o → IsBehind 1 o
works_behind e my held parameters o peer turn =
    let w : HandledParameters = handled_parameters_of e my held parameters in
    let brought = chunk_brings my (request_state e held parameters) held parameters in
    let answer : OwnAnswer = answer_to_own held w parameters in
    subst (IsBehind 1) (sym turn.is)
    (sent_behind w.is_refused (resets_handled e answer w.held turn.left (renewable_left e held w parameters)) (reset_events_of e parameters w.effects) w.held parameters w.answers turn.answers (with_peer e.core w.held peer) turn.allowed
    (told_few _ _ w.effects brought.are))

pub reset_behind : (e : Endpoint) (core : Core) (parameters : List ResetParameter) (o : Outcome) → e.core ≡ core → ResetTurn e core parameters o → IsBehind 1 o
reset_behind e closed parameters o is turn = subst (IsBehind 1) (sym turn) (omega arith)
reset_behind e (cookie_wait my) parameters o is turn = subst (IsBehind 1) (sym turn) (omega arith)
reset_behind e (cookie_echoed my held cookie) parameters o is turn = works_behind e my held parameters o (subst HasPeer (sym is) tt) turn
reset_behind e (open_in phase my held) parameters o is turn = works_behind e my held parameters o (subst HasPeer (sym is) tt) turn

-- ---- each

-- A chunk that may break the protocol may be answered by a packet.
violates_by : (capabilities : Capabilities) (chunk : Plain) (violation : Violation) (flushed : ℕ) → violation_of_capabilities capabilities chunk ≡ Some violation → 1 ≤ packets_of_plain chunk flushed
violates_by capabilities (unworked (data_chunk chunk)) violation flushed is = one 0
violates_by capabilities (unworked (i_data_chunk chunk)) violation flushed is = one 0
violates_by capabilities (unworked (forward_tsn_chunk tsn streams)) violation flushed is = one 0
violates_by capabilities (unworked (i_forward_tsn_chunk tsn streams)) violation flushed is = one 0
violates_by capabilities chunk violation flushed is = absurd (cc)

violates : (core : Core) (chunk : Plain) (violation : Violation) (flushed : ℕ) → violation_by_core core chunk ≡ Some violation → 1 ≤ packets_of_plain chunk flushed
violates closed chunk violation flushed is = absurd (cc)
violates (cookie_wait my) chunk violation flushed is = absurd (cc)
violates (cookie_echoed my held cookie) chunk violation flushed is = violates_by held.capabilities chunk violation flushed is
violates (open_in phase my held) chunk violation flushed is = violates_by held.capabilities chunk violation flushed is

abbrev PlainCounts : Plain → Outcome → Type 0
PlainCounts chunk o = count o.events ≤ packets_of_plain chunk (allowed_after o)

plain_by : (e : Endpoint) (chunk : Plain) (violation : Option Violation) (o : Outcome) → violation_by_core e.core chunk ≡ violation → PlainTurnUnlessViolating e chunk violation o → PlainCounts chunk o
plain_by e chunk (Some violation) o is turn =
    let least : 1 ≤ packets_of_plain chunk (allowed_after o) = violates e.core chunk violation (allowed_after o) is in
    let few : Few 1 o = subst (Few 1) (sym turn) (aborting_few e e.core (reasons.Violation violation)) in
    omega (arith, least, few)
plain_by e (unknown type flags value) None o is turn = subst (Few 1) (sym turn) (unknown_few e e.core type (unknown_bytes type flags value) (is_reported type))
plain_by e (heartbeat parameters) None o is turn = subst (Few 1) (sym turn) (heartbeat_few e e.core parameters)
plain_by e (heartbeat_ack parameters) None o is turn = subst (Few 0) (sym turn) (heartbeat_ack_few e (counter_of (first_heartbeat_info parameters)))
plain_by e (unworked (data_chunk chunk)) None o is turn = data_few e (data_arrival chunk) o turn
plain_by e (unworked (i_data_chunk chunk)) None o is turn = data_few e (i_data_arrival chunk) o turn
plain_by e (unworked (sack_chunk chunk)) None o is turn = sack_behind e e.queues.transfer chunk o turn
plain_by e (unworked (forward_tsn_chunk tsn streams)) None o is turn = forward_few e e.queues.transfer tsn (named_skips streams) o turn
plain_by e (unworked (i_forward_tsn_chunk tsn streams)) None o is turn = forward_few e e.queues.transfer tsn (skipped_messages streams) o turn
plain_by e (unworked (error_chunk causes)) None o is turn = subst (Few 0) (sym turn) (error_few e e.core causes)
plain_by e (unworked chunk) None o is turn = subst (Few 0) (sym turn) (none 0)

pub plain_counts : (e : Endpoint) (chunk : Plain) (o : Outcome) → PlainTurn e chunk o → PlainCounts chunk o
plain_counts e chunk o turn = plain_by e chunk (violation_by_core e.core chunk) o refl turn
