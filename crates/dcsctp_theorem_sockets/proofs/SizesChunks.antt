-- RE-CONFIG, timers, and chunks that concern no association send no packet longer than a limit.
use Rattle.std.proofs.Common.{◌==◌, ◌≡◌, ◌≤◌, ◌+◌, ◌-◌, ℕ, Bool, true, false, cond, Option, None, Some, List, [], ◌∷◌, ◌++◌, length, take, refl, sym, subst, arith, length-append}
use Rattle.std.proofs.lemmas.List.{length-take, length-replicate}
use Rattle.dcsctp_spec_lemmas.specs.wire.Content.{ParameterContent, data_chunk, sack_chunk, error_chunk, i_data_chunk, forward_tsn_chunk, i_forward_tsn_chunk, unrecognized_chunk_type}
use Rattle.dcsctp_spec_lemmas.specs.wire.Format.{padding_of}
use Rattle.dcsctp_spec_lemmas.specs.wire.Spelling.{zeros, as_parameter, chunk_bytes, parameter_bytes, parameter_chunk_bytes}
use Rattle.dcsctp_spec_lemmas.specs.types.declared.association.Pair.{Pair}
use Rattle.dcsctp_spec_lemmas.specs.types.declared.association.Held.{Held}
use Rattle.dcsctp_spec_lemmas.specs.types.declared.ends.Violation.{Violation}
use Rattle.dcsctp_spec_lemmas.specs.types.declared.ends.AbortReason.TheVariants as reasons
use Rattle.dcsctp_spec_lemmas.specs.types.declared.options.Options.{Options}
use Rattle.dcsctp_spec_lemmas.specs.spec.endpoint.Cause.{Cause}
use Rattle.dcsctp_spec_lemmas.specs.types.Settings.{packet_size_limit}
use Rattle.dcsctp_spec_lemmas.specs.spec.endpoint.Event.{Event}
use Rattle.dcsctp_spec_lemmas.specs.spec.Packet.{Plain, plain, unknown, heartbeat, heartbeat_ack, unworked, error_of, chunk_out, Content, re_config, Emission}
use Rattle.dcsctp_spec_lemmas.specs.spec.Reconfiguration.{RequestedReset, ResetParameter, renewed_reset}
use Rattle.dcsctp_spec_lemmas.specs.spec.queues.Arrivals.{data_arrival, i_data_arrival, named_skips, skipped_messages}
use Rattle.dcsctp_spec_lemmas.specs.spec.endpoint.Endpoint.{Endpoint, Core, closed, cookie_wait, cookie_echoed, open_in, OutstandingRequest, held_by_core}
use Rattle.dcsctp_spec_lemmas.specs.spec.endpoint.Outcome.{Outcome, contents_len, still, fits, answers_with, to_peer}
use Rattle.dcsctp_spec_lemmas.specs.spec.association.Effect.{Effect}
use Rattle.dcsctp_spec_lemmas.specs.spec.association.FlushChanges.{reset_request}
use Rattle.dcsctp_spec_lemmas.specs.spec.association.ResetChanges.{HandledParameters}
use Rattle.dcsctp_spec_lemmas.specs.spec.endpoint.FlushOutcomes.{Answer, draft_to, flush_of}
use Rattle.dcsctp_spec_lemmas.specs.spec.endpoint.HeartbeatOutcomes.{heartbeat_outcome, first_heartbeat_info, counter_of, endpoint_answered, heartbeat_ack_outcome, interval_expired, beating, heartbeat_emission, beat, interval_outcome, is_exhausted}
use Rattle.dcsctp_spec_lemmas.specs.spec.endpoint.OwnTimers.{OwnTimer, acknowledgement_delay, retransmission, heartbeat_interval, heartbeat_timeout, reconfiguration, TimerTurn}
use Rattle.dcsctp_spec_lemmas.specs.spec.endpoint.PlainOutcomes.{PlainTurn, PlainTurnUnlessViolating, violation_by_core, is_reported, after_unknown, unknown_bytes, unknown_error, unknown_chunk_outcome, error_outcome}
use Rattle.dcsctp_spec_lemmas.specs.spec.endpoint.ReconfigurationOutcomes.{reset_again, request_emitted, renewed_request_if_fitting, request_renewed, request_unless, is_renewed, request_errors, request_expired, reconfiguration_outcome}
use Rattle.dcsctp_spec_lemmas.specs.spec.endpoint.ResetOutcomes.{request_state, renewable_left, handled_parameters_of, OwnAnswer, answer_to_own, reset_events, reset_events_of, resets_handled, responses_outcome, responses_unless_refused, ResponseAnswers, HandlesResets, ResetTurn}
use Rattle.dcsctp_spec_laws.proofs.ResetLemmas.{AreResets, nothing, acceptance, performance, renewal, completion, failure, chunk_brings, worked_keeps}
use Rattle.dcsctp_spec_lemmas.proofs.AbortLemmas.{by_error_outcome}
use Rattle.dcsctp_spec_lemmas.proofs.OneAnswerLemmas.{answered_by}
use Rattle.dcsctp_theorem_sockets.proofs.Sizes.{AtLimit, AllShort, TurnSizes, short_append, packet_sizes, emits_sizes, flush_sizes}
use Rattle.dcsctp_theorem_sockets.proofs.SizesData.{data_sizes, forward_sizes, sack_sizes, delay_sizes, loss_sizes}
use Rattle.dcsctp_theorem_sockets.proofs.SizesTurns.{aborting_sizes}

-- ---- the report of a chunk of a type that isn't known

report_len : (bytes : List ℕ) → contents_len (plain (error_of (unrecognized_chunk_type bytes ∷ [])) ∷ []) ≡ 8 + length bytes + padding_of (length bytes)
unfolding parameter_bytes parameter_chunk_bytes
report_len bytes =
    omega (
      arith,
      length-append bytes (zeros (padding_of (4 + length bytes))),
      length-replicate {A = ℕ} (padding_of (4 + length bytes)) 0,
      length-append (parameter_bytes (as_parameter (unrecognized_chunk_type bytes))) [],
      length-append (chunk_bytes (chunk_out (plain (error_of (unrecognized_chunk_type bytes ∷ []))))) [],
    )

-- as much of the chunk as leaves the limit, which is a multiple of 4
report_fits : (limit : ℕ) (e : Endpoint) (chunk : List ℕ) → AtLimit limit e → 12 + contents_len (plain (unknown_error e chunk) ∷ []) ≤ limit
report_fits limit e chunk h =
    let taken : List ℕ = take (packet_size_limit e.options - 20) chunk in
    let len = report_len taken in
    let few = length-take (packet_size_limit e.options - 20) chunk in
    omega (arith, len, few, h.0, h.1)

unknown_sizes : (limit : ℕ) (e : Endpoint) (core : Core) (type : ℕ) (chunk : List ℕ) (reported : Bool) → AtLimit limit e
    → TurnSizes limit (record (cond reported (unknown_chunk_outcome e core type chunk) (still e)) { following = after_unknown type })
unknown_sizes limit e core type chunk false h = (h, tt)
unknown_sizes limit e closed type chunk true h = (h, tt)
unknown_sizes limit e (cookie_wait my) type chunk true h = (h, tt)
unknown_sizes limit e (cookie_echoed my held cookie) type chunk true h = (h, (report_fits limit e chunk h, tt))
unknown_sizes limit e (open_in phase my held) type chunk true h = (h, (report_fits limit e chunk h, tt))

-- ---- an ERROR

error_sizes : (limit : ℕ) (e : Endpoint) (core : Core) (causes : List Cause) → AtLimit limit e → TurnSizes limit (error_outcome e core causes)
error_sizes limit e core causes h = by_error_outcome (TurnSizes limit) e core causes (h, tt) (h, tt) (h, tt)

-- ---- heartbeats

answer_sizes : (limit : ℕ) (e : Endpoint) (emission : Emission) → AtLimit limit e → TurnSizes limit (answers_with e emission)
answer_sizes limit e emission h = answered_by (TurnSizes limit) e emission (h, tt) (emits_sizes limit e [] emission h)

heartbeat_sizes : (limit : ℕ) (e : Endpoint) (core : Core) (parameters : List ParameterContent) → AtLimit limit e → TurnSizes limit (heartbeat_outcome e core parameters)
heartbeat_sizes limit e closed parameters h = (h, tt)
heartbeat_sizes limit e (cookie_wait my) parameters h = (h, tt)
heartbeat_sizes limit e (cookie_echoed my held cookie) parameters h = answer_sizes limit e (to_peer held (plain (heartbeat_ack parameters))) h
heartbeat_sizes limit e (open_in phase my held) parameters h = answer_sizes limit e (to_peer held (plain (heartbeat_ack parameters))) h

counted_sizes : (b : Bool) (limit : ℕ) (e : Endpoint) → AtLimit limit e → TurnSizes limit (cond b (still (endpoint_answered e)) (still e))
counted_sizes true limit e h = (h, tt)
counted_sizes false limit e h = (h, tt)

heartbeat_ack_sizes : (limit : ℕ) (e : Endpoint) (counter : Option ℕ) → AtLimit limit e → TurnSizes limit (heartbeat_ack_outcome e counter)
heartbeat_ack_sizes limit e None h = (h, tt)
heartbeat_ack_sizes limit e (Some counter) h = counted_sizes (counter == e.heartbeat_counter) limit e h

beat_sizes : (limit : ℕ) (e : Endpoint) (held : Held) → AtLimit limit e → TurnSizes limit (beat e held)
beat_sizes limit e held h = emits_sizes limit (beating e) [] (heartbeat_emission held (beating e).heartbeat_counter) h

interval_sizes : (limit : ℕ) (e : Endpoint) (core : Core) → AtLimit limit e → TurnSizes limit (interval_outcome e core)
interval_sizes limit e closed h = (h, tt)
interval_sizes limit e (cookie_wait my) h = (h, tt)
interval_sizes limit e (cookie_echoed my held cookie) h = beat_sizes limit (interval_expired e) held h
interval_sizes limit e (open_in phase my held) h = beat_sizes limit (interval_expired e) held h

-- ---- a request to reset streams again

request_sizes : (limit : ℕ) (e : Endpoint) (held : Held) (number : Option ℕ) (reset : RequestedReset) → AtLimit limit e → TurnSizes limit (request_emitted e held number reset)
request_sizes limit e held None reset h = (h, tt)
request_sizes limit e held (Some number) reset h = emits_sizes limit e [] (to_peer held (reset_request number reset)) h

renewed_sizes : (b : Bool) (limit : ℕ) (e : Endpoint) (held : Held) (number : ℕ) (request : Content) → fits e (to_peer held request) ≡ b → AtLimit limit e
    → TurnSizes limit (renewed_request_if_fitting b e held number request)
renewed_sizes true limit e held number request is h = packet_sizes true limit e [] (to_peer held request) is h
renewed_sizes false limit e held number request is h = (h, tt)

anew_sizes : (limit : ℕ) (e : Endpoint) (held : Held) (number : Option ℕ) (reset : RequestedReset) → AtLimit limit e → TurnSizes limit (request_renewed e held number reset)
anew_sizes limit e held None reset h = (h, tt)
anew_sizes limit e held (Some number) reset h =
    renewed_sizes (fits e (to_peer held (reset_request held.own_next (renewed_reset reset)))) limit e held number (reset_request held.own_next (renewed_reset reset)) refl h

unless_sizes : (b is_new : Bool) (limit : ℕ) (e : Endpoint) (held : Held) (reset : RequestedReset) → AtLimit limit e → TurnSizes limit (request_unless b is_new e held reset)
unless_sizes true is_new limit e held reset h = (h, tt)
unless_sizes false false limit e held reset h = request_sizes limit e held held.own_outstanding reset h
unless_sizes false true limit e held reset h = anew_sizes limit e held held.own_outstanding reset h

reconfiguration_sizes : (limit : ℕ) (e : Endpoint) (peer : Option Held) (request : Option OutstandingRequest) → AtLimit limit e → TurnSizes limit (reconfiguration_outcome e peer request)
reconfiguration_sizes limit e None request h = (h, tt)
reconfiguration_sizes limit e (Some held) None h = (h, tt)
reconfiguration_sizes limit e (Some held) (Some request) h =
    unless_sizes (is_exhausted e.options.max_retransmissions (request_errors e request)) (is_renewed e (Some request)) limit (request_expired e request) held (reset_again (Some request)) h

-- ---- each timer

pub timer_sizes : (limit : ℕ) (e : Endpoint) (timer : OwnTimer) (o : Outcome) → TimerTurn e timer o → AtLimit limit e → TurnSizes limit o
timer_sizes limit e acknowledgement_delay o turn h = subst (TurnSizes limit) (sym turn) (delay_sizes limit e e.queues.transfer h)
timer_sizes limit e retransmission o turn h = loss_sizes limit e e.queues.transfer o turn h
timer_sizes limit e heartbeat_interval o turn h = subst (TurnSizes limit) (sym turn) (interval_sizes limit e e.core h)
timer_sizes limit e heartbeat_timeout o turn h = subst (TurnSizes limit) (sym turn) (h, tt)
timer_sizes limit e reconfiguration o turn h = subst (TurnSizes limit) (sym turn) (reconfiguration_sizes limit e (held_by_core e.core) e.outstanding h)

-- ---- RE-CONFIG

-- No event of a reset is a packet.
told_short : (limit : ℕ) (theirs own : List ℕ) (es : List Effect) → AreResets es → AllShort limit (reset_events theirs own es)
told_short limit theirs own _ nothing = tt
told_short limit theirs own _ (acceptance number es are) = told_short limit theirs own es are
told_short limit theirs own _ (performance peer number es are) = told_short limit theirs own es are
told_short limit theirs own _ (renewal peer number es are) = told_short limit theirs own es are
told_short limit theirs own _ (completion my number es are) = told_short limit theirs own es are
told_short limit theirs own _ (failure number es are) = told_short limit theirs own es are

response_sizes : (limit : ℕ) (e : Endpoint) (held : Held) (responses : List ResetParameter) → AtLimit limit e → TurnSizes limit (responses_outcome e held responses)
response_sizes limit e held [] h = (h, tt)
response_sizes limit e held (response ∷ responses) h = answer_sizes limit e (to_peer held (re_config (response ∷ responses))) h

sent_sizes : (refused : Bool) (limit : ℕ) (e : Endpoint) (told : List (Event Emission)) (held : Held) (parameters responses : List ResetParameter) (answers : List Answer)
    → ResponseAnswers refused e held responses answers → AtLimit limit e → AllShort limit told → TurnSizes limit (responses_unless_refused refused e told held parameters responses answers)
sent_sizes true limit e told held parameters responses answers allowed h before = (h, short_append limit told _ before tt)
sent_sizes false limit e told held parameters responses answers allowed h before =
    let first : TurnSizes limit (responses_outcome e held responses) = response_sizes limit e held responses h in
    let sent : Outcome = responses_outcome e held responses in
    let flushed : TurnSizes limit (flush_of sent.after (draft_to held) answers) = flush_sizes limit sent.after (draft_to held) answers allowed first.0 (omega (arith, h.1)) in (
      flushed.0,
      short_append limit (told ++ sent.events) (flush_of sent.after (draft_to held) answers).events (short_append limit told sent.events before first.1) flushed.1,
    )

works_sizes : (limit : ℕ) (e : Endpoint) (my : Pair) (held : Held) (parameters : List ResetParameter) (o : Outcome) → HandlesResets e my held parameters o → AtLimit limit e → TurnSizes limit o
works_sizes limit e my held parameters o turn h =
    let w : HandledParameters = handled_parameters_of e my held parameters in
    let brought = chunk_brings my (request_state e held parameters) held parameters in
    let answer : OwnAnswer = answer_to_own held w parameters in
    let kept = worked_keeps e answer w.held turn.left (renewable_left e held w parameters) in
    subst (TurnSizes limit) (sym turn.is)
    (sent_sizes w.is_refused limit (resets_handled e answer w.held turn.left (renewable_left e held w parameters)) (reset_events_of e parameters w.effects) w.held parameters w.answers turn.answers turn.allowed
    (subst (λ (o : Options). packet_size_limit o ≡ limit) (sym kept.options) h.0, h.1) (told_short limit _ _ w.effects brought.are))

pub reset_sizes : (limit : ℕ) (e : Endpoint) (core : Core) (parameters : List ResetParameter) (o : Outcome) → ResetTurn e core parameters o → AtLimit limit e → TurnSizes limit o
reset_sizes limit e closed parameters o turn h = subst (TurnSizes limit) (sym turn) (h, tt)
reset_sizes limit e (cookie_wait my) parameters o turn h = subst (TurnSizes limit) (sym turn) (h, tt)
reset_sizes limit e (cookie_echoed my held cookie) parameters o turn h = works_sizes limit e my held parameters o turn h
reset_sizes limit e (open_in phase my held) parameters o turn h = works_sizes limit e my held parameters o turn h

-- ---- each

plain_by : (limit : ℕ) (e : Endpoint) (chunk : Plain) (violation : Option Violation) (o : Outcome) → PlainTurnUnlessViolating e chunk violation o → AtLimit limit e → TurnSizes limit o
plain_by limit e chunk (Some violation) o turn h = subst (TurnSizes limit) (sym turn) (aborting_sizes limit e e.core (reasons.Violation violation) h)
plain_by limit e (unknown type flags value) None o turn h = subst (TurnSizes limit) (sym turn) (unknown_sizes limit e e.core type (unknown_bytes type flags value) (is_reported type) h)
plain_by limit e (heartbeat parameters) None o turn h = subst (TurnSizes limit) (sym turn) (heartbeat_sizes limit e e.core parameters h)
plain_by limit e (heartbeat_ack parameters) None o turn h = subst (TurnSizes limit) (sym turn) (heartbeat_ack_sizes limit e (counter_of (first_heartbeat_info parameters)) h)
plain_by limit e (unworked (data_chunk chunk)) None o turn h = data_sizes limit e (data_arrival chunk) o turn h
plain_by limit e (unworked (i_data_chunk chunk)) None o turn h = data_sizes limit e (i_data_arrival chunk) o turn h
plain_by limit e (unworked (sack_chunk chunk)) None o turn h = sack_sizes limit e e.queues.transfer chunk o turn h
plain_by limit e (unworked (forward_tsn_chunk tsn streams)) None o turn h = forward_sizes limit e e.queues.transfer tsn (named_skips streams) o turn h
plain_by limit e (unworked (i_forward_tsn_chunk tsn streams)) None o turn h = forward_sizes limit e e.queues.transfer tsn (skipped_messages streams) o turn h
plain_by limit e (unworked (error_chunk causes)) None o turn h = subst (TurnSizes limit) (sym turn) (error_sizes limit e e.core causes h)
plain_by limit e (unworked chunk) None o turn h = subst (TurnSizes limit) (sym turn) (h, tt)

pub plain_sizes : (limit : ℕ) (e : Endpoint) (chunk : Plain) (o : Outcome) → PlainTurn e chunk o → AtLimit limit e → TurnSizes limit o
plain_sizes limit e chunk o turn h = plain_by limit e chunk (violation_by_core e.core chunk) o turn h
