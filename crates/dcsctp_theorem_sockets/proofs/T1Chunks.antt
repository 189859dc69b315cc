-- Chunks that concern no association, and timers, leave T1 running where the association connects.
use Rattle.std.proofs.Common.{◌==◌, ℕ, Bool, true, false, cond, Option, None, Some, List, [], sym, subst}
use Rattle.dcsctp_spec_lemmas.specs.types.declared.ends.Violation.{Violation}
use Rattle.dcsctp_spec_lemmas.specs.types.declared.ends.AbortReason.TheVariants as reasons
use Rattle.dcsctp_spec_lemmas.specs.spec.Packet.{Plain, plain, unknown, heartbeat, heartbeat_ack, unworked, Content, Emission}
use Rattle.dcsctp_spec_lemmas.specs.spec.endpoint.Endpoint.{Endpoint, Core, closed, cookie_wait, cookie_echoed, open_in, OutstandingRequest, held_by_core}
use Rattle.dcsctp_spec_lemmas.specs.spec.endpoint.Outcome.{Outcome, still, quiet, sends, fits, answers_with, to_peer}
use Rattle.dcsctp_spec_lemmas.specs.types.declared.association.Held.{Held}
use Rattle.dcsctp_spec_lemmas.specs.spec.endpoint.Cause.{Cause}
use Rattle.dcsctp_spec_lemmas.specs.wire.Content.{ParameterContent, data_chunk, sack_chunk, error_chunk, i_data_chunk, forward_tsn_chunk, i_forward_tsn_chunk}
use Rattle.dcsctp_spec_lemmas.specs.spec.endpoint.HeartbeatOutcomes.{heartbeat_outcome, first_heartbeat_info, counter_of, endpoint_answered, heartbeat_ack_outcome, interval_expired, beating, heartbeat_emission, beat, interval_outcome, is_exhausted}
use Rattle.dcsctp_spec_lemmas.specs.spec.endpoint.OwnTimers.{OwnTimer, acknowledgement_delay, retransmission, heartbeat_interval, heartbeat_timeout, reconfiguration, TimerTurn}
use Rattle.dcsctp_spec_lemmas.specs.spec.endpoint.ReconfigurationOutcomes.{reset_again, request_emitted, renewed_request_if_fitting, request_renewed, request_unless, is_renewed, request_errors, request_expired, reconfiguration_outcome}
use Rattle.dcsctp_spec_lemmas.specs.spec.Reconfiguration.{RequestedReset, renewed_reset}
use Rattle.dcsctp_spec_lemmas.specs.spec.association.FlushChanges.{reset_request}
use Rattle.dcsctp_spec_lemmas.specs.spec.endpoint.PlainOutcomes.{PlainTurn, PlainTurnUnlessViolating, violation_by_core, is_reported, after_unknown, unknown_bytes, unknown_chunk_outcome, error_outcome}
use Rattle.dcsctp_spec_lemmas.specs.spec.queues.Arrivals.{data_arrival, i_data_arrival, named_skips, skipped_messages}
use Rattle.dcsctp_spec_lemmas.proofs.AbortLemmas.{by_error_outcome}
use Rattle.dcsctp_spec_lemmas.proofs.OneAnswerLemmas.{answered_by}
use Rattle.dcsctp_theorem_sockets.proofs.BegunSends.{asking_runs}
use Rattle.dcsctp_theorem_sockets.proofs.T1Data.{data_up, forward_up, sack_up, delay_up, loss_up}
use Rattle.dcsctp_theorem_sockets.proofs.T1Turns.{Up, UpAfter, aborting_up}

unknown_up : (e : Endpoint) (core : Core) (type : ℕ) (chunk : List ℕ) (reported : Bool) → Up e
    → UpAfter (record (cond reported (unknown_chunk_outcome e core type chunk) (still e)) { following = after_unknown type })
unknown_up e core type chunk false h = h
unknown_up e closed type chunk true h = h
unknown_up e (cookie_wait my) type chunk true h = h
unknown_up e (cookie_echoed my held cookie) type chunk true h = h
unknown_up e (open_in phase my held) type chunk true h = h

-- ---- an ERROR

error_up : (e : Endpoint) (core : Core) (causes : List Cause) → Up e → UpAfter (error_outcome e core causes)
error_up e core causes h = by_error_outcome UpAfter e core causes tt h h

-- ---- heartbeats

sent_up : (b : Bool) (e : Endpoint) (emission : Emission) → Up e → UpAfter (cond b (sends e [] [] emission) (quiet e [] []))
sent_up true e emission h = h
sent_up false e emission h = h

answer_up : (e : Endpoint) (emission : Emission) → Up e → UpAfter (answers_with e emission)
answer_up e emission h = answered_by UpAfter e emission h (sent_up (fits e emission) e emission h)

heartbeat_up : (e : Endpoint) (core : Core) (parameters : List ParameterContent) → Up e → UpAfter (heartbeat_outcome e core parameters)
heartbeat_up e closed parameters h = h
heartbeat_up e (cookie_wait my) parameters h = h
heartbeat_up e (cookie_echoed my held cookie) parameters h = answer_up e (to_peer held (plain (heartbeat_ack parameters))) h
heartbeat_up e (open_in phase my held) parameters h = answer_up e (to_peer held (plain (heartbeat_ack parameters))) h

counted_up : (b : Bool) (e : Endpoint) → Up e → UpAfter (cond b (still (endpoint_answered e)) (still e))
counted_up true e h = h
counted_up false e h = h

heartbeat_ack_up : (e : Endpoint) (counter : Option ℕ) → Up e → UpAfter (heartbeat_ack_outcome e counter)
heartbeat_ack_up e None h = h
heartbeat_ack_up e (Some counter) h = counted_up (counter == e.heartbeat_counter) e h

beat_up : (e : Endpoint) (held : Held) → Up e → UpAfter (beat e held)
beat_up e held h = sent_up (fits (beating e) (heartbeat_emission held (beating e).heartbeat_counter)) (beating e) (heartbeat_emission held (beating e).heartbeat_counter) h

interval_up : (e : Endpoint) (core : Core) → Up e → UpAfter (interval_outcome e core)
interval_up e closed h = h
interval_up e (cookie_wait my) h = h
interval_up e (cookie_echoed my held cookie) h = beat_up (interval_expired e) held h
interval_up e (open_in phase my held) h = beat_up (interval_expired e) held h

-- ---- a request to reset streams again

request_up : (e : Endpoint) (held : Held) (number : Option ℕ) (reset : RequestedReset) → Up e → UpAfter (request_emitted e held number reset)
request_up e held None reset h = h
request_up e held (Some number) reset h = sent_up (fits e (to_peer held (reset_request number reset))) e (to_peer held (reset_request number reset)) h

renewed_up : (b : Bool) (e : Endpoint) (held : Held) (number : ℕ) (request : Content) → Up e → UpAfter (renewed_request_if_fitting b e held number request)
renewed_up true e held number request h = asking_runs e.core e.timers.t1 h
renewed_up false e held number request h = h

anew_up : (e : Endpoint) (held : Held) (number : Option ℕ) (reset : RequestedReset) → Up e → UpAfter (request_renewed e held number reset)
anew_up e held None reset h = h
anew_up e held (Some number) reset h = renewed_up (fits e (to_peer held (reset_request held.own_next (renewed_reset reset)))) e held number (reset_request held.own_next (renewed_reset reset)) h

unless_up : (b is_new : Bool) (e : Endpoint) (held : Held) (reset : RequestedReset) → Up e → UpAfter (request_unless b is_new e held reset)
unless_up true is_new e held reset h = h
unless_up false false e held reset h = request_up e held held.own_outstanding reset h
unless_up false true e held reset h = anew_up e held held.own_outstanding reset h

reconfiguration_up : (e : Endpoint) (peer : Option Held) (request : Option OutstandingRequest) → Up e → UpAfter (reconfiguration_outcome e peer request)
reconfiguration_up e None request h = h
reconfiguration_up e (Some held) None h = h
reconfiguration_up e (Some held) (Some request) h =
    unless_up (is_exhausted e.options.max_retransmissions (request_errors e request)) (is_renewed e (Some request)) (request_expired e request) held (reset_again (Some request)) h

-- ---- each timer

pub timer_up : (e : Endpoint) (timer : OwnTimer) (o : Outcome) → TimerTurn e timer o → Up e → UpAfter o
timer_up e acknowledgement_delay o turn h = subst UpAfter (sym turn) (delay_up e e.queues.transfer h)
timer_up e retransmission o turn h = loss_up e e.queues.transfer o turn h
timer_up e heartbeat_interval o turn h = subst UpAfter (sym turn) (interval_up e e.core h)
timer_up e heartbeat_timeout o turn h = subst UpAfter (sym turn) h
timer_up e reconfiguration o turn h = subst UpAfter (sym turn) (reconfiguration_up e (held_by_core e.core) e.outstanding h)

-- ---- each

plain_by : (e : Endpoint) (chunk : Plain) (violation : Option Violation) (o : Outcome) → PlainTurnUnlessViolating e chunk violation o → Up e → UpAfter o
plain_by e chunk (Some violation) o turn h = subst UpAfter (sym turn) (aborting_up e e.core (reasons.Violation violation) h)
plain_by e (unknown type flags value) None o turn h = subst UpAfter (sym turn) (unknown_up e e.core type (unknown_bytes type flags value) (is_reported type) h)
plain_by e (heartbeat parameters) None o turn h = subst UpAfter (sym turn) (heartbeat_up e e.core parameters h)
plain_by e (heartbeat_ack parameters) None o turn h = subst UpAfter (sym turn) (heartbeat_ack_up e (counter_of (first_heartbeat_info parameters)) h)
plain_by e (unworked (data_chunk chunk)) None o turn h = data_up e (data_arrival chunk) o turn h
plain_by e (unworked (i_data_chunk chunk)) None o turn h = data_up e (i_data_arrival chunk) o turn h
plain_by e (unworked (sack_chunk chunk)) None o turn h = sack_up e e.queues.transfer chunk o turn h
plain_by e (unworked (forward_tsn_chunk tsn streams)) None o turn h = forward_up e e.queues.transfer tsn (named_skips streams) o turn h
plain_by e (unworked (i_forward_tsn_chunk tsn streams)) None o turn h = forward_up e e.queues.transfer tsn (skipped_messages streams) o turn h
plain_by e (unworked (error_chunk causes)) None o turn h = subst UpAfter (sym turn) (error_up e e.core causes h)
plain_by e (unworked chunk) None o turn h = subst UpAfter (sym turn) h

pub plain_up : (e : Endpoint) (chunk : Plain) (o : Outcome) → PlainTurn e chunk o → Up e → UpAfter o
plain_up e chunk o turn h = plain_by e chunk (violation_by_core e.core chunk) o turn h
