-- Each turn in which no RE-CONFIG is handled: no request of the peer is accepted or performed.
use Rattle.std.specs.Option.{option_map}
use Rattle.dcsctp_spec_lemmas.specs.types.declared.ends.AbortReason.TheVariants as reasons
use Rattle.std.proofs.Common.{◌==◌, inl, ℕ, Bool, true, false, cond, Option, None, Some, List, [], refl, sym, subst}
use Rattle.dcsctp_spec_lemmas.specs.wire.Content.{ParameterContent, data_chunk, sack_chunk, error_chunk, i_data_chunk, forward_tsn_chunk, i_forward_tsn_chunk}
use Rattle.dcsctp_spec_lemmas.specs.spec.endpoint.Cause.{Cause}
use Rattle.dcsctp_spec_lemmas.specs.spec.Cookie.{cookie_of_bytes}
use Rattle.dcsctp_spec_lemmas.specs.types.declared.association.Held.{Held}
use Rattle.dcsctp_spec_lemmas.specs.types.declared.ends.Violation.{Violation}
use Rattle.dcsctp_spec_lemmas.specs.spec.endpoint.Endpoint.{Endpoint, Core, closed, cookie_wait, cookie_echoed, open_in, OutstandingRequest, held_by_core}
use Rattle.dcsctp_spec_lemmas.specs.spec.endpoint.Outcome.{Outcome, still, fits, emits, answering, answers_with, to_peer, quiet}
use Rattle.dcsctp_spec_lemmas.specs.spec.Packet.{Content, init, init_ack, cookie_echo, cookie_ack, re_config, abort, shutdown, shutdown_ack, shutdown_complete, Plain, plain, unknown, heartbeat, heartbeat_ack, unworked, Emission}
use Rattle.dcsctp_spec_lemmas.specs.spec.Reconfiguration.{NumberedReset, RequestedReset, renewed_reset}
use Rattle.dcsctp_spec_lemmas.specs.spec.endpoint.Turn.{Input, arrival, refusal, packet_begins, chunk_input, packet_ends, act_input, user_sets, user_sends, user_resets, user_takes, timer_expires, time_passes, restores, has_data_chunk, ContentTurn, ActTurn, Turn}
use Rattle.dcsctp_spec_lemmas.specs.spec.association.Acts as acts
use Rattle.dcsctp_spec_lemmas.specs.spec.association.Acts.{Act, connect, t1_expires, shut_down, step_of_shutdown, shutdown_repeats, abort_with, hands_over, flushes, request_again}
use Rattle.dcsctp_spec_lemmas.specs.spec.association.FlushChanges.{reset_request}
use Rattle.dcsctp_spec_lemmas.specs.spec.queues.Arrivals.{data_arrival, i_data_arrival, named_skips, skipped_messages}
use Rattle.dcsctp_spec_lemmas.specs.spec.endpoint.HeartbeatOutcomes.{heartbeat_outcome, first_heartbeat_info, counter_of, endpoint_answered, heartbeat_round_trip, heartbeat_ack_outcome, interval_expired, beating, heartbeat_emission, interval_outcome, is_exhausted}
use Rattle.dcsctp_spec_lemmas.specs.spec.endpoint.OwnTimers.{OwnTimer, acknowledgement_delay, retransmission, heartbeat_interval, heartbeat_timeout, reconfiguration, TimerTurn}
use Rattle.dcsctp_spec_lemmas.specs.spec.endpoint.PlainOutcomes.{PlainTurnUnlessViolating, violation_by_core, is_reported, after_unknown, unknown_bytes, unknown_chunk_outcome, error_outcome}
use Rattle.dcsctp_spec_lemmas.specs.spec.endpoint.ReconfigurationOutcomes.{reset_again, request_emitted, renewed_request_if_fitting, request_renewed, is_renewed, request_repeated, request_unless, request_errors, request_expired, reconfiguration_outcome}
use Rattle.dcsctp_spec_lemmas.specs.spec.endpoint.ShutdownOutcomes.{endpoint_with_t2_continued}
use Rattle.dcsctp_spec_lemmas.specs.spec.endpoint.TimerOutcomes.{endpoint_with_t1_continued}
use Rattle.dcsctp_delivery_sockets.specs.turns.Actions.{IsCalm, IsCall, content_of_input}
use Rattle.dcsctp_delivery_sockets.proofs.turns.Unasked.{flush_asks, data_asks, forward_asks, sack_asks, end_asks, take_asks, delay_asks, loss_asks, send_asks, own_resets_ask}
use Rattle.dcsctp_spec_lemmas.specs.spec.endpoint.TransferMoves.{timed_transfer}
use Rattle.dcsctp_spec_lemmas.specs.spec.queues.Transfer.{Transfer}
use Rattle.dcsctp_spec_lemmas.proofs.AbortLemmas.{by_error_outcome}
use Rattle.dcsctp_spec_lemmas.proofs.OneAnswerLemmas.{answered_by, init_by}
use Rattle.dcsctp_delivery_sockets.specs.turns.PeerRequests.{SameWaits}
use Rattle.dcsctp_delivery_sockets.proofs.turns.Waiting.{StillWaits, same_waits, some_wait, all_wait, AsksNothing, as_this, rests, said, emitted, ended}
use Rattle.dcsctp_delivery_sockets.proofs.turns.UnaskedEnds.{step_asks, shut_down_asks, heard_asks, shutdown_ack_asks, shutdown_complete_asks, repeats_ask, begin_asks, abort_asks, aborting_asks, gives_up_asks, hand_over_asks}
use Rattle.dcsctp_delivery_sockets.proofs.turns.UnaskedHandshake.{CalmTurns, goes_on, init_asks, connect_asks, again_asks, cookie_ack_asks, init_ack_calm, echo_calm}
use Rattle.dcsctp_spec_lemmas.proofs.EarlyLemmas.{content_by}

-- ---- other chunks and timers

unknown_asks : (e : Endpoint) (core : Core) (type : ℕ) (chunk : List ℕ) (reported : Bool)
    → AsksNothing e.queues.transfer e.renewable (record (cond reported (unknown_chunk_outcome e core type chunk) (still e)) { following = after_unknown type })
unknown_asks e core type chunk false = said e _ tt refl refl
unknown_asks e closed type chunk true = said e _ tt refl refl
unknown_asks e (cookie_wait my) type chunk true = said e _ tt refl refl
unknown_asks e (cookie_echoed my held cookie) type chunk true = said e _ tt refl refl
unknown_asks e (open_in phase my held) type chunk true = said e _ tt refl refl

error_asks : (e : Endpoint) (core : Core) (causes : List Cause) → AsksNothing e.queues.transfer e.renewable (error_outcome e core causes)
error_asks e core causes =
    by_error_outcome (AsksNothing e.queues.transfer e.renewable) e core causes (ended e.queues.transfer e.renewable (quiet e [] []) _ tt) (said e _ tt refl refl) (rests e)

counted_asks : (found : Option Transfer) (old : Option NumberedReset) (o : Outcome) → AsksNothing found old o → AsksNothing found old (answering o)
counted_asks found old o h = record { none = h.none; waits = h.waits; renews = h.renews }

answer_asks : (e : Endpoint) (emission : Emission) → AsksNothing e.queues.transfer e.renewable (answers_with e emission)
answer_asks e emission =
    answered_by (AsksNothing e.queues.transfer e.renewable) e emission (rests e) (counted_asks e.queues.transfer e.renewable (emits e [] emission) (emitted e [] emission))

heartbeat_asks : (e : Endpoint) (core : Core) (parameters : List ParameterContent) → AsksNothing e.queues.transfer e.renewable (heartbeat_outcome e core parameters)
heartbeat_asks e closed parameters = rests e
heartbeat_asks e (cookie_wait my) parameters = rests e
heartbeat_asks e (cookie_echoed my held cookie) parameters = answer_asks e (to_peer held (plain (heartbeat_ack parameters)))
heartbeat_asks e (open_in phase my held) parameters = answer_asks e (to_peer held (plain (heartbeat_ack parameters)))

-- The answer to a HEARTBEAT may measure a round trip.
timed_waits : (round_trip : Option ℕ) (transfer : Transfer) → SameWaits transfer.reassembly.deferral (timed_transfer round_trip transfer).reassembly.deferral
timed_waits None transfer = same_waits transfer.reassembly.deferral
timed_waits (Some round_trip) transfer = same_waits transfer.reassembly.deferral

measured_waits : (found : Option Transfer) (round_trip : Option ℕ) → StillWaits found (option_map (timed_transfer round_trip) found)
measured_waits None round_trip = λ left is. absurd (cc)
measured_waits (Some transfer) round_trip = some_wait (Some transfer) transfer _ refl (timed_waits round_trip transfer)

answered_asks : (b : Bool) (e : Endpoint) → AsksNothing e.queues.transfer e.renewable (cond b (still (endpoint_answered e)) (still e))
answered_asks true e = record { none = tt; waits = measured_waits e.queues.transfer (heartbeat_round_trip e); renews = inl refl }
answered_asks false e = rests e

heartbeat_ack_asks : (e : Endpoint) (counter : Option ℕ) → AsksNothing e.queues.transfer e.renewable (heartbeat_ack_outcome e counter)
heartbeat_ack_asks e None = said e _ tt refl refl
heartbeat_ack_asks e (Some counter) = answered_asks (counter == e.heartbeat_counter) e

interval_asks : (e : Endpoint) (core : Core) → AsksNothing e.queues.transfer e.renewable (interval_outcome e core)
interval_asks e closed = said e _ tt refl refl
interval_asks e (cookie_wait my) = said e _ tt refl refl
interval_asks e (cookie_echoed my held cookie) = (let base : Endpoint = beating (interval_expired e) in emitted base [] (heartbeat_emission held base.heartbeat_counter))
interval_asks e (open_in phase my held) = (let base : Endpoint = beating (interval_expired e) in emitted base [] (heartbeat_emission held base.heartbeat_counter))

request_asks : (e : Endpoint) (held : Held) (number : Option ℕ) (reset : RequestedReset) → AsksNothing e.queues.transfer e.renewable (request_emitted e held number reset)
request_asks e held None reset = rests e
request_asks e held (Some number) reset = emitted e [] (to_peer held (reset_request number reset))

renewed_asks : (b : Bool) (e : Endpoint) (held : Held) (number : ℕ) (request : Content) → AsksNothing e.queues.transfer e.renewable (renewed_request_if_fitting b e held number request)
renewed_asks true e held number request = said e _ tt refl refl
renewed_asks false e held number request = rests e

renewing_asks : (e : Endpoint) (held : Held) (number : Option ℕ) (reset : RequestedReset) → AsksNothing e.queues.transfer e.renewable (request_renewed e held number reset)
renewing_asks e held None reset = rests e
renewing_asks e held (Some number) reset = (let request : Content = reset_request held.own_next (renewed_reset reset) in renewed_asks (fits e (to_peer held request)) e held number request)

repeated_asks : (is_new : Bool) (e : Endpoint) (held : Held) (reset : RequestedReset) → AsksNothing e.queues.transfer e.renewable (request_repeated is_new e held reset)
repeated_asks true e held reset = renewing_asks e held held.own_outstanding reset
repeated_asks false e held reset = request_asks e held held.own_outstanding reset

unless_asks : (b is_new : Bool) (e : Endpoint) (held : Held) (reset : RequestedReset) → AsksNothing e.queues.transfer e.renewable (request_unless b is_new e held reset)
unless_asks true is_new e held reset = rests e
unless_asks false is_new e held reset = repeated_asks is_new e held reset

reconfiguration_asks : (e : Endpoint) (peer : Option Held) (request : Option OutstandingRequest) → AsksNothing e.queues.transfer e.renewable (reconfiguration_outcome e peer request)
reconfiguration_asks e None request = said e _ tt refl refl
reconfiguration_asks e (Some held) None = said e _ tt refl refl
reconfiguration_asks e (Some held) (Some request) =
    unless_asks (is_exhausted e.options.max_retransmissions (request_errors e request)) (is_renewed e (Some request)) (request_expired e request) held (reset_again (Some request))

timer_asks : (e : Endpoint) (timer : OwnTimer) (o : Outcome) → TimerTurn e timer o → AsksNothing e.queues.transfer e.renewable o
timer_asks e acknowledgement_delay o turn = as_this e.queues.transfer e.renewable o _ turn (delay_asks e e.queues.transfer refl)
timer_asks e retransmission o turn = loss_asks e e.queues.transfer o refl turn
timer_asks e heartbeat_interval o turn = as_this e.queues.transfer e.renewable o _ turn (interval_asks e e.core)
timer_asks e heartbeat_timeout o turn = as_this e.queues.transfer e.renewable o _ turn (said e _ tt refl refl)
timer_asks e reconfiguration o turn = as_this e.queues.transfer e.renewable o _ turn (reconfiguration_asks e (held_by_core e.core) e.outstanding)

plain_asks : (e : Endpoint) (chunk : Plain) (violation : Option Violation) (o : Outcome) → PlainTurnUnlessViolating e chunk violation o → AsksNothing e.queues.transfer e.renewable o
plain_asks e chunk (Some violation) o turn = as_this e.queues.transfer e.renewable o _ turn (aborting_asks e e.core (reasons.Violation violation))
plain_asks e (unknown type flags value) None o turn = as_this e.queues.transfer e.renewable o _ turn (unknown_asks e e.core type (unknown_bytes type flags value) (is_reported type))
plain_asks e (heartbeat parameters) None o turn = as_this e.queues.transfer e.renewable o _ turn (heartbeat_asks e e.core parameters)
plain_asks e (heartbeat_ack parameters) None o turn = as_this e.queues.transfer e.renewable o _ turn (heartbeat_ack_asks e (counter_of (first_heartbeat_info parameters)))
plain_asks e (unworked (data_chunk chunk)) None o turn = data_asks e (data_arrival chunk) (data_arrival chunk).chunk.payload o turn
plain_asks e (unworked (i_data_chunk chunk)) None o turn = data_asks e (i_data_arrival chunk) (i_data_arrival chunk).chunk.payload o turn
plain_asks e (unworked (sack_chunk chunk)) None o turn = sack_asks e e.queues.transfer chunk o refl turn
plain_asks e (unworked (forward_tsn_chunk tsn streams)) None o turn = forward_asks e e.queues.transfer tsn (named_skips streams) o refl turn
plain_asks e (unworked (i_forward_tsn_chunk tsn streams)) None o turn = forward_asks e e.queues.transfer tsn (skipped_messages streams) o refl turn
plain_asks e (unworked (error_chunk causes)) None o turn = as_this e.queues.transfer e.renewable o _ turn (error_asks e e.core causes)
plain_asks e (unworked chunk) None o turn = as_this e.queues.transfer e.renewable o _ turn (rests e)

-- ---- each turn

content_calm : (e : Endpoint) (tag : ℕ) (content : Content) (o : Outcome) → IsCalm (Some content) → ContentTurn e tag content o → CalmTurns (Some content) e o
content_calm e tag (init theirs) o calm turn =
    goes_on (as_this e.queues.transfer e.renewable o _ turn.2
    (init_by (AsksNothing e.queues.transfer e.renewable) e theirs turn.0 turn.1 (rests e) (counted_asks e.queues.transfer e.renewable _ (init_asks e theirs e.core turn.0 turn.1))))
content_calm e tag (init_ack theirs cookie) o calm turn = subst (CalmTurns (Some (init_ack theirs cookie)) e) (sym turn.3) (init_ack_calm (Some (init_ack theirs cookie)) tt e theirs cookie e.core turn.0 turn.1 turn.2)
content_calm e tag (cookie_echo bytes) o calm turn = subst (CalmTurns (Some (cookie_echo bytes)) e) (sym turn.3) (echo_calm (Some (cookie_echo bytes)) tt e e.core tag (cookie_of_bytes bytes) turn.0 turn.1 refl turn.2)
content_calm e tag cookie_ack o calm turn = goes_on (as_this e.queues.transfer e.renewable o _ turn.2 (cookie_ack_asks e e.core turn.0 turn.1))
content_calm e tag (re_config parameters) o calm turn = absurd (calm parameters refl)
content_calm e tag (abort reflected causes) o calm turn = goes_on (as_this e.queues.transfer e.renewable o _ turn (abort_asks e causes e.core))
content_calm e tag (shutdown tsn) o calm turn = goes_on (heard_asks e e.core tsn o turn)
content_calm e tag shutdown_ack o calm turn = goes_on (as_this e.queues.transfer e.renewable o _ turn (shutdown_ack_asks e e.core tag))
content_calm e tag (shutdown_complete reflected) o calm turn = goes_on (as_this e.queues.transfer e.renewable o _ turn (shutdown_complete_asks e e.core))
content_calm e tag (plain chunk) o calm turn =
    content_by e tag (plain chunk) o (λ dropped. goes_on (as_this e.queues.transfer e.renewable o _ dropped (rests e)))
    (λ handled. goes_on (plain_asks e chunk (violation_by_core e.core chunk) o handled)) turn

act_asks : (e : Endpoint) (act : Act) (o : Outcome) → IsCall (act_input act) → ActTurn e act o → AsksNothing e.queues.transfer e.renewable o
act_asks e connect o may turn = as_this e.queues.transfer e.renewable o _ turn.2 (connect_asks e e.core turn.0 turn.1)
act_asks e (t1_expires true) o may turn = as_this e.queues.transfer e.renewable o _ turn.2 (again_asks (endpoint_with_t1_continued e) e.core turn.0 turn.1)
act_asks e (t1_expires false) o may turn = as_this e.queues.transfer e.renewable o _ turn (gives_up_asks e e.core)
act_asks e shut_down o may turn = as_this e.queues.transfer e.renewable o _ turn (shut_down_asks e e.core)
act_asks e step_of_shutdown o may turn = as_this e.queues.transfer e.renewable o _ turn (step_asks e e.core)
act_asks e shutdown_repeats o may turn = as_this e.queues.transfer e.renewable o _ turn (repeats_ask (endpoint_with_t2_continued e) e.core)
act_asks e (abort_with reason) o may turn = as_this e.queues.transfer e.renewable o _ turn (aborting_asks e e.core reason)
act_asks e hands_over o may turn = as_this e.queues.transfer e.renewable o _ turn (hand_over_asks e e.core)
act_asks e flushes o may turn = flush_asks e o turn
act_asks e (request_again reset) o may turn = absurd may
act_asks e (acts.request_renewed reset) o may turn = absurd may

pub calm_turns : (e : Endpoint) (input : Input) (o : Outcome) → IsCalm (content_of_input input) → IsCall input → Turn e input o → CalmTurns (content_of_input input) e o
calm_turns e arrival o calm may turn = goes_on (as_this e.queues.transfer e.renewable o _ turn (said e _ tt refl refl))
calm_turns e (refusal text) o calm may turn = goes_on (as_this e.queues.transfer e.renewable o _ turn (said e _ tt refl refl))
calm_turns e (packet_begins contents) o calm may turn = goes_on (begin_asks e e.core (has_data_chunk e.options.follow_rfc contents) o turn)
calm_turns e (chunk_input tag content) o calm may turn = content_calm e tag content o calm turn
calm_turns e packet_ends o calm may turn = goes_on (end_asks e e.queues.transfer o refl turn)
calm_turns e (act_input act) o calm may turn = goes_on (act_asks e act o may turn)
calm_turns e (user_sets setting) o calm may turn = goes_on (as_this e.queues.transfer e.renewable o _ turn (record { none = tt; waits = all_wait e.queues.transfer; renews = inl refl }))
calm_turns e (user_sends messages) o calm may turn = goes_on (send_asks e messages o turn)
calm_turns e (user_resets ids) o calm may turn = goes_on (own_resets_ask e ids o turn)
calm_turns e user_takes o calm may turn = goes_on (take_asks e e.queues.transfer o refl turn)
calm_turns e (timer_expires timer) o calm may turn = goes_on (timer_asks e timer o turn)
calm_turns e (time_passes moment) o calm may turn = goes_on (as_this e.queues.transfer e.renewable o _ turn (said e _ tt refl refl))
calm_turns e (restores state) o calm may turn = absurd may
