-- The turns of RE-CONFIG, of chunks that concern no association, and of timers, keep what the moves of a transfer layer keep.
use Rattle.std.proofs.Common.{◌==◌, ℕ, Bool, true, false, cond, Option, None, Some, List, [], ◌∷◌, inl, inr, sym, subst}
use Rattle.std.specs.Option.{option_map}
use Rattle.dcsctp_spec_lemmas.specs.wire.Content.{ParameterContent, data_chunk, sack_chunk, error_chunk, i_data_chunk, forward_tsn_chunk, i_forward_tsn_chunk}
use Rattle.dcsctp_spec_lemmas.specs.types.declared.association.Held.{Held}
use Rattle.dcsctp_spec_lemmas.specs.types.declared.association.Pair.{Pair}
use Rattle.dcsctp_spec_lemmas.specs.types.declared.ends.AbortReason.TheVariants as reasons
use Rattle.dcsctp_spec_lemmas.specs.types.declared.ends.Violation.{Violation}
use Rattle.dcsctp_spec_lemmas.specs.types.declared.options.Options.{Options}
use Rattle.dcsctp_spec_lemmas.specs.spec.Packet.{Plain, plain, unknown, heartbeat, heartbeat_ack, unworked, Content, Emission, re_config}
use Rattle.dcsctp_spec_lemmas.specs.spec.Reconfiguration.{NumberedReset, RequestedReset, ResetParameter, renewed_reset}
use Rattle.dcsctp_spec_lemmas.specs.spec.association.FlushChanges.{reset_request}
use Rattle.dcsctp_spec_lemmas.specs.spec.association.ResetChanges.{HandledParameters}
use Rattle.dcsctp_spec_lemmas.specs.spec.endpoint.Cause.{Cause}
use Rattle.dcsctp_spec_lemmas.specs.spec.endpoint.Endpoint.{Endpoint, Core, closed, cookie_wait, cookie_echoed, open_in, shutdown_received, OutstandingRequest, held_by_core}
use Rattle.dcsctp_spec_lemmas.specs.spec.endpoint.Event.{Event}
use Rattle.dcsctp_spec_lemmas.specs.spec.endpoint.FlushOutcomes.{Answer, draft_to}
use Rattle.dcsctp_spec_lemmas.specs.spec.endpoint.HeardShutdown.{said_by_shutdown, ShutdownTurn}
use Rattle.dcsctp_spec_lemmas.specs.spec.endpoint.HeartbeatOutcomes.{heartbeat_outcome, first_heartbeat_info, counter_of, endpoint_answered, heartbeat_round_trip, heartbeat_ack_outcome, interval_expired, beating, heartbeat_emission, beat, interval_outcome, is_exhausted}
use Rattle.dcsctp_spec_lemmas.specs.spec.endpoint.Outcome.{Outcome, still, quiet, sends, fits, answers_with, to_peer}
use Rattle.dcsctp_spec_lemmas.specs.spec.endpoint.OwnTimers.{OwnTimer, acknowledgement_delay, retransmission, heartbeat_interval, heartbeat_timeout, reconfiguration, TimerTurn}
use Rattle.dcsctp_spec_lemmas.specs.spec.endpoint.PlainOutcomes.{PlainTurn, PlainTurnUnlessViolating, violation_by_core, is_reported, after_unknown, unknown_bytes, unknown_chunk_outcome, error_outcome}
use Rattle.dcsctp_spec_lemmas.specs.spec.endpoint.ReconfigurationOutcomes.{reset_again, request_emitted, renewed_request_if_fitting, request_renewed, request_unless, is_renewed, request_errors, request_expired, reconfiguration_outcome}
use Rattle.dcsctp_spec_lemmas.specs.spec.endpoint.ResetOutcomes.{handled_parameters_of, OwnAnswer, unanswered, retried, was_performed, has_failed, answer_to_own, reset_events_of, core_with, resets_handled, renewable_left, responses_outcome, responses_unless_refused, ResponseAnswers, ResetsInQueues, HandlesResets, ResetTurn, has_reset, answers_in_progress, first_reset_request}
use Rattle.dcsctp_spec_lemmas.specs.spec.endpoint.ShutdownOutcomes.{endpoint_in_phase}
use Rattle.dcsctp_spec_lemmas.specs.spec.endpoint.TransferMoves.{timed_transfer}
use Rattle.dcsctp_spec_lemmas.specs.spec.queues.Arrivals.{data_arrival, i_data_arrival, named_skips, skipped_messages}
use Rattle.dcsctp_spec_lemmas.specs.spec.queues.Transfer.{Transfer}
use Rattle.dcsctp_spec_lemmas.proofs.AbortLemmas.{by_error_outcome}
use Rattle.dcsctp_spec_lemmas.proofs.HeardShutdowns.{Heeds, heard}
use Rattle.dcsctp_spec_lemmas.proofs.OneAnswerLemmas.{answered_by}
use Rattle.dcsctp_theorem_transfer.proofs.Layers.{Keeps, HasPeer, LayerIs, EndpointIs, LeavesIt, with_peer, asking_has, flush_is}
use Rattle.dcsctp_theorem_transfer.proofs.DataTurns.{data_is, forward_is, sack_is, acknowledges_is, delay_is, loss_is}
use Rattle.dcsctp_theorem_transfer.proofs.Handshakes.{aborting_is}
use Rattle.dcsctp_theorem_transfer.proofs.Shutdowns.{shutdown_is}

-- The chunk brings data, or says that none will come. Or the delay of an acknowledgement is over.
abbrev pub IsMild : Type 0 → Plain → Type 0
IsMild Receives (unworked (data_chunk chunk)) = Receives
IsMild Receives (unworked (i_data_chunk chunk)) = Receives
IsMild Receives (unworked (forward_tsn_chunk tsn streams)) = Receives
IsMild Receives (unworked (i_forward_tsn_chunk tsn streams)) = Receives
IsMild Receives chunk = Unit {0}

abbrev pub IsMildTimer : Type 0 → OwnTimer → Type 0
IsMildTimer Delays acknowledgement_delay = Delays
IsMildTimer Delays timer = Unit {0}

module _ (Receives Delays Restores : Type 0) (Before Good : Options → Transfer → Type 0) (keeps : Keeps Receives Delays Restores Before Good) where
  -- ---- a packet, or an answer

  sent_is : (b : Bool) (e : Endpoint) (emission : Emission) → EndpointIs Good e → LeavesIt Good (cond b (sends e [] [] emission) (quiet e [] []))
  sent_is true e emission h = h
  sent_is false e emission h = h

  answer_is : (e : Endpoint) (emission : Emission) → EndpointIs Good e → LeavesIt Good (answers_with e emission)
  answer_is e emission h = answered_by (LeavesIt Good) e emission h (sent_is (fits e emission) e emission h)

  -- ---- RE-CONFIG

  -- what it does to a layer
  below_is : (performed in_progress : Bool) (reset : Option RequestedReset) (core : Core) (options : Options) (old new : Option Transfer) → ResetsInQueues performed in_progress reset old new
      → LayerIs Good core options old → LayerIs Good core options new
  below_is true in_progress (Some reset) core options (Some old) new does h =
      subst (LayerIs Good core options) (sym does.1) (h.0, subst (Good options) (sym does.2.rest) (keeps.resets options does.0.reassembly old h.1))
  below_is true in_progress (Some reset) core options None new does h = subst (LayerIs Good core options) (sym does) h
  below_is true in_progress None core options old new does h = subst (LayerIs Good core options) (sym does) h
  below_is false true (Some reset) core options (Some old) new does h = subst (LayerIs Good core options) (sym does) (h.0, keeps.resets options _ old h.1)
  below_is false true (Some reset) core options None new does h = subst (LayerIs Good core options) (sym does) h
  below_is false true None core options old new does h = subst (LayerIs Good core options) (sym does) h
  below_is false false reset core options old new does h = subst (LayerIs Good core options) (sym does) h

  with_has : (core : Core) (held : Held) → HasPeer core → HasPeer (core_with core held)
  with_has closed held has = has
  with_has (cookie_wait my) held has = has
  with_has (cookie_echoed my old cookie) held has = has
  with_has (open_in phase my old) held has = has

  handled_is : (e : Endpoint) (answer : OwnAnswer) (held : Held) (left : Option Transfer) (renewable : Option NumberedReset) → LayerIs Good e.core e.options left
      → EndpointIs Good (resets_handled e answer held left renewable)
  handled_is e unanswered held left renewable h = with_peer Good e.core (core_with e.core held) e.options left (with_has e.core held) h
  handled_is e retried held left renewable h = with_peer Good e.core (core_with e.core held) e.options left (with_has e.core held) h
  handled_is e was_performed held left renewable h = with_peer Good e.core (core_with e.core held) e.options left (with_has e.core held) h
  handled_is e has_failed held left renewable h = with_peer Good e.core (core_with e.core held) e.options left (with_has e.core held) h

  responses_is : (e : Endpoint) (held : Held) (responses : List ResetParameter) → EndpointIs Good e → LeavesIt Good (responses_outcome e held responses)
  responses_is e held [] h = h
  responses_is e held (response ∷ responses) h = answer_is e (to_peer held (re_config (response ∷ responses))) h

  unless_refused_is : (refused : Bool) (e : Endpoint) (told : List (Event Emission)) (held : Held) (parameters responses : List ResetParameter) (answers : List Answer)
      → ResponseAnswers refused e held responses answers → EndpointIs Good e → LeavesIt Good (responses_unless_refused refused e told held parameters responses answers)
  unless_refused_is true e told held parameters responses answers allowed h = h
  unless_refused_is false e told held parameters responses answers allowed h =
      flush_is Receives Delays Restores Before Good keeps (responses_outcome e held responses).after (draft_to held) answers allowed (responses_is e held responses h)

  resets_is : (e : Endpoint) (my : Pair) (held : Held) (parameters : List ResetParameter) (o : Outcome) → HandlesResets e my held parameters o → EndpointIs Good e → LeavesIt Good o
  resets_is e my held parameters o turn h =
      let w : HandledParameters = handled_parameters_of e my held parameters in
      let base : Endpoint = resets_handled e (answer_to_own held w parameters) w.held turn.left (renewable_left e held w parameters) in
      let left : LayerIs Good e.core e.options turn.left =
      below_is (has_reset w.effects) (answers_in_progress w.answers) (first_reset_request parameters) e.core e.options e.queues.transfer turn.left turn.below h in
      subst (LeavesIt Good) (sym turn.is)
      (unless_refused_is w.is_refused base (reset_events_of e parameters w.effects) w.held parameters w.answers turn.answers turn.allowed
      (handled_is e (answer_to_own held w parameters) w.held turn.left (renewable_left e held w parameters) left))

  pub reset_is : (e : Endpoint) (core : Core) (parameters : List ResetParameter) (o : Outcome) → ResetTurn e core parameters o → EndpointIs Good e → LeavesIt Good o
  reset_is e closed parameters o turn h = subst (LeavesIt Good) (sym turn) h
  reset_is e (cookie_wait my) parameters o turn h = subst (LeavesIt Good) (sym turn) h
  reset_is e (cookie_echoed my held cookie) parameters o turn h = resets_is e my held parameters o turn h
  reset_is e (open_in phase my held) parameters o turn h = resets_is e my held parameters o turn h

  -- ---- a SHUTDOWN, which may acknowledge

  heeds_is : (e : Endpoint) (tsn : ℕ) (o : Outcome) → Heeds e e.core tsn o → EndpointIs Good e → LeavesIt Good o
  heeds_is e tsn o heeds h =
      let there : LayerIs Good e.core e.options (Some heeds.transfer) = subst (LayerIs Good e.core e.options) heeds.stands h in
      acknowledges_is Receives Delays Restores Before Good keeps (endpoint_in_phase e shutdown_received heeds.my heeds.held) heeds.held heeds.transfer
      (said_by_shutdown tsn heeds.transfer.retransmission) o heeds.acknowledges (tt, there.1)

  pub heard_is : (e : Endpoint) (tsn : ℕ) (o : Outcome) → ShutdownTurn e e.core tsn o → EndpointIs Good e → LeavesIt Good o
  heard_is e tsn o turn h =
      elim (heard e e.core tsn o turn) [ inl rests ↦ subst (LeavesIt Good) (sym rests) (shutdown_is Good e e.core h) | inr heeds ↦ heeds_is e tsn o heeds h ]

  -- ---- chunks that concern no association

  unknown_is : (e : Endpoint) (core : Core) (type : ℕ) (chunk : List ℕ) (reported : Bool) → EndpointIs Good e
      → LeavesIt Good (record (cond reported (unknown_chunk_outcome e core type chunk) (still e)) { following = after_unknown type })
  unknown_is e core type chunk false h = h
  unknown_is e closed type chunk true h = h
  unknown_is e (cookie_wait my) type chunk true h = h
  unknown_is e (cookie_echoed my held cookie) type chunk true h = h
  unknown_is e (open_in phase my held) type chunk true h = h

  error_is : (e : Endpoint) (core : Core) (causes : List Cause) → EndpointIs Good e → LeavesIt Good (error_outcome e core causes)
  error_is e core causes h = by_error_outcome (LeavesIt Good) e core causes tt h h

  heartbeat_is : (e : Endpoint) (core : Core) (parameters : List ParameterContent) → EndpointIs Good e → LeavesIt Good (heartbeat_outcome e core parameters)
  heartbeat_is e closed parameters h = h
  heartbeat_is e (cookie_wait my) parameters h = h
  heartbeat_is e (cookie_echoed my held cookie) parameters h = answer_is e (to_peer held (plain (heartbeat_ack parameters))) h
  heartbeat_is e (open_in phase my held) parameters h = answer_is e (to_peer held (plain (heartbeat_ack parameters))) h

  timed_is : (core : Core) (options : Options) (round_trip : Option ℕ) (t : Option Transfer) → LayerIs Good core options t
      → LayerIs Good core options (option_map (timed_transfer round_trip) t)
  timed_is core options round_trip None h = tt
  timed_is core options round_trip (Some t) h = (h.0, keeps.times options round_trip t h.1)

  counted_is : (b : Bool) (e : Endpoint) → EndpointIs Good e → LeavesIt Good (cond b (still (endpoint_answered e)) (still e))
  counted_is true e h = timed_is e.core e.options (heartbeat_round_trip e) e.queues.transfer h
  counted_is false e h = h

  heartbeat_ack_is : (e : Endpoint) (counter : Option ℕ) → EndpointIs Good e → LeavesIt Good (heartbeat_ack_outcome e counter)
  heartbeat_ack_is e None h = h
  heartbeat_ack_is e (Some counter) h = counted_is (counter == e.heartbeat_counter) e h

  plain_by : (e : Endpoint) (chunk : Plain) (violation : Option Violation) (o : Outcome) → IsMild Receives chunk → PlainTurnUnlessViolating e chunk violation o → EndpointIs Good e
      → LeavesIt Good o
  plain_by e chunk (Some violation) o may turn h = subst (LeavesIt Good) (sym turn) (aborting_is Receives Delays Restores Before Good keeps e e.core (reasons.Violation violation) h)
  plain_by e (unknown type flags value) None o may turn h = subst (LeavesIt Good) (sym turn) (unknown_is e e.core type (unknown_bytes type flags value) (is_reported type) h)
  plain_by e (heartbeat parameters) None o may turn h = subst (LeavesIt Good) (sym turn) (heartbeat_is e e.core parameters h)
  plain_by e (heartbeat_ack parameters) None o may turn h = subst (LeavesIt Good) (sym turn) (heartbeat_ack_is e (counter_of (first_heartbeat_info parameters)) h)
  plain_by e (unworked (data_chunk chunk)) None o may turn h = data_is Receives Delays Restores Before Good keeps may e (data_arrival chunk) o turn h
  plain_by e (unworked (i_data_chunk chunk)) None o may turn h = data_is Receives Delays Restores Before Good keeps may e (i_data_arrival chunk) o turn h
  plain_by e (unworked (sack_chunk chunk)) None o may turn h = sack_is Receives Delays Restores Before Good keeps e e.queues.transfer chunk o turn h h
  plain_by e (unworked (forward_tsn_chunk tsn streams)) None o may turn h = forward_is Receives Delays Restores Before Good keeps may e e.queues.transfer tsn (named_skips streams) o turn h h
  plain_by e (unworked (i_forward_tsn_chunk tsn streams)) None o may turn h = forward_is Receives Delays Restores Before Good keeps may e e.queues.transfer tsn (skipped_messages streams) o turn h h
  plain_by e (unworked (error_chunk causes)) None o may turn h = subst (LeavesIt Good) (sym turn) (error_is e e.core causes h)
  plain_by e (unworked chunk) None o may turn h = subst (LeavesIt Good) (sym turn) h

  pub plain_is : (e : Endpoint) (chunk : Plain) (o : Outcome) → IsMild Receives chunk → PlainTurn e chunk o → EndpointIs Good e → LeavesIt Good o
  plain_is e chunk o may turn h = plain_by e chunk (violation_by_core e.core chunk) o may turn h

  -- ---- a HEARTBEAT, and a request to reset streams again

  beat_is : (e : Endpoint) (held : Held) → EndpointIs Good e → LeavesIt Good (beat e held)
  beat_is e held h = sent_is (fits (beating e) (heartbeat_emission held (beating e).heartbeat_counter)) (beating e) (heartbeat_emission held (beating e).heartbeat_counter) h

  interval_is : (e : Endpoint) (core : Core) → EndpointIs Good e → LeavesIt Good (interval_outcome e core)
  interval_is e closed h = h
  interval_is e (cookie_wait my) h = h
  interval_is e (cookie_echoed my held cookie) h = beat_is (interval_expired e) held h
  interval_is e (open_in phase my held) h = beat_is (interval_expired e) held h

  request_is : (e : Endpoint) (held : Held) (number : Option ℕ) (reset : RequestedReset) → EndpointIs Good e → LeavesIt Good (request_emitted e held number reset)
  request_is e held None reset h = h
  request_is e held (Some number) reset h = sent_is (fits e (to_peer held (reset_request number reset))) e (to_peer held (reset_request number reset)) h

  fitting_is : (b : Bool) (e : Endpoint) (held : Held) (number : ℕ) (request : Content) → EndpointIs Good e → LeavesIt Good (renewed_request_if_fitting b e held number request)
  fitting_is true e held number request h = with_peer Good e.core _ e.options e.queues.transfer (asking_has e.core) h
  fitting_is false e held number request h = h

  renewed_is : (e : Endpoint) (held : Held) (number : Option ℕ) (reset : RequestedReset) → EndpointIs Good e → LeavesIt Good (request_renewed e held number reset)
  renewed_is e held None reset h = h
  renewed_is e held (Some number) reset h =
      fitting_is (fits e (to_peer held (reset_request held.own_next (renewed_reset reset)))) e held number (reset_request held.own_next (renewed_reset reset)) h

  unless_is : (b is_new : Bool) (e : Endpoint) (held : Held) (reset : RequestedReset) → EndpointIs Good e → LeavesIt Good (request_unless b is_new e held reset)
  unless_is true is_new e held reset h = h
  unless_is false false e held reset h = request_is e held held.own_outstanding reset h
  unless_is false true e held reset h = renewed_is e held held.own_outstanding reset h

  again_is : (e : Endpoint) (peer : Option Held) (request : Option OutstandingRequest) → EndpointIs Good e → LeavesIt Good (reconfiguration_outcome e peer request)
  again_is e None request h = h
  again_is e (Some held) None h = h
  again_is e (Some held) (Some request) h =
      unless_is (is_exhausted e.options.max_retransmissions (request_errors e request)) (is_renewed e (Some request)) (request_expired e request) held (reset_again (Some request)) h

  -- ---- each timer

  pub timer_is : (e : Endpoint) (timer : OwnTimer) (o : Outcome) → IsMildTimer Delays timer → TimerTurn e timer o → EndpointIs Good e → LeavesIt Good o
  timer_is e acknowledgement_delay o may turn h = subst (LeavesIt Good) (sym turn) (delay_is Receives Delays Restores Before Good keeps may e e.queues.transfer h h)
  timer_is e retransmission o may turn h = loss_is Receives Delays Restores Before Good keeps e e.queues.transfer o turn h h
  timer_is e heartbeat_interval o may turn h = subst (LeavesIt Good) (sym turn) (interval_is e e.core h)
  timer_is e heartbeat_timeout o may turn h = subst (LeavesIt Good) (sym turn) h
  timer_is e reconfiguration o may turn h = subst (LeavesIt Good) (sym turn) (again_is e (held_by_core e.core) e.outstanding h)
