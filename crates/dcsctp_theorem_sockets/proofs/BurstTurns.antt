-- No turn sends more packets than its input allows.
use Rattle.std.proofs.Common.{◌≡◌, ◌≤◌, ℕ, Bool, true, false, Option, None, Some, List, [], ◌∷◌, length, refl, sym, subst, ap, arith}
use Rattle.std.specs.Prelude.{ℤ}
use Rattle.dcsctp_spec_lemmas.specs.types.declared.association.Held.{Held}
use Rattle.dcsctp_spec_lemmas.specs.types.declared.options.Options.{Options}
use Rattle.dcsctp_spec_lemmas.specs.spec.Cookie.{cookie_of_bytes}
use Rattle.dcsctp_spec_lemmas.specs.spec.endpoint.Event.{Event, sent, connected, closed, connection_restarted, aborted, error, buffered_amount_low, total_buffered_amount_low, streams_reset_failed, streams_reset_performed, incoming_stream_reset, lifecycle_message_fully_sent, lifecycle_message_maybe_expired, lifecycle_message_expired, lifecycle_message_delivered, lifecycle_end}
use Rattle.dcsctp_spec_lemmas.specs.types.Settings.{SameOptions}
use Rattle.dcsctp_spec_lemmas.specs.spec.Packet.{Content, init, init_ack, cookie_echo, cookie_ack, re_config, abort, shutdown, shutdown_ack, shutdown_complete, plain, Emission}
use Rattle.dcsctp_spec_lemmas.specs.spec.Reconfiguration.{RequestedReset}
use Rattle.dcsctp_spec_lemmas.specs.spec.endpoint.Endpoint.{Endpoint, Core, cookie_wait, cookie_echoed, open_in}
use Rattle.dcsctp_spec_lemmas.specs.spec.endpoint.Endpoint as machine
use Rattle.dcsctp_spec_lemmas.specs.spec.endpoint.Outcome.{Outcome, still}
use Rattle.dcsctp_spec_lemmas.specs.spec.association.Controlled.{observations_of_events, observations_of_effects}
use Rattle.dcsctp_spec_lemmas.specs.spec.endpoint.CallTurns.{Transition, IsTurn}
use Rattle.dcsctp_spec_lemmas.specs.spec.endpoint.Turn.{Input, arrival, refusal, packet_begins, chunk_input, packet_ends, act_input, user_sets, user_sends, user_resets, user_takes, timer_expires, time_passes, restores, has_data_chunk, ContentTurn, ActTurn}
use Rattle.dcsctp_spec_lemmas.specs.spec.association.Acts.{Act, connect, t1_expires, shut_down, step_of_shutdown, shutdown_repeats, abort_with, hands_over, flushes, request_again, request_renewed, request_sent, request_again_change, renewed_if_fitting, request_renewed_change}
use Rattle.dcsctp_spec_lemmas.specs.spec.endpoint.TimerOutcomes.{endpoint_with_t1_continued}
use Rattle.dcsctp_spec_lemmas.proofs.OneAnswerLemmas.{init_by}
use Rattle.dcsctp_spec_runs.proofs.RunsAlong.{run_along}
use Rattle.dcsctp_spec_laws.proofs.ControlLemmas.{acts_are_controlled}
use Rattle.dcsctp_spec_laws.proofs.DataLemmas.{flushed_act, end_at, send_at, resets_at}
use Rattle.dcsctp_spec_laws.proofs.TurnLemmas.{content_keeps_options}
use Rattle.dcsctp_theorem_sockets.specs.Bursts.{flush_limit, packets_of, packets_of_chunk, packets_of_act}
use Rattle.dcsctp_theorem_sockets.specs.OneSocket.{KeepsBurst, TurnKeepsBurst, SocketsKeepBursts}
use Rattle.dcsctp_theorem_sockets.proofs.Bursts.{count, Few, none, one, allowed_after}
use Rattle.dcsctp_theorem_sockets.proofs.BurstShutdown.{step_few, shut_down_few, shutdown_ack_few, shutdown_complete_few, t2_again_few, begin_few}
use Rattle.dcsctp_theorem_sockets.proofs.BurstData.{flush_turn_is_burst, end_is_burst, take_few, send_is_burst, resets_is_burst}
use Rattle.dcsctp_theorem_sockets.proofs.BurstHandshake.{init_few, connect_few, init_ack_counts, cookie_ack_is_burst, echo_counts, abort_few, aborting_few, again_counts, gives_up_few}
use Rattle.dcsctp_theorem_sockets.proofs.BurstChunks.{timer_few, reset_behind, plain_counts}
use Rattle.dcsctp_theorem_sockets.proofs.HeardShutdowns.{heard_counts}
use Rattle.dcsctp_theorem_sockets.proofs.HandoverTurns.{hand_over_few}
use Rattle.dcsctp_theorem_sockets.proofs.RestoreTurns.{restore_few}
use Rattle.dcsctp_spec_lemmas.proofs.EarlyLemmas.{content_by}

-- ---- a chunk

-- Nothing happens, so no packet is sent.
no_packets : (e : Endpoint) (content : Content) (o : Outcome) → o ≡ still e → count o.events ≤ packets_of_chunk e.options content (allowed_after o)
no_packets e content o is = subst (λ (x : Outcome). count x.events ≤ packets_of_chunk e.options content (allowed_after o)) (sym is) (none _)

-- with what is allowed by the options that the turn leaves
chunk_counts : (e : Endpoint) (tag : ℕ) (content : Content) (o : Outcome) → ContentTurn e tag content o → count o.events ≤ packets_of_chunk e.options content (allowed_after o)
chunk_counts e tag (init theirs) o turn =
    subst (Few 1) (sym turn.2) (init_by (Few 1) e theirs turn.0 turn.1 (none 1) (init_few e theirs e.core turn.0 turn.1))
chunk_counts e tag (init_ack theirs cookie) o turn =
    subst (λ (x : Outcome). count x.events ≤ packets_of_chunk e.options (init_ack theirs cookie) (allowed_after x)) (sym turn.3) (init_ack_counts e theirs cookie e.core turn.0 turn.1 turn.2)
chunk_counts e tag (cookie_echo bytes) o turn =
    subst (λ (x : Outcome). count x.events ≤ packets_of_chunk e.options (cookie_echo bytes) (allowed_after x)) (sym turn.3) (echo_counts e e.core tag (cookie_of_bytes bytes) turn.0 turn.1 refl turn.2)
chunk_counts e tag cookie_ack o turn = subst (λ (x : Outcome). count x.events ≤ allowed_after x) (sym turn.2) (cookie_ack_is_burst e e.core turn.0 turn.1)
chunk_counts e tag (re_config parameters) o turn =
    content_by e tag (re_config parameters) o (λ dropped. no_packets e (re_config parameters) o dropped) (λ handled. reset_behind e e.core parameters o refl handled) turn
chunk_counts e tag (abort reflected causes) o turn = subst (Few 0) (sym turn) (abort_few e causes e.core)
chunk_counts e tag (shutdown tsn) o turn = heard_counts e tsn o turn
chunk_counts e tag shutdown_ack o turn = subst (Few 1) (sym turn) (shutdown_ack_few e e.core tag)
chunk_counts e tag (shutdown_complete reflected) o turn = subst (Few 0) (sym turn) (shutdown_complete_few e e.core)
chunk_counts e tag (plain chunk) o turn =
    content_by e tag (plain chunk) o (λ dropped. no_packets e (plain chunk) o dropped) (λ handled. plain_counts e chunk o handled) turn

-- ---- a request again

-- A packet is a sign of its turn.
are_signs : (events : List (Event Emission)) → count events ≤ length (observations_of_events events)
are_signs [] = none 0
are_signs (sent emission ∷ events) = let few = are_signs events in omega (arith, few)
are_signs (connected ∷ events) = let few = are_signs events in omega (arith, few)
are_signs (closed ∷ events) = let few = are_signs events in omega (arith, few)
are_signs (connection_restarted ∷ events) = are_signs events
are_signs (aborted kind text ∷ events) = let few = are_signs events in omega (arith, few)
are_signs (error kind text ∷ events) = are_signs events
are_signs (buffered_amount_low stream ∷ events) = are_signs events
are_signs (total_buffered_amount_low ∷ events) = are_signs events
are_signs (streams_reset_failed streams ∷ events) = let few = are_signs events in omega (arith, few)
are_signs (streams_reset_performed streams ∷ events) = let few = are_signs events in omega (arith, few)
are_signs (incoming_stream_reset streams ∷ events) = let few = are_signs events in omega (arith, few)
are_signs (lifecycle_message_fully_sent id ∷ events) = are_signs events
are_signs (lifecycle_message_maybe_expired id ∷ events) = are_signs events
are_signs (lifecycle_message_expired id ∷ events) = are_signs events
are_signs (lifecycle_message_delivered id ∷ events) = are_signs events
are_signs (lifecycle_end id ∷ events) = are_signs events

request_signs : (held : Held) (number : Option ℕ) (reset : RequestedReset) (fits : Bool) → length (observations_of_effects (request_sent held number reset fits)) ≤ 1
request_signs held None reset fits = none 1
request_signs held (Some number) reset true = one 0
request_signs held (Some number) reset false = none 1

again_signs : (core : Core) (reset : RequestedReset) (fits : Bool) → length (observations_of_effects (request_again_change core reset fits).effects) ≤ 1
again_signs machine.closed reset fits = none 1
again_signs (cookie_wait my) reset fits = none 1
again_signs (cookie_echoed my held cookie) reset fits = request_signs held held.own_outstanding reset fits
again_signs (open_in phase my held) reset fits = request_signs held held.own_outstanding reset fits

again_few : (e : Endpoint) (reset : RequestedReset) (o : Outcome) → ActTurn e (request_again reset) o → Few 1 o
again_few e reset o turn =
    let observations = are_signs o.events in
    let same = ap length turn.1.observations in
    let few = again_signs e.core reset turn.0.fits in
    omega (arith, observations, same, few)

renewed_signs : (held : Held) (number : Option ℕ) (reset : RequestedReset) (fits : Bool) → length (observations_of_effects (renewed_if_fitting held number reset fits).effects) ≤ 1
renewed_signs held None reset fits = none 1
renewed_signs held (Some number) reset true = one 0
renewed_signs held (Some number) reset false = none 1

anew_signs : (core : Core) (reset : RequestedReset) (fits : Bool) → length (observations_of_effects (request_renewed_change core reset fits).effects) ≤ 1
anew_signs machine.closed reset fits = none 1
anew_signs (cookie_wait my) reset fits = none 1
anew_signs (cookie_echoed my held cookie) reset fits = renewed_signs held held.own_outstanding reset fits
anew_signs (open_in phase my held) reset fits = renewed_signs held held.own_outstanding reset fits

anew_few : (e : Endpoint) (reset : RequestedReset) (o : Outcome) → ActTurn e (request_renewed reset) o → Few 1 o
anew_few e reset o turn =
    let observations = are_signs o.events in
    let same = ap length turn.1.observations in
    let few = anew_signs e.core reset turn.0.fits in
    omega (arith, observations, same, few)

-- ---- an act

act_counts : (e : Endpoint) (act : Act) (o : Outcome) → ActTurn e act o → count o.events ≤ packets_of_act e.core act (allowed_after o)
act_counts e connect o turn = subst (Few 1) (sym turn.2) (connect_few e e.core turn.0 turn.1)
act_counts e (t1_expires true) o turn =
    subst (λ (x : Outcome). count x.events ≤ packets_of_act e.core (t1_expires true) (allowed_after x)) (sym turn.2) (again_counts (endpoint_with_t1_continued e) e.core turn.0 refl turn.1)
act_counts e (t1_expires false) o turn = subst (Few 0) (sym turn) (gives_up_few e e.core)
act_counts e shut_down o turn = subst (Few 1) (sym turn) (shut_down_few e e.core)
act_counts e step_of_shutdown o turn = subst (Few 1) (sym turn) (step_few e e.core)
act_counts e shutdown_repeats o turn = subst (Few 1) (sym turn) (t2_again_few e)
act_counts e (abort_with reason) o turn = subst (Few 1) (sym turn) (aborting_few e e.core reason)
act_counts e hands_over o turn = hand_over_few e o turn
act_counts e flushes o turn = flush_turn_is_burst e o turn
act_counts e (request_again reset) o turn = again_few e reset o turn
act_counts e (request_renewed reset) o turn = anew_few e reset o turn

-- ---- every turn

-- The options stay as far as a flush goes.
keeps_from : (e : Endpoint) (input : Input) (o : Outcome) → SameOptions e.options o.after.options → count o.events ≤ packets_of e.options e.core input (allowed_after o) → KeepsBurst e input o
keeps_from e input o same few =
    let burst : o.after.options.max_burst ≡ e.options.max_burst = ap (λ (p : Options). p.max_burst) same in
    subst (λ (b : ℤ). count o.events ≤ packets_of e.options e.core input (flush_limit b o.after.core)) burst few

turn_counts : (e : Endpoint) (input : Input) (t : Transition) → IsTurn e input t → KeepsBurst e input t.outcome
turn_counts e arrival t turn = subst (Few 0) (sym turn.comes) (none 0)
turn_counts e (refusal text) t turn = subst (Few 0) (sym turn.comes) (none 0)
turn_counts e (packet_begins contents) t turn = begin_few e e.core (has_data_chunk e.options.follow_rfc contents) t.outcome turn.comes
turn_counts e (chunk_input tag content) t turn =
    keeps_from e (chunk_input tag content) t.outcome (content_keeps_options e tag content t.outcome turn.comes) (chunk_counts e tag content t.outcome turn.comes)
turn_counts e packet_ends t turn =
    keeps_from e packet_ends t.outcome (flushed_act e t.outcome (end_at e e.queues.transfer t.outcome turn.comes)).1.options (end_is_burst e e.queues.transfer t.outcome turn.comes)
turn_counts e (act_input act) t turn = keeps_from e (act_input act) t.outcome (acts_are_controlled e act t.outcome turn.comes).1.options (act_counts e act t.outcome turn.comes)
turn_counts e (user_sets setting) t turn = subst (Few 0) (sym turn.comes) (none 0)
turn_counts e (user_sends messages) t turn =
    keeps_from e (user_sends messages) t.outcome (flushed_act e t.outcome (send_at e messages t.outcome turn.comes)).1.options (send_is_burst e messages t.outcome turn.comes)
turn_counts e (user_resets ids) t turn =
    keeps_from e (user_resets ids) t.outcome (flushed_act e t.outcome (resets_at e ids t.outcome turn.comes)).1.options (resets_is_burst e ids t.outcome turn.comes)
turn_counts e user_takes t turn = take_few e e.queues.transfer t.outcome turn.comes
turn_counts e (timer_expires timer) t turn = timer_few e timer t.outcome turn.comes
turn_counts e (time_passes moment) t turn = subst (Few 0) (sym turn.comes) (none 0)
turn_counts e (restores state) t turn = restore_few e state t.outcome turn.comes

each_counts : (e : Endpoint) (input : Input) (t : Transition) → IsTurn e input t → TurnKeepsBurst e t
each_counts e input t turn = subst (λ (i : Input). KeepsBurst e i t.outcome) (sym turn.is) (turn_counts e input t turn)

pub sockets_keep_bursts : SocketsKeepBursts
sockets_keep_bursts options run runs side = run_along TurnKeepsBurst each_counts options run runs side
