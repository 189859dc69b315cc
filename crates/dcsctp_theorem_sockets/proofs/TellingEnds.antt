-- A turn of a socket that ends its association reports that once, and no other turn reports an end.
use Rattle.std.proofs.Common.{◌≡◌, ℕ, suc, Bool, true, false, cond, List, [], ◌∷◌, inl, inr, refl, sym, subst, ap, ◌∙◌}
use Rattle.dcsctp_spec_lemmas.specs.types.declared.word.Word.{Word}
use Rattle.dcsctp_spec_lemmas.specs.types.declared.word.Word.TheVariants.{U32}
use Rattle.dcsctp_spec_lemmas.specs.spec.endpoint.Event.{Event, sent, connected, closed, connection_restarted, aborted, error, buffered_amount_low, total_buffered_amount_low, streams_reset_failed, streams_reset_performed, incoming_stream_reset, lifecycle_message_fully_sent, lifecycle_message_maybe_expired, lifecycle_message_expired, lifecycle_message_delivered, lifecycle_end}
use Rattle.dcsctp_spec_lemmas.specs.spec.Packet.{Introduction, Content, init, init_ack, cookie_echo, cookie_ack, re_config, abort, shutdown, shutdown_ack, shutdown_complete, plain, Emission}
use Rattle.dcsctp_spec_lemmas.specs.spec.endpoint.Endpoint.{Endpoint, Core, cookie_wait, cookie_echoed, open_in, established, shutdown_pending, shutdown_sent, shutdown_received, shutdown_ack_sent, fresh_endpoint, with_secret, secret_with}
use Rattle.dcsctp_spec_lemmas.specs.spec.endpoint.Endpoint as machine
use Rattle.dcsctp_spec_lemmas.specs.spec.endpoint.Outcome.{Outcome, still, quiet, sends as sends_packet, fits, to_peer, emits}
use Rattle.dcsctp_spec_laws.proofs.DataLemmas.{flushed_act, end_at, send_at, resets_at, take_at}
use Rattle.dcsctp_spec_lemmas.specs.spec.endpoint.OwnTimers.{timer_act}
use Rattle.dcsctp_spec_laws.proofs.HeartbeatLemmas.{timer_controlled}
use Rattle.dcsctp_spec_lemmas.specs.spec.endpoint.Turn.{Input, arrival, refusal, packet_begins, chunk_input, packet_ends, act_input, user_sets, user_sends, user_resets, user_takes, timer_expires, time_passes, restores, has_data_chunk}
use Rattle.dcsctp_spec_lemmas.specs.spec.endpoint.HandshakeOutcomes.{pair_from, renewed_pair, init_ack_emission, init_outcome}
use Rattle.dcsctp_spec_lemmas.specs.spec.association.Effect.{Effect, draws, sends, holds, connects, ends, begins, gives_up, completes, fails, accepts, performs, renews, resumes, Change}
use Rattle.dcsctp_spec_lemmas.specs.spec.association.Acts.{Act, act_change, shutdown_repeats, flushes}
use Rattle.dcsctp_spec_lemmas.specs.spec.association.Controlled.{Observation, packet_sent, has_connected, has_ended, own_reset_performed, own_reset_failed, peer_reset_performed, observations_of_events, observations_of_effects, IsControlled, IsControlledChunk, IsControlledAct}
use Rattle.dcsctp_spec_lemmas.specs.spec.endpoint.CallTurns.{Transition, IsTurn}
use Rattle.dcsctp_spec_laws.specs.TurnLaws.{ActsAreControlled}
use Rattle.dcsctp_spec_runs.specs.World.{acted, worked}
use Rattle.dcsctp_spec_runs.proofs.RunsAlong.{run_along}
use Rattle.dcsctp_spec_lemmas.proofs.ControlHandshake.{init_ack_controlled, cookie_ack_controlled, abort_controlled}
use Rattle.dcsctp_spec_laws.proofs.HeardShutdownLemmas.{shutdown_controlled}
use Rattle.dcsctp_spec_laws.proofs.ShutdownLemmas.{shutdown_ack_controlled, shutdown_complete_controlled}
use Rattle.dcsctp_spec_lemmas.proofs.ControlEcho.{cookie_echo_controlled}
use Rattle.dcsctp_spec_lemmas.proofs.OneAnswerLemmas.{init_by}
use Rattle.dcsctp_spec_laws.proofs.ControlLemmas.{begin_stands}
use Rattle.dcsctp_spec_laws.proofs.PlainLemmas.{plain_controlled}
use Rattle.dcsctp_spec_laws.proofs.ResetLemmas.{reset_controlled}
use Rattle.dcsctp_theorem_association.specs.OneSide.{count_of_ends, OneEnd, it_ends, it_stays, EndsOnce}
use Rattle.dcsctp_spec_laws.proofs.ControlRestores.{resumed_by, restore_stands}
use Rattle.dcsctp_theorem_sockets.proofs.RestoreTurns.{resumed_turn}
use Rattle.dcsctp_theorem_sockets.specs.OneSocket.{end_event_count, ReportsEnd, SocketsReportEnds}
use Rattle.dcsctp_theorem_sockets.specs.OneSocket as told

-- ---- events and effects

ends_among : List Observation → ℕ
ends_among [] = 0
ends_among (packet_sent packet ∷ observations) = ends_among observations
ends_among (has_connected ∷ observations) = ends_among observations
ends_among (has_ended ∷ observations) = suc (ends_among observations)
ends_among (own_reset_performed ∷ observations) = ends_among observations
ends_among (own_reset_failed ∷ observations) = ends_among observations
ends_among (peer_reset_performed ∷ observations) = ends_among observations

told_among : (events : List (Event Emission)) → end_event_count events ≡ ends_among (observations_of_events events)
unfolding ends_among
told_among [] = refl
told_among (sent emission ∷ events) = told_among events
told_among (connected ∷ events) = told_among events
told_among (closed ∷ events) = ap suc (told_among events)
told_among (connection_restarted ∷ events) = told_among events
told_among (aborted kind text ∷ events) = ap suc (told_among events)
told_among (error kind text ∷ events) = told_among events
told_among (buffered_amount_low stream ∷ events) = told_among events
told_among (total_buffered_amount_low ∷ events) = told_among events
told_among (streams_reset_failed streams ∷ events) = told_among events
told_among (streams_reset_performed streams ∷ events) = told_among events
told_among (incoming_stream_reset streams ∷ events) = told_among events
told_among (lifecycle_message_fully_sent id ∷ events) = told_among events
told_among (lifecycle_message_maybe_expired id ∷ events) = told_among events
told_among (lifecycle_message_expired id ∷ events) = told_among events
told_among (lifecycle_message_delivered id ∷ events) = told_among events
told_among (lifecycle_end id ∷ events) = told_among events

effects_among : (effects : List Effect) → count_of_ends effects ≡ ends_among (observations_of_effects effects)
unfolding ends_among
effects_among [] = refl
effects_among (draws pair ∷ effects) = effects_among effects
effects_among (sends packet ∷ effects) = effects_among effects
effects_among (holds link ∷ effects) = effects_among effects
effects_among (connects link ∷ effects) = effects_among effects
effects_among (ends ∷ effects) = ap suc (effects_among effects)
effects_among (begins number ∷ effects) = effects_among effects
effects_among (gives_up number ∷ effects) = effects_among effects
effects_among (completes my number ∷ effects) = effects_among effects
effects_among (fails number ∷ effects) = effects_among effects
effects_among (accepts number ∷ effects) = effects_among effects
effects_among (performs peer number ∷ effects) = effects_among effects
effects_among (renews peer number ∷ effects) = effects_among effects
effects_among (resumes link own last ∷ effects) = effects_among effects

-- ---- one turn

told_by : (e : Endpoint) (t : Transition) (change : Change) → IsControlled e t.outcome change → OneEnd e.core change → ReportsEnd e t
told_by e t change is (it_ends was shut once) =
    told.it_ends was (is.core ∙ shut) (told_among t.outcome.events ∙ ap ends_among is.observations ∙ sym (effects_among change.effects) ∙ once)
told_by e t change is (it_stays stays none) =
    told.it_stays (λ shut. stays (sym is.core ∙ shut)) (told_among t.outcome.events ∙ ap ends_among is.observations ∙ sym (effects_among change.effects) ∙ none)

by_chunk : EndsOnce → (e : Endpoint) (tag : ℕ) (content : Content) (t : Transition) → IsControlledChunk e tag content t.outcome → ReportsEnd e t
by_chunk law e tag content t turn =
    told_by e t turn.0 turn.2 (law e.options e.core turn.0 (worked tag content turn.1.0 turn.1.2))

by_act : EndsOnce → (e : Endpoint) (act : Act) (t : Transition) → IsControlledAct e act t.outcome → ReportsEnd e t
by_act law e act t turn =
    told_by e t (act_change e.options e.core act turn.0) turn.1 (law e.options e.core (act_change e.options e.core act turn.0) (acted act turn.0 refl))

-- the association stays, and no end is reported
record Rests (e : Endpoint) (o : Outcome) : Type 0 where
  core : o.after.core ≡ e.core
  none : end_event_count o.events ≡ 0

rests : (e : Endpoint) (t : Transition) (o : Outcome) → t.outcome ≡ o → Rests e o → ReportsEnd e t
rests e t o is h =
    let here : Rests e t.outcome = subst (Rests e) (sym is) h in
    told.it_stays (λ shut. sym here.core ∙ shut) here.none

packet_rests : (b : Bool) (e : Endpoint) (words : List Word) (emission : Emission) → Rests e (cond b (sends_packet e words [] emission) (quiet e words []))
packet_rests true e words emission = record { core = refl; none = refl }
packet_rests false e words emission = record { core = refl; none = refl }

emits_rest : (e : Endpoint) (words : List Word) (emission : Emission) → Rests e (emits e words emission)
emits_rest e words emission = packet_rests (fits e emission) e words emission

-- what is drawn beside it changes neither
with_effects : (e : Endpoint) (o : Outcome) (effects : List Effect) → Rests e o → Rests e (record o { effects = effects })
with_effects e o effects h = record { core = h.core; none = h.none }

renewed_rests : (e : Endpoint) (theirs : Introduction) (word : ℕ) → Rests e (emits e (U32 word ∷ []) (init_ack_emission e theirs (renewed_pair e word) e.tie))
renewed_rests e theirs word = emits_rest e (U32 word ∷ []) (init_ack_emission e theirs (renewed_pair e word) e.tie)

init_rests : (e : Endpoint) (theirs : Introduction) (core : Core) (word next : ℕ) → Rests e (init_outcome e theirs core word next)
init_rests e theirs machine.closed word next =
    let mine = pair_from word next in
    let anew : Endpoint = with_secret e mine in
    let at = emits_rest anew (U32 word ∷ U32 next ∷ []) (init_ack_emission anew theirs mine anew.secret) in
    record { core = at.core; none = at.none }
init_rests e theirs (cookie_wait my) word next = emits_rest e [] (init_ack_emission e theirs my e.secret)
init_rests e theirs (cookie_echoed my held cookie) word next = emits_rest e [] (init_ack_emission e theirs my e.secret)
init_rests e theirs (open_in established my held) word next = with_effects e _ _ (renewed_rests e theirs word)
init_rests e theirs (open_in shutdown_pending my held) word next = with_effects e _ _ (renewed_rests e theirs word)
init_rests e theirs (open_in shutdown_sent my held) word next = with_effects e _ _ (renewed_rests e theirs word)
init_rests e theirs (open_in shutdown_received my held) word next = with_effects e _ _ (renewed_rests e theirs word)
init_rests e theirs (open_in shutdown_ack_sent my held) word next = emits_rest e [] (to_peer held shutdown_ack)

chunk_tells : EndsOnce → (e : Endpoint) (tag : ℕ) (content : Content) (t : Transition) → IsTurn e (chunk_input tag content) t → ReportsEnd e t
chunk_tells law e tag (init theirs) t h =
    let at : Rests e (init_outcome e theirs e.core h.comes.0 h.comes.1) = init_rests e theirs e.core h.comes.0 h.comes.1 in
    rests e t _ h.comes.2 (init_by (Rests e) e theirs h.comes.0 h.comes.1 (record { core = refl; none = refl }) (record { core = at.core; none = at.none }))
chunk_tells law e tag (init_ack theirs cookie) t h = by_chunk law e tag (init_ack theirs cookie) t (init_ack_controlled e tag theirs cookie t.outcome h.comes)
chunk_tells law e tag (cookie_echo cookie) t h = by_chunk law e tag (cookie_echo cookie) t (cookie_echo_controlled e tag cookie t.outcome h.comes)
chunk_tells law e tag cookie_ack t h = by_chunk law e tag cookie_ack t (cookie_ack_controlled e tag t.outcome h.comes)
chunk_tells law e tag (re_config parameters) t h = by_chunk law e tag (re_config parameters) t (reset_controlled e tag parameters t.outcome h.comes)
chunk_tells law e tag (abort reflected causes) t h = by_chunk law e tag (abort reflected causes) t (abort_controlled e tag reflected causes t.outcome h.comes)
chunk_tells law e tag (shutdown tsn) t h = by_chunk law e tag (shutdown tsn) t (shutdown_controlled e tag tsn t.outcome h.comes)
chunk_tells law e tag shutdown_ack t h = by_chunk law e tag shutdown_ack t (shutdown_ack_controlled e tag t.outcome h.comes)
chunk_tells law e tag (shutdown_complete reflected) t h = by_chunk law e tag (shutdown_complete reflected) t (shutdown_complete_controlled e tag reflected t.outcome h.comes)
chunk_tells law e tag (plain chunk) t h = by_chunk law e tag (plain chunk) t (plain_controlled e tag chunk t.outcome h.comes)

still_rests : (e : Endpoint) → Rests e (still e)
still_rests e = record { core = refl; none = refl }

-- the laws that this rests on
pub record EndLaws : Type 0 where
  pub once : EndsOnce
  pub acts : ActsAreControlled

turn_tells : EndLaws → (e : Endpoint) (input : Input) (t : Transition) → IsTurn e input t → ReportsEnd e t
turn_tells law e arrival t h = rests e t _ h.comes (record { core = refl; none = refl })
turn_tells law e (refusal text) t h = rests e t _ h.comes (record { core = refl; none = refl })
turn_tells law e (packet_begins contents) t h =
    elim (begin_stands e e.core (has_data_chunk e.options.follow_rfc contents) t.outcome refl h.comes) [ inl nothing ↦ rests e t _ nothing (still_rests e) | inr acts ↦ by_act law.once e shutdown_repeats t acts ]
turn_tells law e (chunk_input tag content) t h = chunk_tells law.once e tag content t h
turn_tells law e packet_ends t h = by_act law.once e flushes t (flushed_act e t.outcome (end_at e e.queues.transfer t.outcome h.comes))
turn_tells law e (act_input act) t h = by_act law.once e act t (law.acts e act t.outcome h.comes)
turn_tells law e (user_sets setting) t h = rests e t _ h.comes (record { core = refl; none = refl })
turn_tells law e (user_sends messages) t h = by_act law.once e flushes t (flushed_act e t.outcome (send_at e messages t.outcome h.comes))
turn_tells law e (user_resets ids) t h = by_act law.once e flushes t (flushed_act e t.outcome (resets_at e ids t.outcome h.comes))
turn_tells law e user_takes t h = by_act law.once e flushes t (flushed_act e t.outcome (take_at e e.queues.transfer t.outcome h.comes))
turn_tells law e (timer_expires timer) t h = by_act law.once e (timer_act e timer) t (timer_controlled e timer t.outcome h.comes)
turn_tells law e (time_passes moment) t h = rests e t _ h.comes (record { core = refl; none = refl })
turn_tells law e (restores state) t h =
    elim (restore_stands e state t.outcome h.comes) [
      | inl nothing ↦ rests e t _ nothing (still_rests e)
      | inr restored ↦ told_by e t (resumed_by e state) restored.controlled (law.once e.options e.core (resumed_by e state) (resumed_turn e state t.outcome restored))
    ]

pub ends_are_told : EndLaws → SocketsReportEnds
ends_are_told law options run runs side = run_along ReportsEnd (turn_tells law) options run runs side
