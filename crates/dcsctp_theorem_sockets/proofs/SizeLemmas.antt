-- No packet of a socket is longer than its options allow, whatever bytes it is handed.
use Rattle.std.proofs.Common.{◌≡◌, ◌≤◌, ◌+◌, ℕ, Bool, true, false, List, [], ◌∷◌, map, length, refl, sym, subst, ap, ◌∙◌, arith, length-append}
use Rattle.std.specs.List.{AllByRecursion, flat_map}
use Rattle.std.proofs.lemmas.List.Folds.{flat_map-map}
use Rattle.dcsctp_spec_lemmas.specs.wire.Spelling.{chunk_bytes, header_bytes, checksum_field, packet_bytes_of}
use Rattle.dcsctp_spec_lemmas.specs.types.declared.options.Options.{Options}
use Rattle.dcsctp_spec_lemmas.specs.types.Settings.{packet_size_limit, Ports, ports_of}
use Rattle.dcsctp_spec_lemmas.specs.spec.Cookie.{cookie_of_bytes}
use Rattle.dcsctp_spec_lemmas.specs.spec.endpoint.Event.{Event, sent, event_map, packets_of_events}
use Rattle.dcsctp_spec_lemmas.specs.spec.Packet.{Content, init, init_ack, cookie_echo, cookie_ack, re_config, abort, shutdown, shutdown_ack, shutdown_complete, plain, chunk_out, Emission, emission_bytes}
use Rattle.dcsctp_spec_lemmas.specs.spec.endpoint.Endpoint.{Endpoint, fresh_endpoint}
use Rattle.dcsctp_spec_lemmas.specs.spec.endpoint.Outcome.{Outcome, contents_len}
use Rattle.dcsctp_spec_lemmas.specs.spec.endpoint.Turn.{Input, arrival, refusal, packet_begins, chunk_input, packet_ends, act_input, user_sets, user_sends, user_resets, user_takes, timer_expires, time_passes, restores, has_data_chunk, ContentTurn, ActTurn}
use Rattle.dcsctp_spec_lemmas.specs.spec.endpoint.TimerOutcomes.{endpoint_with_t1_continued}
use Rattle.dcsctp_spec_lemmas.specs.spec.association.Acts.{Act, connect, t1_expires, shut_down, step_of_shutdown, shutdown_repeats, abort_with, hands_over, flushes, request_again, request_renewed}
use Rattle.dcsctp_spec_lemmas.specs.spec.endpoint.CallTurns.{Transition, IsTurn, AlongTurns, events_of}
use Rattle.dcsctp_spec_lemmas.proofs.OneAnswerLemmas.{init_by}
use Rattle.dcsctp_spec_runs.specs.Sockets.{of_side, turns_after}
use Rattle.dcsctp_spec_runs.proofs.RunsAlong.{run_along_where}
use Rattle.dcsctp_theorem_sockets.proofs.RestoreTurns.{restore_sizes}
use Rattle.dcsctp_theorem_sockets.specs.OneSocket.{IsWithinLimit, SocketsKeepSizes}
use Rattle.dcsctp_theorem_sockets.proofs.HeardShutdowns.{heard_sizes}
use Rattle.dcsctp_theorem_sockets.proofs.HandoverTurns.{hand_over_sizes}
use Rattle.dcsctp_theorem_sockets.proofs.Sizes.{AtLimit, AllShort, TurnSizes, short_append}
use Rattle.dcsctp_theorem_sockets.proofs.SizesChunks.{timer_sizes, reset_sizes, plain_sizes}
use Rattle.dcsctp_theorem_sockets.proofs.SizesData.{flush_turn_sizes, end_sizes, take_sizes, send_sizes, resets_sizes}
use Rattle.dcsctp_theorem_sockets.proofs.SizesShutdown.{step_sizes, shut_down_sizes, shutdown_ack_sizes, shutdown_complete_sizes, t2_again_sizes, begin_sizes}
use Rattle.dcsctp_theorem_sockets.proofs.SizesTurns.{init_sizes, connect_sizes, init_ack_sizes, cookie_ack_sizes, echo_sizes, abort_sizes, aborting_sizes, again_sizes, gives_up_sizes}
use Rattle.dcsctp_theorem_sockets.proofs.T1Lemmas.{IsMade, MayBe, these_may_come}
use Rattle.dcsctp_spec_lemmas.proofs.EarlyLemmas.{content_by}

-- ---- each turn

chunk_sizes : (limit : ℕ) (e : Endpoint) (tag : ℕ) (content : Content) (o : Outcome) → ContentTurn e tag content o → AtLimit limit e → TurnSizes limit o
chunk_sizes limit e tag (init theirs) o turn h =
    subst (TurnSizes limit) (sym turn.2) (init_by (TurnSizes limit) e theirs turn.0 turn.1 (h, tt) (init_sizes limit e theirs e.core turn.0 turn.1 h))
chunk_sizes limit e tag (init_ack theirs cookie) o turn h = subst (TurnSizes limit) (sym turn.3) (init_ack_sizes limit e theirs cookie e.core turn.0 turn.1 turn.2 h)
chunk_sizes limit e tag (cookie_echo bytes) o turn h = subst (TurnSizes limit) (sym turn.3) (echo_sizes limit e e.core tag (cookie_of_bytes bytes) turn.0 turn.1 turn.2 h)
chunk_sizes limit e tag cookie_ack o turn h = subst (TurnSizes limit) (sym turn.2) (cookie_ack_sizes limit e e.core turn.0 turn.1 h)
chunk_sizes limit e tag (re_config parameters) o turn h =
    content_by e tag (re_config parameters) o (λ dropped. subst (TurnSizes limit) (sym dropped) (h, tt)) (λ handled. reset_sizes limit e e.core parameters o handled h) turn
chunk_sizes limit e tag (abort reflected causes) o turn h = subst (TurnSizes limit) (sym turn) (abort_sizes limit e causes e.core h)
chunk_sizes limit e tag (shutdown tsn) o turn h = heard_sizes limit e tsn o turn h
chunk_sizes limit e tag shutdown_ack o turn h = subst (TurnSizes limit) (sym turn) (shutdown_ack_sizes limit e e.core tag h)
chunk_sizes limit e tag (shutdown_complete reflected) o turn h = subst (TurnSizes limit) (sym turn) (shutdown_complete_sizes limit e e.core h)
chunk_sizes limit e tag (plain chunk) o turn h =
    content_by e tag (plain chunk) o (λ dropped. subst (TurnSizes limit) (sym dropped) (h, tt)) (λ handled. plain_sizes limit e chunk o handled h) turn

act_sizes : (limit : ℕ) (e : Endpoint) (act : Act) (o : Outcome) → IsMade act → ActTurn e act o → AtLimit limit e → TurnSizes limit o
act_sizes limit e connect o may turn h = subst (TurnSizes limit) (sym turn.2) (connect_sizes limit e e.core turn.0 turn.1 h)
act_sizes limit e (t1_expires true) o may turn h = subst (TurnSizes limit) (sym turn.2) (again_sizes limit (endpoint_with_t1_continued e) e.core turn.0 turn.1 h)
act_sizes limit e (t1_expires false) o may turn h = subst (TurnSizes limit) (sym turn) (gives_up_sizes limit e e.core h)
act_sizes limit e shut_down o may turn h = subst (TurnSizes limit) (sym turn) (shut_down_sizes limit e e.core h)
act_sizes limit e step_of_shutdown o may turn h = subst (TurnSizes limit) (sym turn) (step_sizes limit e e.core h)
act_sizes limit e shutdown_repeats o may turn h = subst (TurnSizes limit) (sym turn) (t2_again_sizes limit e h)
act_sizes limit e (abort_with reason) o may turn h = subst (TurnSizes limit) (sym turn) (aborting_sizes limit e e.core reason h)
act_sizes limit e hands_over o may turn h = hand_over_sizes limit e o turn h
act_sizes limit e flushes o may turn h = flush_turn_sizes limit e o turn h
act_sizes limit e (request_again reset) o may turn h = absurd may
act_sizes limit e (request_renewed reset) o may turn h = absurd may

abbrev KeepsSize : ℕ → Endpoint → Transition → Type 0
KeepsSize limit e t = AtLimit limit e → TurnSizes limit t.outcome

turn_sizes : (limit : ℕ) (e : Endpoint) (input : Input) (t : Transition) → MayBe input → IsTurn e input t → KeepsSize limit e t
turn_sizes limit e arrival t may turn h = subst (TurnSizes limit) (sym turn.comes) (h, tt)
turn_sizes limit e (refusal text) t may turn h = subst (TurnSizes limit) (sym turn.comes) (h, tt)
turn_sizes limit e (packet_begins contents) t may turn h = begin_sizes limit e e.core (has_data_chunk e.options.follow_rfc contents) t.outcome turn.comes h
turn_sizes limit e (chunk_input tag content) t may turn h = chunk_sizes limit e tag content t.outcome turn.comes h
turn_sizes limit e packet_ends t may turn h = end_sizes limit e e.queues.transfer t.outcome turn.comes h
turn_sizes limit e (act_input act) t may turn h = act_sizes limit e act t.outcome may turn.comes h
turn_sizes limit e (user_sets setting) t may turn h = subst (TurnSizes limit) (sym turn.comes) (h, tt)
turn_sizes limit e (user_sends messages) t may turn h = send_sizes limit e messages t.outcome turn.comes h
turn_sizes limit e (user_resets ids) t may turn h = resets_sizes limit e ids t.outcome turn.comes h
turn_sizes limit e user_takes t may turn h = take_sizes limit e e.queues.transfer t.outcome turn.comes h
turn_sizes limit e (timer_expires timer) t may turn h = timer_sizes limit e timer t.outcome turn.comes h
turn_sizes limit e (time_passes moment) t may turn h = subst (TurnSizes limit) (sym turn.comes) (h, tt)
turn_sizes limit e (restores state) t may turn h = restore_sizes limit e state t.outcome turn.comes h

all_short : (limit : ℕ) (e : Endpoint) (ts : List Transition) → AlongTurns (KeepsSize limit) e ts → AtLimit limit e → AllShort limit (events_of ts)
all_short limit e [] along h = tt
all_short limit e (t ∷ ts) along h =
    let first : TurnSizes limit t.outcome = along.0 h in
    short_append limit t.outcome.events (events_of ts) first.1 (all_short limit t.outcome.after ts along.1 first.0)

-- ---- in bytes

checksum_len : (with_checksum : Bool) (header body : List ℕ) → length (checksum_field with_checksum header body) ≡ 4
unfolding checksum_field
checksum_len true header body = refl
checksum_len false header body = refl

spelled_len : (with_checksum : Bool) (source_port destination_port tag : ℕ) (body : List ℕ)
    → length (packet_bytes_of with_checksum (header_bytes source_port destination_port tag) body) ≡ 12 + length body
unfolding packet_bytes_of header_bytes
spelled_len with_checksum source_port destination_port tag body =
    let header : List ℕ = header_bytes source_port destination_port tag in
    let field : List ℕ = checksum_field with_checksum header body in
    omega (arith, length-append field body, checksum_len with_checksum header body)

emission_len : (ports : Ports) (emission : Emission) → length (emission_bytes ports emission) ≡ 12 + contents_len emission.packet.contents
emission_len ports emission =
    spelled_len emission.with_checksum ports.local ports.remote emission.packet.tag (flat_map chunk_bytes (map chunk_out emission.packet.contents))
    ∙ ap (λ (bytes : List ℕ). 12 + length bytes) (flat_map-map chunk_bytes chunk_out emission.packet.contents)

shown_short : (options : Options) (events : List (Event Emission)) → AllShort (packet_size_limit options) events
    → AllByRecursion (IsWithinLimit options) (packets_of_events (map (event_map (emission_bytes (ports_of options))) events))
shown_short options [] each = tt
shown_short options (sent emission ∷ events) each =
    let len = emission_len (ports_of options) emission in
    let short : 12 + contents_len emission.packet.contents ≤ packet_size_limit options = each.0 in
    (omega (arith, len, short), shown_short options events each.1)
shown_short options (event ∷ events) each = shown_short options events each

-- ---- a run

pub sockets_keep_sizes : SocketsKeepSizes
sockets_keep_sizes options run runs side valid =
    let own : Options = of_side side options in
    let limit : ℕ = packet_size_limit own in
    let turns : List Transition = of_side side (turns_after run) in
    shown_short own (events_of turns)
    (all_short limit (fresh_endpoint own) turns (run_along_where (KeepsSize limit) MayBe these_may_come (λ state. tt) (turn_sizes limit) options run runs side) (refl, valid.least_size))
