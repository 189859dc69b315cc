-- The steps of a restart: it is refused while a SHUTDOWN ACK waits for its answer.
use Rattle.std.proofs.Common.{◌≡◌, ◌==◌, ◌≤◌, ℕ, Bool, true, false, not, Option, Some, List, [], ◌∷◌, ◌++◌, length, refl, sym, ap, subst, ◌∙◌, arith, append_assoc}
use Rattle.std.proofs.lemmas.List.{append-nil}
use Rattle.rand_core.specs.Stream.{Stream}
use Rattle.dcsctp_core.specs.wire.Content.{CauseContent, shutdown_ack_chunk, error_chunk, cookie_received_while_shutting_down}
use Rattle.dcsctp_core.specs.wire.Spelling.{chunk_bytes, other_bytes, parameter_chunk_bytes, parameter_bytes, parameters_len}
use Rattle.dcsctp_core.specs.wire_build.Building.{Building, bytes_remaining}
use Rattle.dcsctp_core.specs.types.declared.association.Held.{Held}
use Rattle.dcsctp_core.specs.types.declared.kinds.ErrorKind.TheVariants.{WrongSequence}
use Rattle.dcsctp_core.specs.types.declared.options.Options.{Options}
use Rattle.dcsctp_core.specs.types.Settings.{IsValid, ports_of}
use Rattle.dcsctp_core.specs.spec.Cookie.{Cookie}
use Rattle.dcsctp_core.specs.spec.endpoint.Event.{Event, sent, error}
use Rattle.dcsctp_core.specs.spec.Packet.{emission_bytes}
use Rattle.dcsctp_core.specs.spec.endpoint.Endpoint.{Endpoint, Core, closed, cookie_wait, cookie_echoed, open_in, established, shutdown_pending, shutdown_sent, shutdown_received, shutdown_ack_sent, held_by_core}
use Rattle.dcsctp_core.specs.spec.endpoint.Outcome.{Outcome, packet_counted, reports}
use Rattle.dcsctp_core.specs.spec.endpoint.FlushOutcomes.{Answer, FlushKind, flush_answered, is_none}
use Rattle.dcsctp_core.specs.spec.endpoint.CookieEchoOutcomes.{shutting_down_text, shutting_down_emission, refused_restart_outcome, restart_with_flush, restart_with_flush_by_core, queues_begun, EstablishAnswers, RestartAnswers}
use Rattle.dcsctp_core.specs.declared.context.Context.{Context}
use Rattle.dcsctp_core.specs.declared.following.Following.TheVariants.{NextChunk, DroppedRest}
use Rattle.dcsctp_core.specs.declared.transmission_control_block.TransmissionControlBlock.{TransmissionControlBlock}
use Rattle.dcsctp_core.specs.View.{View, Moves, CutsTurn, tcb_of, held_of, view_of, endpoint_of}
use Rattle.dcsctp_core.specs.Drawing.{long_word}
use Rattle.dcsctp_core.specs.Handling.{TakesPossibleTurn, IsHandledTurn, HandlesSomeTurn, report_turn}
use Rattle.dcsctp_core.specs.Flushing.{empty_packet, packet_for, sent_if_filled}
use Rattle.dcsctp_core.proofs.Composing.{cut_first, cut_after}
use Rattle.dcsctp_core_handshake.specs.Echoes.{RestartsAssociation, RestartsUnlessShuttingDown, awaits_complete, refused_restart_to, refused_restart_turn}
use Rattle.dcsctp_core_handshake.proofs.AckSteps.{held_by_tcb}
use Rattle.dcsctp_core_handshake.proofs.FlushSteps.{flush_following}

-- ---- the packet of a refusal: SHUTDOWN ACK and ERROR

abbrev ack_bytes : List ℕ
ack_bytes = chunk_bytes shutdown_ack_chunk

abbrev error_bytes : List ℕ
error_bytes = chunk_bytes (error_chunk (cookie_received_while_shutting_down ∷ []))

ack_len : length ack_bytes ≡ 4
unfolding other_bytes
ack_len = refl

error_len : length error_bytes ≡ 8
unfolding parameter_chunk_bytes parameter_bytes parameters_len
error_len = refl

-- There is room for both in every packet.
pub ack_has_room : (options : Options) (with_checksum : Bool) (tag : ℕ) (packet : Building) → IsValid options → packet ≡ empty_packet options with_checksum tag
    → length (chunk_bytes shutdown_ack_chunk) ≤ bytes_remaining packet
ack_has_room options with_checksum tag packet valid is =
    subst (λ (p : Building). length (chunk_bytes shutdown_ack_chunk) ≤ bytes_remaining p) (sym is) (omega (arith, ack_len, valid.least_size))

has_room : (options : Options) (with_checksum : Bool) (tag : ℕ) (empty packet : Building) → IsValid options → empty ≡ empty_packet options with_checksum tag
    → packet ≡ record empty { body = empty.body ++ chunk_bytes shutdown_ack_chunk } → length error_bytes ≤ bytes_remaining packet
has_room options with_checksum tag empty packet valid was is =
    subst (λ (p : Building). length error_bytes ≤ bytes_remaining p) (sym (is ∙ ap (λ (p : Building). record p { body = p.body ++ ack_bytes }) was))
    (omega (arith, ack_len, error_len, valid.least_size))

pub error_has_room : (options : Options) (with_checksum : Bool) (tag : ℕ) (causes : List CauseContent) (empty packet : Building) → IsValid options
    → causes ≡ cookie_received_while_shutting_down ∷ [] → empty ≡ empty_packet options with_checksum tag
    → packet ≡ record empty { body = empty.body ++ chunk_bytes shutdown_ack_chunk }
    → length (chunk_bytes (error_chunk causes)) ≤ bytes_remaining packet
error_has_room options with_checksum tag causes empty packet valid one was is =
    subst (λ (list : List CauseContent). length (chunk_bytes (error_chunk list)) ≤ bytes_remaining packet) (sym one)
    (has_room options with_checksum tag empty packet valid was is)

pub refusal_packet : (options : Options) (held : Held) (causes : List CauseContent) (empty first packet : Building) → causes ≡ cookie_received_while_shutting_down ∷ []
    → empty ≡ empty_packet options (held.capabilities.zero_checksum_method.0 == 0) held.peer.tag
    → first ≡ record empty { body = empty.body ++ chunk_bytes shutdown_ack_chunk }
    → packet ≡ record first { body = first.body ++ chunk_bytes (error_chunk causes) }
    → packet ≡ packet_for options (shutting_down_emission held)
refusal_packet options held causes empty first packet cause was one two =
    two
    ∙ ap (λ (list : List CauseContent). record first { body = first.body ++ chunk_bytes (error_chunk list) }) cause
    ∙ ap (λ (b : Building). record b { body = b.body ++ error_bytes }) one
    ∙ ap (λ (b : Building). record b { body = (b.body ++ ack_bytes) ++ error_bytes }) was
    ∙ ap (λ (rest : List ℕ). record (empty_packet options (held.capabilities.zero_checksum_method.0 == 0) held.peer.tag) { body = ack_bytes ++ rest }) (sym (append-nil error_bytes))

-- It is sent.
refusal_sent : {R : Type 0} (old mid : View R) (held : Held) (packet : Building) (is_sent : Bool) → packet ≡ packet_for old.endpoint.options (shutting_down_emission held)
    → is_sent ≡ not (is_none packet.body) → mid ≡ sent_if_filled is_sent packet old
    → mid ≡ record old { endpoint = packet_counted old.endpoint; events = old.events ++ sent (emission_bytes (ports_of old.endpoint.options) (shutting_down_emission held)) ∷ [] }
unfolding other_bytes
refusal_sent {R = R} old mid held packet is_sent packed goes is =
    let some : is_sent ≡ true = goes ∙ ap (λ (p : Building). not (is_none p.body)) packed in
    is ∙ ap (λ (b : Bool). sent_if_filled b packet old) some ∙ ap (λ (p : Building). sent_if_filled true p old) packed

-- ---- a restart is refused

refused_moves : {R : Type 0} (stream : R → Stream) (old mid new : View R) (held : Held)
    → mid ≡ record old { endpoint = packet_counted old.endpoint; events = old.events ++ sent (emission_bytes (ports_of old.endpoint.options) (shutting_down_emission held)) ∷ [] }
    → Moves stream mid (reports mid.endpoint WrongSequence shutting_down_text) new → Moves stream old (refused_restart_outcome old.endpoint held) new
refused_moves {R = R} stream old mid new held is m =
    let bytes : List ℕ = emission_bytes (ports_of old.endpoint.options) (shutting_down_emission held) in
    subst (λ (v : View R). Moves stream v (reports v.endpoint WrongSequence shutting_down_text) new → Moves stream old (refused_restart_outcome old.endpoint held) new) (sym is)
    (λ n. record {
      endpoint = n.endpoint;
      events = n.events ∙ append_assoc old.events (sent bytes ∷ []) (error WrongSequence shutting_down_text ∷ []);
      words = n.words;
      pairs = n.pairs;
      drawn = n.drawn;
    }) m

pub refuses : {R : Type 0} (stream : R → Stream) (old : Context R) (tcb : TransmissionControlBlock) (mid new : View R) (packet : Building) (is_sent : Bool)
    → Some tcb ≡ tcb_of old.state → packet ≡ packet_for old.options (shutting_down_emission (held_of tcb))
    → is_sent ≡ not (is_none packet.body) → mid ≡ sent_if_filled is_sent packet (view_of old)
    → Moves stream mid (report_turn WrongSequence shutting_down_text mid) new
    → IsHandledTurn stream (view_of old) (refused_restart_turn (view_of old)) DroppedRest new
refuses {R = R} stream old tcb mid new packet is_sent kept packed goes is m =
    let e : Endpoint = endpoint_of old in
    let held : Held = held_of tcb in
    subst (λ (peer : Option Held). IsHandledTurn stream (view_of old) (refused_restart_to e peer) DroppedRest new) (sym (held_by_tcb old.state tcb kept))
    (record { moves = refused_moves stream (view_of old) mid new held (refusal_sent (view_of old) mid held packet is_sent packed goes is) m; following = refl })

-- Its error wasn't reported.
pub refuses_cut : {R : Type 0} (old : Context R) (tcb : TransmissionControlBlock) (mid : View R) (es : List (Event (List ℕ))) (packet : Building) (is_sent : Bool)
    → Some tcb ≡ tcb_of old.state → packet ≡ packet_for old.options (shutting_down_emission (held_of tcb))
    → is_sent ≡ not (is_none packet.body) → mid ≡ sent_if_filled is_sent packet (view_of old) → es ≡ mid.events
    → CutsTurn (view_of old) (refused_restart_turn (view_of old)) es
refuses_cut {R = R} old tcb mid es packet is_sent kept packed goes is same =
    let e : Endpoint = endpoint_of old in
    let held : Held = held_of tcb in
    subst (λ (peer : Option Held). CutsTurn (view_of old) (refused_restart_to e peer) es) (sym (held_by_tcb old.state tcb kept))
    (cut_after (view_of old) (refused_restart_outcome e held) es (sent (shutting_down_emission held) ∷ []) (error WrongSequence shutting_down_text ∷ []) refl
    (same ∙ ap (λ (v : View R). v.events) (refusal_sent (view_of old) mid held packet is_sent packed goes is)))

pub refusal_unmade : {R : Type 0} (old : View R) (es : List (Event (List ℕ))) → es ≡ old.events → CutsTurn old (refused_restart_turn old) es
refusal_unmade old es same = cut_first old (refused_restart_turn old) es same

-- ---- where an association is open

-- A SHUTDOWN ACK waits: the restart is refused.
refused_where : (flush : FlushKind) (e : Endpoint) (cookie : Cookie) (tie : ℕ) (core : Core) → awaits_complete core ≡ true
    → RestartAnswers e cookie tie core [] × (refused_restart_to e (held_by_core core) ≡ restart_with_flush_by_core flush e cookie tie core)
refused_where flush e cookie tie closed waits = absurd (cc)
refused_where flush e cookie tie (cookie_wait mine) waits = absurd (cc)
refused_where flush e cookie tie (cookie_echoed mine held echoed) waits = absurd (cc)
refused_where flush e cookie tie (open_in established mine held) waits = absurd (cc)
refused_where flush e cookie tie (open_in shutdown_pending mine held) waits = absurd (cc)
refused_where flush e cookie tie (open_in shutdown_sent mine held) waits = absurd (cc)
refused_where flush e cookie tie (open_in shutdown_received mine held) waits = absurd (cc)
refused_where flush e cookie tie (open_in shutdown_ack_sent mine held) waits = (refl, refl)

-- None does: the association is restarted.
anew_where : (flush : FlushKind) (e : Endpoint) (cookie : Cookie) (tie : ℕ) (core : Core) (answers : List Answer) → awaits_complete core ≡ false → EstablishAnswers e cookie (queues_begun e cookie) tie answers
    → RestartAnswers e cookie tie core answers × (restart_with_flush flush e cookie tie ≡ restart_with_flush_by_core flush e cookie tie core)
anew_where flush e cookie tie closed answers waits h = (h, refl)
anew_where flush e cookie tie (cookie_wait mine) answers waits h = (h, refl)
anew_where flush e cookie tie (cookie_echoed mine held echoed) answers waits h = (h, refl)
anew_where flush e cookie tie (open_in established mine held) answers waits h = (h, refl)
anew_where flush e cookie tie (open_in shutdown_pending mine held) answers waits h = (h, refl)
anew_where flush e cookie tie (open_in shutdown_sent mine held) answers waits h = (h, refl)
anew_where flush e cookie tie (open_in shutdown_received mine held) answers waits h = (h, refl)
anew_where flush e cookie tie (open_in shutdown_ack_sent mine held) answers waits h = absurd (cc)

anew_turn : {R : Type 0} (stream : R → Stream) (old : View R) (cookie : Cookie) (o : Outcome) → awaits_complete old.endpoint.core ≡ false → RestartsAssociation stream cookie old o → RestartsUnlessShuttingDown stream cookie old o
anew_turn stream old cookie o waits turn =
    let here = anew_where (flush_answered turn.0) old.endpoint cookie (long_word (stream old.generator)) old.endpoint.core turn.0 waits turn.1 in (turn.0, here.0, turn.2 ∙ here.1)

pub restarts_anew : {R : Type 0} (stream : R → Stream) (old new : View R) (cookie : Cookie) → awaits_complete old.endpoint.core ≡ false
    → TakesPossibleTurn stream (RestartsAssociation stream cookie) old new → HandlesSomeTurn stream (RestartsUnlessShuttingDown stream cookie) old NextChunk new
restarts_anew stream old new cookie waits t =
    record {
      outcome = t.outcome;
      turn = anew_turn stream old cookie t.outcome waits t.turn;
      moves = t.moves;
      following = ap (λ (o : Outcome). o.following) t.turn.2 ∙ flush_following _ _ t.turn.0;
    }
