-- The turn of a COOKIE ECHO (RFC 9260, sections 5.1 and 5.2.4). association/CookieEchoChanges says which case it is.
use Rattle.std.specs.Prelude.{◌≡◌, ◌==◌, ◌&&◌, ◌||◌, not, ℕ, min, Bool, true, false, if◌then◌else◌, Option, None, Some, List, [], ◌∷◌, codes, Result, Ok, Err}
use Rattle.std.specs.Duration.{as_nanos}
use Rattle.dcsctp_types.specs.declared.association.Pair.{Pair}
use Rattle.dcsctp_types.specs.declared.association.Held.{Held}
use Rattle.dcsctp_types.specs.declared.capabilities.Capabilities.{Capabilities}
use Rattle.dcsctp_types.specs.declared.options.Options.{Options}
use Rattle.dcsctp_types.specs.declared.word.Word.TheVariants.{U64}
use Rattle.dcsctp_types.specs.declared.kinds.ErrorKind.TheVariants.{ParseFailed, WrongSequence}
use Rattle.dcsctp_spec.specs.Cookie.{Cookie, cookie_of_bytes, is_stale}
use Rattle.dcsctp_spec.specs.endpoint.Event.{Event, sent, connected, connection_restarted, error}
use Rattle.dcsctp_spec.specs.Packet.{cookie_ack, shutdown_ack, Emission}
use Rattle.dcsctp_spec.specs.queues.SendQueue.{SendQueueState, numbered_for, is_other}
use Rattle.dcsctp_spec.specs.queues.Transfer.{Transfer, EndpointQueues, new_transfer, outlasts_peer, transfer_kept}
use Rattle.dcsctp_spec.specs.endpoint.Endpoint.{Endpoint, Core, cookie_echoed, open_in, OpenPhase, established, shutdown_ack_sent, stopped_timers, heartbeats_begun, errors_begun}
use Rattle.dcsctp_spec.specs.endpoint.Outcome.{Outcome, with_effects_first, still, packet_counted, behind, emits}
use Rattle.dcsctp_spec.specs.endpoint.Following.{dropped_rest}
use Rattle.dcsctp_spec.specs.association.CookieEchoChanges.{Resolution, establish_new, restart, simultaneous_init, discard, maintain_existing, invalid_tag, stale, aged_resolution, resolve, held_by_cookie, shutting_down_error, stale_error}
use Rattle.dcsctp_spec.specs.association.Effect.{holds, connects, identity_of}
use Rattle.dcsctp_spec.specs.endpoint.FlushOutcomes.{Answer, FlushAnswers, FlushKind, flush_answered, flush_outcome}
use Rattle.dcsctp_spec.specs.endpoint.HandshakeOutcomes.{renumbered_queue, connected_after}

-- ---- one that is refused

abbrev pub invalid_tag_text : List ℕ
invalid_tag_text = codes "Received CookieEcho with invalid verification tag"

abbrev pub stale_text : List ℕ
stale_text = codes "Stale state cookie"

abbrev pub shutting_down_text : List ℕ
shutting_down_text = codes "Received COOKIE-ECHO while shutting down"

-- Nothing happens, and the rest of the packet is dropped.
abbrev pub discard_outcome : Endpoint → Outcome
discard_outcome e = record { words = []; effects = []; after = e; events = []; following = dropped_rest }

-- one OnError, no change, and the rest of the packet is dropped
abbrev pub refused_echo_outcome : Endpoint → List ℕ → Outcome
refused_echo_outcome e text = record { words = []; effects = []; after = e; events = error ParseFailed text ∷ []; following = dropped_rest }

-- ERROR with the cause Stale Cookie, under the tag that the peer has by the cookie
abbrev pub stale_emission : Cookie → Emission
stale_emission cookie = record { with_checksum = true; packet = record { tag = cookie.addressee.tag; contents = stale_error ∷ [] } }

-- A stale cookie is reported to the user. By the RFC it is reported to the peer too, if the packet fits (RFC 9260, section 5.1.5).
abbrev pub stale_outcome : Endpoint → Cookie → Outcome
stale_outcome e cookie =
    if e.options.follow_rfc
    then record (behind [] (error ParseFailed stale_text ∷ []) (emits e [] (stale_emission cookie))) { following = dropped_rest }
    else refused_echo_outcome e stale_text

-- SHUTDOWN ACK again, and ERROR with the cause Cookie Received While Shutting Down (RFC 9260, section 5.2.4, A)
abbrev pub shutting_down_emission : Held → Emission
shutting_down_emission held =
    record {
      with_checksum = held.capabilities.zero_checksum_method.0 == 0;
      packet = record { tag = held.peer.tag; contents = shutdown_ack ∷ shutting_down_error ∷ [] };
    }

abbrev pub refused_restart_outcome : Endpoint → Held → Outcome
refused_restart_outcome e held =
    record {
      words = [];
      effects = [];
      after = packet_counted e;
      events = sent (shutting_down_emission held) ∷ error WrongSequence shutting_down_text ∷ [];
      following = dropped_rest;
    }

-- ---- one that makes an association

-- the peer's window: no larger than the send buffer
abbrev pub window_by_cookie : Options → Cookie → ℕ
window_by_cookie options cookie = min cookie.window options.max_send_buffer_size

-- The association is established, and what belongs to it is new. The heartbeat interval starts again, and a running heartbeat
-- timeout continues.
abbrev pub endpoint_established : Endpoint → Cookie → EndpointQueues → ℕ → Endpoint
endpoint_established e cookie queues tie =
    record e {
      core = open_in established cookie.maker (held_by_cookie e.options cookie);
      tie = tie;
      outstanding = None;
      renewable = None;
      error_count = errors_begun e;
      heartbeat_sent = None;
      timers = heartbeats_begun e cookie.maker.tag (record stopped_timers { heartbeat_interval = e.timers.heartbeat_interval; heartbeat_timeout = e.timers.heartbeat_timeout });
      queues = queues;
      left = [];
    }

-- a packet that begins with COOKIE ACK to a cookie's addressee
abbrev pub cookie_ack_emission : Held → Cookie → Emission
cookie_ack_emission held cookie =
    record { with_checksum = held.capabilities.zero_checksum_method.0 == 0; packet = record { tag = cookie.addressee.tag; contents = cookie_ack ∷ [] } }

-- These events, and a flush that begins with COOKIE ACK.
abbrev pub establish_with_flush : FlushKind → Endpoint → Cookie → EndpointQueues → ℕ → List (Event Emission) → Outcome
establish_with_flush flush e cookie queues tie events =
    let held : Held = held_by_cookie e.options cookie in
    with_effects_first (holds (identity_of cookie.maker held) ∷ connects (identity_of cookie.maker held) ∷ [])
    (flush (endpoint_established e cookie queues tie) (U64 tie ∷ []) events (held.capabilities.zero_checksum_method.0 == 0) cookie.addressee.tag (cookie_ack ∷ []))

-- are messages of such an association numbered for interleaving?
abbrev pub interleaves : Endpoint → Cookie → Bool
interleaves e cookie = (held_by_cookie e.options cookie).capabilities.message_interleaving

-- nothing is in flight yet, and nothing was received; this waits to be sent
abbrev pub queues_with : Endpoint → Cookie → SendQueueState → EndpointQueues
queues_with e cookie queue =
    record {
      queue = queue;
      transfer = Some (new_transfer e.options (held_by_cookie e.options cookie).capabilities cookie.maker.first_tsn cookie.addressee.first_tsn (window_by_cookie e.options cookie));
    }

-- What waits to be sent starts again if there was a peer.
abbrev pub queues_begun : Endpoint → Cookie → EndpointQueues
queues_begun e cookie = queues_with e cookie (renumbered_queue e.queues.queue (interleaves e cookie) (window_by_cookie e.options cookie))

-- Otherwise what waits stays, numbered as negotiated; by the RFC its numbers start again, too (RFC 9260, sections 5.1 and 6.5).
abbrev pub queue_if_kept : Bool → Endpoint → Cookie → SendQueueState
queue_if_kept true e cookie = renumbered_queue e.queues.queue (interleaves e cookie) (window_by_cookie e.options cookie)
queue_if_kept false e cookie = numbered_for (interleaves e cookie) (window_by_cookie e.options cookie) e.queues.queue

abbrev pub queues_kept : Endpoint → Cookie → EndpointQueues
queues_kept e cookie = queues_with e cookie (queue_if_kept e.options.follow_rfc e cookie)

-- Was no request to reset streams begun yet, and can the other peer reset them if the one could? What was sent after a reset is
-- numbered by it, and the other peer knows of none.
abbrev pub asks_alike : Pair → Held → Capabilities → Bool
asks_alike mine held capabilities = held.own_next == mine.first_tsn && not (is_other held.capabilities.reconfig capabilities.reconfig)

-- Does what was sent to the one peer go to the other? By the RFC it does (RFC 9260, section 5.2.4, B), if nothing was
-- acknowledged and our own pair is the same. What the one has read without acknowledging it is sent again, too.
abbrev pub outlasts : Endpoint → Pair → Held → Cookie → Transfer → Bool
outlasts e mine held cookie transfer =
    (e.options.follow_rfc && mine.tag == cookie.maker.tag)
    && (asks_alike mine held (held_by_cookie e.options cookie).capabilities
    && outlasts_peer cookie.maker.first_tsn (held_by_cookie e.options cookie).capabilities transfer)

abbrev pub queues_if_kept : Bool → Endpoint → Cookie → Transfer → EndpointQueues
queues_if_kept true e cookie transfer =
    record e.queues { transfer = Some (transfer_kept e.moment e.options cookie.addressee.first_tsn (window_by_cookie e.options cookie) transfer) }
queues_if_kept false e cookie transfer = queues_begun e cookie

abbrev pub queues_for_other : Endpoint → Pair → Held → Cookie → Option Transfer → EndpointQueues
queues_for_other e mine held cookie None = queues_begun e cookie
queues_for_other e mine held cookie (Some transfer) = queues_if_kept (outlasts e mine held cookie transfer) e cookie transfer

-- Both sides began at the same time. What was sent may outlast the one peer while its COOKIE ACK is awaited.
abbrev pub queues_collided : Endpoint → Core → Cookie → EndpointQueues
queues_collided e (cookie_echoed mine held echoed) cookie = queues_for_other e mine held cookie e.queues.transfer
queues_collided e core cookie = queues_begun e cookie

abbrev pub establish_new_with_flush : FlushKind → Endpoint → Cookie → ℕ → Outcome
establish_new_with_flush flush e cookie tie = establish_with_flush flush e cookie (queues_kept e cookie) tie (connected ∷ [])

abbrev pub restart_with_flush : FlushKind → Endpoint → Cookie → ℕ → Outcome
restart_with_flush flush e cookie tie = establish_with_flush flush e cookie (queues_begun e cookie) tie (connection_restarted ∷ connected ∷ [])

abbrev pub collide_with_flush : FlushKind → Endpoint → Core → Cookie → ℕ → Outcome
collide_with_flush flush e core cookie tie = establish_with_flush flush e cookie (queues_collided e core cookie) tie (connected ∷ [])

abbrev pub restart_with_flush_by_phase : FlushKind → Endpoint → Cookie → ℕ → OpenPhase → Held → Outcome
restart_with_flush_by_phase flush e cookie tie shutdown_ack_sent held = refused_restart_outcome e held
restart_with_flush_by_phase flush e cookie tie phase held = restart_with_flush flush e cookie tie

abbrev pub restart_with_flush_by_core : FlushKind → Endpoint → Cookie → ℕ → Core → Outcome
restart_with_flush_by_core flush e cookie tie (open_in phase mine held) = restart_with_flush_by_phase flush e cookie tie phase held
restart_with_flush_by_core flush e cookie tie core = restart_with_flush flush e cookie tie

-- ---- one of the existing association

abbrev pub acknowledge_with_flush : FlushKind → Endpoint → Held → Cookie → List (Event Emission) → Outcome
acknowledge_with_flush flush e held cookie events = flush e [] events (held.capabilities.zero_checksum_method.0 == 0) cookie.addressee.tag (cookie_ack ∷ [])

abbrev pub maintain_with_flush : FlushKind → Endpoint → Cookie → Core → Outcome
maintain_with_flush flush e cookie (cookie_echoed mine held echoed) =
    with_effects_first (connects (identity_of mine held) ∷ []) (acknowledge_with_flush flush (connected_after e mine held) held cookie (connected ∷ []))
maintain_with_flush flush e cookie (open_in phase mine held) = acknowledge_with_flush flush e held cookie []
maintain_with_flush flush e cookie core = still e

-- ---- every case

-- Its change is `resolved_change`.
abbrev pub resolve_with_flush : FlushKind → Endpoint → Cookie → Core → ℕ → Resolution → Outcome
resolve_with_flush flush e cookie core word establish_new = establish_new_with_flush flush e cookie word
resolve_with_flush flush e cookie core word restart = restart_with_flush_by_core flush e cookie word core
resolve_with_flush flush e cookie core word simultaneous_init = collide_with_flush flush e core cookie word
resolve_with_flush flush e cookie core word discard = discard_outcome e
resolve_with_flush flush e cookie core word maintain_existing = maintain_with_flush flush e cookie core
resolve_with_flush flush e cookie core word invalid_tag = refused_echo_outcome e invalid_tag_text
resolve_with_flush flush e cookie core word stale = stale_outcome e cookie

abbrev pub is_last_tag : Option ℕ → ℕ → Bool
is_last_tag None header = false
is_last_tag (Some tag) header = header == tag

-- Is there no association, and is this the own tag of the last one? By the RFC none begins under it again (RFC 9260, section 5.3.1).
abbrev pub is_tag_over : Endpoint → Core → ℕ → Bool
is_tag_over e (cookie_echoed my held cookie) header = false
is_tag_over e (open_in phase my held) header = false
is_tag_over e core header = e.options.follow_rfc && is_last_tag e.last_tag header

-- Is there no association, and is a cookie with this tie tag none that this socket made? By the RFC none begins by it (RFC 9260,
-- section 5.1.5).
abbrev pub is_foreign : Endpoint → Core → ℕ → Bool
is_foreign e (cookie_echoed my held echoed) tie = false
is_foreign e (open_in phase my held) tie = false
is_foreign e core tie = e.options.follow_rfc && (e.secret == 0 || not (tie == e.secret))

-- Is a cookie too old to make an association, has it made one that is over, or is it forged?
abbrev pub is_spent : Endpoint → Core → ℕ → Cookie → Bool
is_spent e core header cookie =
    is_tag_over e core header || (is_foreign e core cookie.tie || is_stale (as_nanos e.options.cookie_lifetime) e.moment cookie)

-- the case, by that too
abbrev pub resolved_now : Endpoint → Core → ℕ → Cookie → Resolution
resolved_now e core header cookie = aged_resolution (is_spent e core header cookie) (resolve core e.tie e.secret header cookie)

-- By the association, the header tag and what the bytes read as; the word is the one that comes next, drawn or not. Its change is
-- `cookie_echo_change`.
abbrev pub cookie_echo_with_flush : FlushKind → Endpoint → Core → ℕ → Result Cookie (List ℕ) → ℕ → Outcome
cookie_echo_with_flush flush e core header (Err text) word = refused_echo_outcome e text
cookie_echo_with_flush flush e core header (Ok cookie) word = resolve_with_flush flush e cookie core word (resolved_now e core header cookie)

-- ---- the answers that its flush may get, if there is one

abbrev pub EstablishAnswers : Endpoint → Cookie → EndpointQueues → ℕ → List Answer → Type 0
EstablishAnswers e cookie queues tie answers =
    FlushAnswers (endpoint_established e cookie queues tie) (cookie_ack_emission (held_by_cookie e.options cookie) cookie) answers

abbrev pub RestartAnswersByPhase : Endpoint → Cookie → ℕ → OpenPhase → List Answer → Type 0
RestartAnswersByPhase e cookie tie shutdown_ack_sent answers = answers ≡ []
RestartAnswersByPhase e cookie tie phase answers = EstablishAnswers e cookie (queues_begun e cookie) tie answers

abbrev pub RestartAnswers : Endpoint → Cookie → ℕ → Core → List Answer → Type 0
RestartAnswers e cookie tie (open_in phase mine held) answers = RestartAnswersByPhase e cookie tie phase answers
RestartAnswers e cookie tie core answers = EstablishAnswers e cookie (queues_begun e cookie) tie answers

abbrev pub MaintainAnswers : Endpoint → Cookie → Core → List Answer → Type 0
MaintainAnswers e cookie (cookie_echoed mine held echoed) answers = FlushAnswers (connected_after e mine held) (cookie_ack_emission held cookie) answers
MaintainAnswers e cookie (open_in phase mine held) answers = FlushAnswers e (cookie_ack_emission held cookie) answers
MaintainAnswers e cookie core answers = answers ≡ []

abbrev pub ResolvedAnswers : Endpoint → Cookie → Core → ℕ → Resolution → List Answer → Type 0
ResolvedAnswers e cookie core word establish_new answers = EstablishAnswers e cookie (queues_kept e cookie) word answers
ResolvedAnswers e cookie core word restart answers = RestartAnswers e cookie word core answers
ResolvedAnswers e cookie core word simultaneous_init answers = EstablishAnswers e cookie (queues_collided e core cookie) word answers
ResolvedAnswers e cookie core word discard answers = answers ≡ []
ResolvedAnswers e cookie core word maintain_existing answers = MaintainAnswers e cookie core answers
ResolvedAnswers e cookie core word invalid_tag answers = answers ≡ []
ResolvedAnswers e cookie core word stale answers = answers ≡ []

abbrev pub EchoedAnswers : Endpoint → Core → ℕ → Result Cookie (List ℕ) → ℕ → List Answer → Type 0
EchoedAnswers e core header (Err text) word answers = answers ≡ []
EchoedAnswers e core header (Ok cookie) word answers = ResolvedAnswers e cookie core word (resolved_now e core header cookie) answers

-- a COOKIE ECHO is handled
abbrev pub CookieEchoTurn : Endpoint → ℕ → List ℕ → Outcome → Type 0
CookieEchoTurn e header bytes o =
    (word : ℕ) × (answers : List Answer) × EchoedAnswers e e.core header (cookie_of_bytes bytes) word answers
    × (o ≡ cookie_echo_with_flush (flush_answered answers) e e.core header (cookie_of_bytes bytes) word)

-- ---- if nothing waits, as it is so far

abbrev pub establish_outcome : Endpoint → Cookie → EndpointQueues → ℕ → List (Event Emission) → Outcome
establish_outcome e cookie queues tie events = establish_with_flush flush_outcome e cookie queues tie events

abbrev pub establish_new_outcome : Endpoint → Cookie → ℕ → Outcome
establish_new_outcome e cookie tie = establish_new_with_flush flush_outcome e cookie tie

abbrev pub collide_outcome : Endpoint → Core → Cookie → ℕ → Outcome
collide_outcome e core cookie tie = collide_with_flush flush_outcome e core cookie tie

abbrev pub restart_outcome : Endpoint → Cookie → ℕ → Outcome
restart_outcome e cookie tie = restart_with_flush flush_outcome e cookie tie

abbrev pub restart_outcome_by_phase : Endpoint → Cookie → ℕ → OpenPhase → Held → Outcome
restart_outcome_by_phase e cookie tie phase held = restart_with_flush_by_phase flush_outcome e cookie tie phase held

abbrev pub restart_outcome_by_core : Endpoint → Cookie → ℕ → Core → Outcome
restart_outcome_by_core e cookie tie core = restart_with_flush_by_core flush_outcome e cookie tie core

abbrev pub maintain_outcome : Endpoint → Cookie → Core → Outcome
maintain_outcome e cookie core = maintain_with_flush flush_outcome e cookie core

abbrev pub resolved_outcome : Endpoint → Cookie → Core → ℕ → Resolution → Outcome
resolved_outcome e cookie core word resolution = resolve_with_flush flush_outcome e cookie core word resolution

abbrev pub cookie_echo_outcome : Endpoint → Core → ℕ → Result Cookie (List ℕ) → ℕ → Outcome
cookie_echo_outcome e core header read word = cookie_echo_with_flush flush_outcome e core header read word
