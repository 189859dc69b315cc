-- What a COOKIE ECHO brings, as turns of a socket's view.
use Rattle.std.specs.Prelude.{◌≡◌, ◌==◌, ℕ, Bool, true, false, if◌then◌else◌, Option, None, Some, List, [], ◌∷◌}
use Rattle.rand_core.specs.Stream.{Stream}
use Rattle.dcsctp_core.specs.types.declared.association.Held.{Held}
use Rattle.dcsctp_core.specs.types.declared.kinds.ErrorKind.TheVariants.{ParseFailed}
use Rattle.dcsctp_core.specs.spec.Cookie.{Cookie}
use Rattle.dcsctp_core.specs.spec.endpoint.Event.{Event, connected, connection_restarted, error}
use Rattle.dcsctp_core.specs.spec.Packet.{Emission, cookie_ack}
use Rattle.dcsctp_core.specs.spec.queues.Transfer.{Transfer, EndpointQueues, new_transfer, transfer_kept}
use Rattle.dcsctp_core.specs.declared.transmission_control_block.TransmissionControlBlock.{TransmissionControlBlock}
use Rattle.dcsctp_core.specs.spec.endpoint.Endpoint.{Endpoint, Core, closed, cookie_wait, cookie_echoed, open_in, established, shutdown_ack_sent, held_by_core, stopped_timers, heartbeats_begun, errors_begun}
use Rattle.dcsctp_core.specs.spec.endpoint.Outcome.{Outcome, still, with_effects_first, behind, emits}
use Rattle.dcsctp_core.specs.spec.association.Effect.{connects, identity_of}
use Rattle.dcsctp_core.specs.spec.endpoint.FlushOutcomes.{Answer, FlushAnswers, FlushKind, flush_answered}
use Rattle.dcsctp_core.specs.spec.endpoint.HandshakeOutcomes.{connected_after}
use Rattle.dcsctp_core.specs.spec.endpoint.CookieEchoOutcomes.{refused_echo_outcome, stale_text, refused_restart_outcome, restart_with_flush_by_core, RestartAnswers, endpoint_established, window_by_cookie, queues_with, queues_kept, queue_if_kept, queues_begun, queues_collided, establish_with_flush, EstablishAnswers}
use Rattle.dcsctp_core.specs.spec.association.CookieEchoChanges.{held_by_cookie, stale_error}
use Rattle.dcsctp_core.specs.spec.endpoint.Following.{dropped_rest}
use Rattle.dcsctp_core.specs.View.{View, held_of, request_of, timer_of}
use Rattle.dcsctp_core.specs.Drawing.{long_word}

-- ---- COOKIE ACK

-- a packet to this peer that begins with it
abbrev pub cookie_ack_to : Held → Emission
cookie_ack_to held =
    record { with_checksum = held.capabilities.zero_checksum_method.0 == 0; packet = record { tag = held.peer.tag; contents = cookie_ack ∷ [] } }

-- these events, and a flush that begins with this packet
abbrev pub acknowledgement_with_flush : FlushKind → Endpoint → Held → List (Event Emission) → Outcome
acknowledgement_with_flush flush e held events = flush e [] events (held.capabilities.zero_checksum_method.0 == 0) held.peer.tag (cookie_ack ∷ [])

-- to the peer, if it is known
abbrev pub peer_acknowledged : FlushKind → Endpoint → Option Held → Outcome
peer_acknowledged flush e None = still e
peer_acknowledged flush e (Some held) = acknowledgement_with_flush flush e held []

abbrev pub AcknowledgedAnswers : Endpoint → Option Held → List Answer → Type 0
AcknowledgedAnswers e None answers = answers ≡ []
AcknowledgedAnswers e (Some held) answers = FlushAnswers e (cookie_ack_to held) answers

abbrev pub AcknowledgesEcho : {R : Type 0} → View R → Outcome → Type 0
AcknowledgesEcho view o =
    (answers : List Answer) × AcknowledgedAnswers view.endpoint (held_by_core view.endpoint.core) answers
    × (o ≡ peer_acknowledged (flush_answered answers) view.endpoint (held_by_core view.endpoint.core))

-- ---- a cookie that makes an association

-- the endpoint that holds this association
abbrev pub holding : Endpoint → TransmissionControlBlock → Endpoint
holding e tcb =
    record e {
      core = open_in established tcb.my (held_of tcb);
      tie = tcb.tie_tag;
      outstanding = request_of tcb.reset_request;
      error_count = errors_begun e;
      heartbeat_sent = None;
      renewable = None;
      timers = heartbeats_begun e tcb.my.tag (record stopped_timers {
        reconfiguration = timer_of tcb.reset_request;
        heartbeat_interval = e.timers.heartbeat_interval;
        heartbeat_timeout = e.timers.heartbeat_timeout;
      });
      queues = record e.queues { transfer = Some tcb.transfer };
      left = [];
    }

-- the endpoint without its association
abbrev pub unheld : Endpoint → Endpoint
unheld e =
    record e {
      core = closed;
      tie = 0;
      outstanding = None;
      timers = record stopped_timers { heartbeat_interval = e.timers.heartbeat_interval; heartbeat_timeout = e.timers.heartbeat_timeout };
      queues = record e.queues { transfer = None };
    }

-- the endpoint that holds a cookie's association; what waits to be sent stays
abbrev pub established_with : Endpoint → Cookie → ℕ → Endpoint
established_with e cookie tie = endpoint_established e cookie (queues_with e cookie (queue_if_kept false e cookie)) tie

-- what was sent, once it goes to a cookie's addressee; nothing if there was no peer
abbrev pub transfer_over : Endpoint → Cookie → Option Transfer → Transfer
transfer_over e cookie None =
    new_transfer e.options (held_by_cookie e.options cookie).capabilities cookie.maker.first_tsn cookie.addressee.first_tsn (window_by_cookie e.options cookie)
transfer_over e cookie (Some transfer) = transfer_kept e.moment e.options cookie.addressee.first_tsn (window_by_cookie e.options cookie) transfer

abbrev pub queues_over : Endpoint → Cookie → EndpointQueues
queues_over e cookie = record e.queues { transfer = Some (transfer_over e cookie e.queues.transfer) }

-- The same, made of the existing association.
abbrev pub taken_over : Endpoint → Cookie → ℕ → Endpoint
taken_over e cookie tie = endpoint_established e cookie (queues_over e cookie) tie

-- An association is made of a cookie, with these queues and after these events. The tie tag is the word that the generator gives
-- next.
abbrev pub MakesAssociation : {R : Type 0} → (R → Stream) → Cookie → EndpointQueues → List (Event Emission) → View R → Outcome → Type 0
MakesAssociation stream cookie queues events view o =
    let tie : ℕ = long_word (stream view.generator) in
    (answers : List Answer) × EstablishAnswers view.endpoint cookie queues tie answers
    × (o ≡ establish_with_flush (flush_answered answers) view.endpoint cookie queues tie events)

-- What waits to be sent is kept.
abbrev pub EstablishesAssociation : {R : Type 0} → (R → Stream) → Cookie → View R → Outcome → Type 0
EstablishesAssociation stream cookie view o =
    MakesAssociation stream cookie (queues_with view.endpoint cookie (queue_if_kept false view.endpoint cookie)) (connected ∷ []) view o

-- That is so where there was no association, unless its numbers start again by the RFC.
abbrev pub EstablishesFirst : {R : Type 0} → (R → Stream) → Cookie → View R → Outcome → Type 0
EstablishesFirst stream cookie view o = MakesAssociation stream cookie (queues_kept view.endpoint cookie) (connected ∷ []) view o

-- instead of the existing one
abbrev pub ReplacesAssociation : {R : Type 0} → (R → Stream) → Cookie → View R → Outcome → Type 0
ReplacesAssociation stream cookie view o = MakesAssociation stream cookie (queues_begun view.endpoint cookie) (connected ∷ []) view o

-- What was sent goes to its peer.
abbrev pub OutlastsAssociation : {R : Type 0} → (R → Stream) → Cookie → View R → Outcome → Type 0
OutlastsAssociation stream cookie view o = MakesAssociation stream cookie (queues_over view.endpoint cookie) (connected ∷ []) view o

-- since both sides began at the same time
abbrev pub CollidesWithPeer : {R : Type 0} → (R → Stream) → Cookie → View R → Outcome → Type 0
CollidesWithPeer stream cookie view o =
    MakesAssociation stream cookie (queues_collided view.endpoint view.endpoint.core cookie) (connected ∷ []) view o

-- since the peer has restarted
abbrev pub RestartsAssociation : {R : Type 0} → (R → Stream) → Cookie → View R → Outcome → Type 0
RestartsAssociation stream cookie view o = MakesAssociation stream cookie (queues_begun view.endpoint cookie) (connection_restarted ∷ connected ∷ []) view o

-- ---- the others

-- a cookie of the existing association: the answer goes to the peer
abbrev pub maintained_with_flush : FlushKind → Endpoint → Core → Outcome
maintained_with_flush flush e closed = still e
maintained_with_flush flush e (cookie_wait mine) = still e
maintained_with_flush flush e (cookie_echoed mine held echoed) =
    with_effects_first (connects (identity_of mine held) ∷ []) (acknowledgement_with_flush flush (connected_after e mine held) held (connected ∷ []))
maintained_with_flush flush e (open_in phase mine held) = acknowledgement_with_flush flush e held []

abbrev pub MaintainedAnswers : Endpoint → Core → List Answer → Type 0
MaintainedAnswers e (cookie_echoed mine held echoed) answers = FlushAnswers (connected_after e mine held) (cookie_ack_to held) answers
MaintainedAnswers e (open_in phase mine held) answers = FlushAnswers e (cookie_ack_to held) answers
MaintainedAnswers e core answers = answers ≡ []

abbrev pub MaintainsAssociation : {R : Type 0} → View R → Outcome → Type 0
MaintainsAssociation view o =
    (answers : List Answer) × MaintainedAnswers view.endpoint view.endpoint.core answers
    × (o ≡ maintained_with_flush (flush_answered answers) view.endpoint view.endpoint.core)

-- A SHUTDOWN ACK waits for its answer.
abbrev pub awaits_complete : Core → Bool
awaits_complete (open_in shutdown_ack_sent mine held) = true
awaits_complete core = false

-- A restart, unless a SHUTDOWN ACK waits for its answer.
abbrev pub RestartsUnlessShuttingDown : {R : Type 0} → (R → Stream) → Cookie → View R → Outcome → Type 0
RestartsUnlessShuttingDown stream cookie view o =
    let tie : ℕ = long_word (stream view.generator) in
    (answers : List Answer) × RestartAnswers view.endpoint cookie tie view.endpoint.core answers
    × (o ≡ restart_with_flush_by_core (flush_answered answers) view.endpoint cookie tie view.endpoint.core)

-- to the peer, if it is known
abbrev pub refused_restart_to : Endpoint → Option Held → Outcome
refused_restart_to e None = still e
refused_restart_to e (Some held) = refused_restart_outcome e held

abbrev pub refused_restart_turn : {R : Type 0} → View R → Outcome
refused_restart_turn view = refused_restart_to view.endpoint (held_by_core view.endpoint.core)

-- A COOKIE ECHO is refused with this text.
abbrev pub refuse_turn : {R : Type 0} → List ℕ → View R → Outcome
refuse_turn text view = refused_echo_outcome view.endpoint text

-- ERROR with the cause Stale Cookie, under this tag
abbrev pub stale_to : ℕ → Emission
stale_to tag = record { with_checksum = true; packet = record { tag = tag; contents = stale_error ∷ [] } }

-- It is sent, if it fits.
abbrev pub stale_sent_turn : {R : Type 0} → ℕ → View R → Outcome
stale_sent_turn tag view = emits view.endpoint [] (stale_to tag)

-- A stale cookie of a peer with this tag is reported to the user; by the RFC to the peer, too.
abbrev pub stale_outcome_for_peer : Endpoint → ℕ → Outcome
stale_outcome_for_peer e tag =
    if e.options.follow_rfc
    then record (behind [] (error ParseFailed stale_text ∷ []) (emits e [] (stale_to tag))) { following = dropped_rest }
    else refused_echo_outcome e stale_text

abbrev pub stale_turn : {R : Type 0} → ℕ → View R → Outcome
stale_turn tag view = stale_outcome_for_peer view.endpoint tag
