-- The turns of the handshake (RFC 9260, sections 5.1 and 5.2).
use Rattle.std.specs.Prelude.{◌≡◌, ◌==◌, ℕ, ◌+◌, ◌-◌, ◌%◌, ◌^◌, Bool, true, false, Option, None, Some, List, [], ◌∷◌, length, nat_le, nat_eq, codes, if◌then◌else◌}
use Rattle.std.specs.List.{starts_with}
use Rattle.std.specs.Duration.{as_nanos}
use Rattle.dcsctp_types.specs.declared.association.Pair.{Pair}
use Rattle.dcsctp_types.specs.declared.association.Held.{Held}
use Rattle.dcsctp_types.specs.declared.word.Word.{Word}
use Rattle.dcsctp_types.specs.declared.word.Word.TheVariants.{U32, U64}
use Rattle.dcsctp_types.specs.declared.kinds.ErrorKind.TheVariants.{ProtocolViolation}
use Rattle.dcsctp_types.specs.declared.kinds.SctpImplementation.{SctpImplementation}
use Rattle.dcsctp_types.specs.declared.kinds.SctpImplementation.TheVariants.{Unknown, DcsctpRs, DcsctpCc, UsrSctp}
use Rattle.dcsctp_types.specs.wire.Numbers.{state_cookie_type}
use Rattle.dcsctp_types.specs.Offer.{offer_of, answering_offer, agreed_method}
use Rattle.dcsctp_spec.specs.Cookie.{Cookie, cookie_bytes, cookie_moment}
use Rattle.dcsctp_spec.specs.endpoint.Cause.{missing_mandatory_parameter}
use Rattle.dcsctp_spec.specs.endpoint.Event.{aborted, connected}
use Rattle.dcsctp_spec.specs.Packet.{Introduction, Content, init, init_ack, cookie_echo, abort, shutdown_ack, Emission}
use Rattle.dcsctp_spec.specs.queues.SendQueue.{SendQueueState, queue_restarted, numbered_for}
use Rattle.dcsctp_spec.specs.queues.Transfer.{new_transfer, next_tsn_of}
use Rattle.dcsctp_spec.specs.endpoint.Endpoint.{Endpoint, Core, closed, cookie_wait, cookie_echoed, open_in, OpenPhase, established, shutdown_ack_sent, heartbeats_begun, t1_settings, errors_begun, may_answer, secret_with, with_secret}
use Rattle.dcsctp_spec.specs.endpoint.Timers.{started_timer}
use Rattle.dcsctp_spec.specs.endpoint.Outcome.{Outcome, still, quiet, fits, to_peer, emits, answering, with_effects_first, drawing}
use Rattle.dcsctp_spec.specs.association.Effect.{holds, connects, identity_of}
use Rattle.dcsctp_spec.specs.association.HandshakeChanges.{introduction_of, held_by_init_ack}
use Rattle.dcsctp_spec.specs.endpoint.FlushOutcomes.{Answer, FlushAnswers, FlushKind, draft_to, flush_answered, flush_outcome}
use Rattle.dcsctp_spec.specs.endpoint.EndOutcomes.{ended_outcome}

-- a verification tag from a random word: never 0
abbrev pub tag_from : ℕ → ℕ
tag_from word = 1 + word % (2 ^ 32 - 2)

-- a first TSN from a random word
abbrev pub first_tsn_from : ℕ → ℕ
first_tsn_from word = word % (2 ^ 32 - 1)

-- a pair from two words in the order in which they are drawn
abbrev pub pair_from : ℕ → ℕ → Pair
pair_from word next = record { tag = tag_from next; first_tsn = first_tsn_from word }

-- ---- INIT

-- the cookie in the answer to an INIT, made at this moment
abbrev pub cookie_for : ℕ → Introduction → Pair → ℕ → Cookie
cookie_for now theirs mine tie = record { maker = mine; addressee = theirs.pair; offer = theirs.offer; window = theirs.window; tie = tie; moment = cookie_moment now }

abbrev pub init_ack_for : Endpoint → Introduction → Pair → ℕ → Content
init_ack_for e theirs mine tie =
    init_ack (record {
      pair = mine;
      offer = answering_offer theirs.offer (offer_of e.options);
      window = e.options.max_receiver_window_buffer_size;
    }) (Some (cookie_bytes (cookie_for e.moment theirs mine tie)))

-- An INIT ACK is sent under the initiate tag of the INIT, without a checksum if zero checksum is negotiated (RFC 9653, section
-- 5.2).
abbrev pub init_ack_emission : Endpoint → Introduction → Pair → ℕ → Emission
init_ack_emission e theirs mine tie =
    record {
      with_checksum = agreed_method (offer_of e.options) theirs.offer == 0;
      packet = record { tag = theirs.pair.tag; contents = init_ack_for e theirs mine tie ∷ [] };
    }

abbrev pub answer_outcome : Endpoint → Introduction → List Word → Pair → ℕ → Outcome
answer_outcome e theirs words mine tie = emits e words (init_ack_emission e theirs mine tie)

-- how far a new first TSN is from those in use
abbrev pub tsn_gap : ℕ
tsn_gap = 1000000

-- a fresh tag, and a first TSN far from those in use (RFC 9260, section 5.2.2)
abbrev pub renewed_pair : Endpoint → ℕ → Pair
renewed_pair e word = record { tag = tag_from word; first_tsn = (next_tsn_of e.queues.transfer + tsn_gap) % 2 ^ 32 }

-- An INIT is answered with a pair that is drawn for it.
abbrev pub renewed_pair_outcome : Endpoint → Introduction → ℕ → Outcome
renewed_pair_outcome e theirs word = drawing (renewed_pair e word) (answer_outcome e theirs (U32 word ∷ []) (renewed_pair e word) e.tie)

-- where an association is open
abbrev pub init_outcome_where_open : Endpoint → Introduction → OpenPhase → Held → ℕ → Outcome
init_outcome_where_open e theirs shutdown_ack_sent held word = emits e [] (to_peer held shutdown_ack)
init_outcome_where_open e theirs phase held word = renewed_pair_outcome e theirs word

-- An INIT is answered with its own pair during a handshake, else with a drawn tag. A closed socket also draws the first TSN; an
-- open association takes one far from its own. The first pair that a closed socket draws is its secret, and none is kept else. The
-- association is unchanged in every phase. The words are those that come next, drawn or not.
abbrev pub init_outcome : Endpoint → Introduction → Core → ℕ → ℕ → Outcome
init_outcome e theirs closed word next =
    let mine : Pair = pair_from word next in
    drawing mine (answer_outcome (with_secret e mine) theirs (U32 word ∷ U32 next ∷ []) mine (secret_with e mine))
init_outcome e theirs (cookie_wait mine) word next = answer_outcome e theirs [] mine e.secret
init_outcome e theirs (cookie_echoed mine held cookie) word next = answer_outcome e theirs [] mine e.secret
init_outcome e theirs (open_in phase mine held) word next = init_outcome_where_open e theirs phase held word

-- by whether it may be answered; else no word is drawn
abbrev pub init_answered : Bool → Endpoint → Introduction → ℕ → ℕ → Outcome
init_answered false e theirs word next = still e
init_answered true e theirs word next = answering (init_outcome e theirs e.core word next)

-- An INIT is handled. With the option one of a packet is.
abbrev pub InitTurn : Endpoint → Introduction → Outcome → Type 0
InitTurn e theirs o = (word next : ℕ) × (o ≡ init_answered (may_answer e) e theirs word next)

-- ---- connect

-- INIT is sent under tag 0 (RFC 9260, section 8.5.1).
abbrev pub init_emission : Endpoint → Pair → Emission
init_emission e mine = record { with_checksum = true; packet = record { tag = 0; contents = init (introduction_of e.options mine) ∷ [] } }

-- an INIT ACK is awaited
abbrev pub awaits_init_ack : Endpoint → Pair → Endpoint
awaits_init_ack e mine =
    record e {
      core = cookie_wait mine;
      secret = secret_with e mine;
      timers = record e.timers { t1 = started_timer e.moment (t1_settings e.options (as_nanos e.options.t1_init_timeout)) };
    }

-- A closed socket draws a pair and begins an association. The words are those that come next, drawn or not.
abbrev pub connect_outcome : Endpoint → Core → ℕ → ℕ → Outcome
connect_outcome e closed word next =
    drawing (pair_from word next) (emits (awaits_init_ack e (pair_from word next)) (U32 word ∷ U32 next ∷ []) (init_emission e (pair_from word next)))
connect_outcome e core word next = still e

-- the user connects
abbrev pub ConnectTurn : Endpoint → Outcome → Type 0
ConnectTurn e o = (word next : ℕ) × (o ≡ connect_outcome e e.core word next)

-- ---- INIT ACK

abbrev pub no_cookie_text : List ℕ
no_cookie_text = codes "InitAck chunk doesn't contain a cookie"

-- ABORT with the cause Missing Mandatory Parameter (RFC 9260, section 3.3.10.2), under the INIT ACK's initiate tag
abbrev pub abort_emission : ℕ → Emission
abort_emission tag =
    record {
      with_checksum = true;
      packet = record { tag = tag; contents = abort false (missing_mandatory_parameter (state_cookie_type ∷ []) ∷ []) ∷ [] };
    }

abbrev pub refused_init_ack_outcome : Endpoint → ℕ → Outcome
refused_init_ack_outcome e tag = ended_outcome (emits e [] (abort_emission tag)) (aborted ProtocolViolation no_cookie_text)

-- how the cookies of known implementations begin
abbrev pub implementations : List (List ℕ × SctpImplementation)
implementations = (codes "dcSCTP00", DcsctpCc) ∷ (codes "dcSCTPr0", DcsctpRs) ∷ (codes "KAME-BSD", UsrSctp) ∷ []

abbrev pub implementation_named : List ℕ → List (List ℕ × SctpImplementation) → SctpImplementation
implementation_named cookie [] = Unknown
implementation_named cookie (row ∷ rows) = if starts_with nat_eq cookie row.0 then row.1 else implementation_named cookie rows

-- The peer's implementation, by the first 8 bytes of its cookie. The cookie must be longer than these.
abbrev pub implementation_of : List ℕ → SctpImplementation
implementation_of cookie = if nat_le (length cookie) 8 then Unknown else implementation_named cookie implementations

-- the queue as a new association with a peer of this window finds it, with its numbers started again
abbrev pub renumbered_queue : SendQueueState → Bool → ℕ → SendQueueState
renumbered_queue queue is_interleaved window = numbered_for is_interleaved window (queue_restarted queue)

-- the peer that an INIT ACK shows: a COOKIE ACK is awaited
abbrev pub awaits_cookie_ack : Endpoint → Pair → Introduction → List ℕ → ℕ → Endpoint
awaits_cookie_ack e mine theirs cookie tie =
    let held : Held = held_by_init_ack e.options mine theirs in
    record e {
      core = cookie_echoed mine held cookie;
      tie = tie;
      outstanding = None;
      error_count = errors_begun e;
      timers = record e.timers { t1 = started_timer e.moment (t1_settings e.options (as_nanos e.options.t1_cookie_timeout)); reconfiguration = None };
      peer_implementation = implementation_of cookie;
      queues = record {
        queue = renumbered_queue e.queues.queue held.capabilities.message_interleaving theirs.window;
        transfer = Some (new_transfer e.options held.capabilities mine.first_tsn theirs.pair.first_tsn theirs.window);
      };
      left = [];
    }

-- COOKIE ECHO is sent under the peer's tag, with a checksum, if it fits; else nothing is sent.
abbrev pub echo_emission : ℕ → List ℕ → Emission
echo_emission tag cookie = record { with_checksum = true; packet = record { tag = tag; contents = cookie_echo cookie ∷ [] } }

abbrev pub send_echo_with_flush : FlushKind → Endpoint → List Word → ℕ → List ℕ → Outcome
send_echo_with_flush flush e words tag cookie = if fits e (echo_emission tag cookie)
    then flush e words [] (echo_emission tag cookie).with_checksum tag (echo_emission tag cookie).packet.contents else quiet e words []

abbrev pub send_echo_outcome : Endpoint → List Word → ℕ → List ℕ → Outcome
send_echo_outcome e words tag cookie = send_echo_with_flush flush_outcome e words tag cookie

abbrev pub accept_init_ack_with_flush : FlushKind → Endpoint → Pair → Introduction → Option (List ℕ) → ℕ → Outcome
accept_init_ack_with_flush flush e mine theirs None tie = refused_init_ack_outcome e theirs.pair.tag
accept_init_ack_with_flush flush e mine theirs (Some cookie) tie =
    with_effects_first (holds (identity_of mine (held_by_init_ack e.options mine theirs)) ∷ [])
    (send_echo_with_flush flush (awaits_cookie_ack e mine theirs cookie tie) (U64 tie ∷ []) theirs.pair.tag cookie)

abbrev pub accepted_init_ack_outcome : Endpoint → Pair → Introduction → Option (List ℕ) → ℕ → Outcome
accepted_init_ack_outcome e mine theirs cookie tie = accept_init_ack_with_flush flush_outcome e mine theirs cookie tie

-- INIT ACK counts only in CookieWait (RFC 9260, section 5.2.3). The word is the one that comes next, drawn or not. Its change is
-- `init_ack_change`.
abbrev pub init_ack_with_flush : FlushKind → Endpoint → Introduction → Option (List ℕ) → Core → ℕ → Outcome
init_ack_with_flush flush e theirs cookie (cookie_wait mine) word = accept_init_ack_with_flush flush e mine theirs cookie word
init_ack_with_flush flush e theirs cookie core word = still e

abbrev pub init_ack_outcome : Endpoint → Introduction → Option (List ℕ) → Core → ℕ → Outcome
init_ack_outcome e theirs cookie core word = init_ack_with_flush flush_outcome e theirs cookie core word

-- The answers that its flush may get, if there is one.
abbrev pub EchoAnswers : Bool → Endpoint → ℕ → List ℕ → List Answer → Type 0
EchoAnswers true e tag cookie answers = FlushAnswers e (echo_emission tag cookie) answers
EchoAnswers false e tag cookie answers = answers ≡ []

abbrev pub InitAckAnswers : Endpoint → Introduction → Option (List ℕ) → Core → ℕ → List Answer → Type 0
InitAckAnswers e theirs (Some cookie) (cookie_wait mine) word answers =
    let after : Endpoint = awaits_cookie_ack e mine theirs cookie word in
    EchoAnswers (fits after (echo_emission theirs.pair.tag cookie)) after theirs.pair.tag cookie answers
InitAckAnswers e theirs cookie core word answers = answers ≡ []

-- an INIT ACK is handled
abbrev pub InitAckTurn : Endpoint → Introduction → Option (List ℕ) → Outcome → Type 0
InitAckTurn e theirs cookie o =
    (word : ℕ) × (answers : List Answer) × InitAckAnswers e theirs cookie e.core word answers
    × (o ≡ init_ack_with_flush (flush_answered answers) e theirs cookie e.core word)

-- ---- COOKIE ACK

-- The association is established. T1 is stopped, and the heartbeat interval starts again.
abbrev pub connected_after : Endpoint → Pair → Held → Endpoint
connected_after e mine held =
    record e { core = open_in established mine held; timers = heartbeats_begun e mine.tag (record e.timers { t1 = None }) }

-- COOKIE ACK counts only in CookieEchoed (RFC 9260, section 5.2.5). A flush follows. Its change is `cookie_ack_change`.
abbrev pub cookie_ack_with_flush : FlushKind → Endpoint → Core → Outcome
cookie_ack_with_flush flush e (cookie_echoed mine held cookie) =
    with_effects_first (connects (identity_of mine held) ∷ [])
    (flush (connected_after e mine held) [] (connected ∷ []) (held.capabilities.zero_checksum_method.0 == 0) held.peer.tag [])
cookie_ack_with_flush flush e core = still e

abbrev pub cookie_ack_outcome : Endpoint → Core → Outcome
cookie_ack_outcome e core = cookie_ack_with_flush flush_outcome e core

abbrev pub CookieAckAnswers : Endpoint → Core → List Answer → Type 0
CookieAckAnswers e (cookie_echoed mine held cookie) answers = FlushAnswers (connected_after e mine held) (draft_to held) answers
CookieAckAnswers e core answers = answers ≡ []

-- a COOKIE ACK is handled
abbrev pub CookieAckTurn : Endpoint → Outcome → Type 0
CookieAckTurn e o = (answers : List Answer) × CookieAckAnswers e e.core answers × (o ≡ cookie_ack_with_flush (flush_answered answers) e e.core)
