-- Outside examples of what a socket does with an INIT, computed by the definitions: a wrong rule in specs/
-- would not check here.
use Rattle.std.proofs.Common.{◌≡◌, ℕ, Bool, true, false, Some, Err, List, [], ◌∷◌, ◌++◌, refl, arith}
use Rattle.std.specs.Prelude.{codes, replicate, take, drop}
use Rattle.dcsctp_types.specs.wire.Spelling.{parameter_bytes, parameters_len, init_fields, parameter_chunk_bytes, other_bytes, header_bytes, checksum_field, packet_bytes_of}
use Rattle.dcsctp_types.specs.declared.association.Pair.{Pair}
use Rattle.dcsctp_types.specs.declared.association.Held.{Held}
use Rattle.dcsctp_types.specs.declared.association.Phase.TheVariants as phases
use Rattle.dcsctp_types.specs.declared.capabilities.Capabilities.{Capabilities}
use Rattle.dcsctp_types.specs.declared.kinds.ErrorKind.TheVariants.{ParseFailed}
use Rattle.dcsctp_types.specs.declared.options.Options.{Options}
use Rattle.dcsctp_types.specs.declared.word.Word.TheVariants.{U32}
use Rattle.dcsctp_types.specs.Settings.{packet_size_limit, IsValid, ports_of, wire_options}
use Rattle.dcsctp_spec.specs.endpoint.Event.{Event, sent, connected, closed as is_closed, error}
use Rattle.dcsctp_types.specs.Offer.{offer_of}
use Rattle.dcsctp_spec.specs.Cookie.{cookie_bytes, cookie_of_bytes}
use Rattle.dcsctp_spec.specs.Packet.{Introduction, Content, init_ack, shutdown_ack, Emission, emission_bytes}
use Rattle.dcsctp_spec.specs.queues.SendQueue.{empty_queue}
use Rattle.dcsctp_spec.specs.queues.Transfer.{new_transfer}
use Rattle.dcsctp_spec.specs.queues.Retransmission.{new_retransmission}
use Rattle.dcsctp_spec.specs.Admission.{refused, single_init_text, admits}
use Rattle.dcsctp_spec.specs.endpoint.Endpoint.{Endpoint, closed, cookie_wait, cookie_echoed, open_in, established, shutdown_pending, shutdown_sent, shutdown_received, shutdown_ack_sent, association_of, own_tag, may_answer}
use Rattle.dcsctp_spec.specs.endpoint.Outcome.{Outcome, still}
use Rattle.dcsctp_spec.specs.endpoint.Following.{next_chunk}
use Rattle.dcsctp_spec.specs.endpoint.Turn.{arrival, arrival_outcome, refusal_outcome, unreadable_text}
use Rattle.dcsctp_spec.specs.association.Effect.{draws}
use Rattle.dcsctp_spec.specs.endpoint.CallTurns.{Transition, words_of, events_of}
use Rattle.dcsctp_spec.specs.endpoint.HandshakeOutcomes.{cookie_for, init_outcome, init_answered}

-- ---- options

-- the options that count here, with an MTU; the others are left open
configured : Options → ℕ → Options
configured options mtu =
    record options {
      local_port = 5000;
      remote_port = 5001;
      mtu = mtu;
      announced_maximum_incoming_streams = 10;
      announced_maximum_outgoing_streams = 20;
      max_receiver_window_buffer_size = 5242880;
      max_send_buffer_size = 2000000;
      enable_partial_reliability = true;
      enable_message_interleaving = false;
      zero_checksum_alternate_error_detection_method = record { 0 = 1 };
      disable_checksum_verification = false;
    }

offer_is_made : (options : Options) → offer_of (configured options 1191)
    ≡ record { partial_reliability = true; message_interleaving = false; reconfig = true; zero_checksum_method = 1; inbound_streams = 10; outbound_streams = 20 }
unfolding configured
offer_is_made options = refl

reader_is_made : (options : Options) → wire_options (configured options 1191)
    ≡ record { local_port = 5000; disable_checksum_verification = false; zero_checksum_alternate_error_detection_method = 1 }
unfolding configured
reader_is_made options = refl

method_is_passed_on : (options : Options) → (wire_options (record options { zero_checksum_alternate_error_detection_method = record { 0 = 7 } })).zero_checksum_alternate_error_detection_method ≡ 7
method_is_passed_on options = refl

-- The size is rounded down to a multiple of 4.
size_is_rounded : (options : Options) → packet_size_limit (configured options 1191) ≡ 1188
unfolding configured
size_is_rounded options = refl

size_of_31_is_refused : (options : Options) → IsValid (configured options 31) → ⊥
unfolding configured
size_of_31_is_refused options h = absurd (omega (arith, h.least_size))

size_of_32_is_valid : (options : Options) → IsValid (configured options 32)
unfolding configured
size_of_32_is_valid options = record { least_size = omega arith; greatest_size = omega arith; receive_window = omega arith; send_buffer = omega arith }

-- SHUTDOWN ACK is chunk type 8.
ports_and_tag : (options : Options) → emission_bytes (ports_of (configured options 1191)) (record { with_checksum = false; packet = record { tag = 7; contents = shutdown_ack ∷ [] } })
    ≡ 0x13 ∷ 0x88 ∷ 0x13 ∷ 0x89 ∷ 0 ∷ 0 ∷ 0 ∷ 7 ∷ 0 ∷ 0 ∷ 0 ∷ 0 ∷ 8 ∷ 0 ∷ 0 ∷ 4 ∷ []
unfolding configured other_bytes header_bytes checksum_field packet_bytes_of
ports_and_tag options = refl

-- ---- cookies that are refused

wrong_first_word : cookie_of_bytes (codes "dcSXTPr0" ++ replicate 48 1) ≡ Err (codes "Invalid state cookie magic")
unfolding cookie_of_bytes
wrong_first_word = refl

wrong_second_word : cookie_of_bytes (codes "dcSCTPr1" ++ replicate 48 1) ≡ Err (codes "Invalid state cookie magic")
unfolding cookie_of_bytes
wrong_second_word = refl

no_addressee_tag : cookie_of_bytes (codes "dcSCTPr0" ++ replicate 4 0 ++ replicate 44 1) ≡ Err (codes "Invalid verification tag in state cookie")
unfolding cookie_of_bytes
no_addressee_tag = refl

no_maker_tag : cookie_of_bytes (codes "dcSCTPr0" ++ replicate 4 1 ++ replicate 4 0 ++ replicate 40 1) ≡ Err (codes "Invalid verification tag in state cookie")
unfolding cookie_of_bytes
no_maker_tag = refl

size_comes_first : cookie_of_bytes [] ≡ Err (codes "Invalid state cookie size")
unfolding cookie_of_bytes
size_comes_first = refl

-- ---- an INIT (RFC 9260, sections 5.1 and 5.2)

-- from a peer with the same method
theirs : Introduction
theirs =
    record {
      pair = record { tag = 7; first_tsn = 100 };
      offer = record { partial_reliability = false; message_interleaving = true; reconfig = true; zero_checksum_method = 1; inbound_streams = 30; outbound_streams = 40 };
      window = 1500;
    }

nothing_negotiated : Capabilities
nothing_negotiated =
    record {
      partial_reliability = false;
      message_interleaving = false;
      reconfig = false;
      zero_checksum_method = record { 0 = 0 };
      negotiated_maximum_incoming_streams = 0;
      negotiated_maximum_outgoing_streams = 0;
    }

-- a socket that has sent four packets
socket : Endpoint → ℕ → ℕ → Endpoint
socket e mtu packets_sent =
    record e {
      moment = 5_000_000_000;
      options = record (configured e.options mtu) { follow_rfc = false };
      tie = 77;
      secret = 0;
      counts = record { packets_received = 3; packets_sent = packets_sent; messages_queued = 5 };
      queues = record { queue = empty_queue e.options; transfer = Some (record (new_transfer e.options nothing_negotiated 0 0 0) { retransmission = new_retransmission e.options 0xffffffff 0 false false }) };
    }

-- the answer without a checksum, of this pair and with this tie tag in the cookie
answer : ℕ → ℕ → ℕ → List ℕ → Content
answer a b c cookie = init_ack (record { pair = record { tag = a; first_tsn = b }; offer = record { partial_reliability = true; message_interleaving = false; reconfig = true; zero_checksum_method = 1; inbound_streams = 10; outbound_streams = 20 }; window = c }) (Some cookie)

-- a closed socket draws two words
closed_cookie : List ℕ
closed_cookie =
    0x64 ∷ 0x63 ∷ 0x53 ∷ 0x43 ∷ 0x54 ∷ 0x50 ∷ 0x72 ∷ 0x30 ∷ 0 ∷ 0 ∷ 0 ∷ 7 ∷ 0 ∷ 0 ∷ 0 ∷ 10 ∷ 0 ∷ 0 ∷ 0 ∷ 100 ∷ 0 ∷ 0 ∷ 0 ∷ 5
    ∷ 0 ∷ 0 ∷ 5 ∷ 0xdc ∷ 0 ∷ 0 ∷ 0 ∷ 0 ∷ 0 ∷ 0 ∷ 0 ∷ 0 ∷ 0 ∷ 1 ∷ 1 ∷ 0 ∷ 0 ∷ 0 ∷ 0 ∷ 1 ∷ 0 ∷ 40 ∷ 0 ∷ 30 ∷ 0 ∷ 0 ∷ 0 ∷ 1 ∷ 0x2a ∷ 0x05 ∷ 0xf2 ∷ 0 ∷ []

init_where_closed : (e : Endpoint) → init_outcome (socket e 1191 4) theirs closed 5 9
    ≡ record { words = U32 5 ∷ U32 9 ∷ []; effects = draws (record { tag = 10; first_tsn = 5 }) ∷ []; after = socket e 1191 5; events = sent (record { with_checksum = false; packet = record { tag = 7; contents = answer 10 5 5242880 closed_cookie ∷ [] } }) ∷ []; following = next_chunk }
unfolding configured theirs socket answer closed_cookie cookie_bytes parameter_chunk_bytes init_fields parameters_len parameter_bytes
init_where_closed e = refl

-- by the RFC's rules, with this secret
by_rfc : Endpoint → ℕ → Endpoint
by_rfc e secret = let old : Options = e.options in record e { options = record old { follow_rfc = true }; secret = secret }

-- The first pair that is drawn, 10 and 5, is the secret that the cookie bears from byte 28 on.
first_secret : (e : Endpoint) → (init_outcome (by_rfc (socket e 1191 4) 0) theirs closed 5 9).after ≡ by_rfc (socket e 1191 5) 0xa_0000_0005
unfolding configured theirs socket by_rfc cookie_bytes parameter_chunk_bytes init_fields parameters_len parameter_bytes
first_secret e = refl

bears_secret : take 8 (drop 28 (cookie_bytes (cookie_for 0 theirs (record { tag = 10; first_tsn = 5 }) 0xa_0000_0005)))
    ≡ 0 ∷ 0 ∷ 0 ∷ 10 ∷ 0 ∷ 0 ∷ 0 ∷ 5 ∷ []
unfolding theirs cookie_bytes
bears_secret = refl

-- It stays, whatever pair is drawn later.
kept_secret : (e : Endpoint) → (init_outcome (by_rfc (socket e 1191 4) 3) theirs closed 5 9).after.secret ≡ 3
unfolding configured theirs socket by_rfc cookie_bytes parameter_chunk_bytes init_fields parameters_len parameter_bytes
kept_secret e = refl

-- The answer has 112 bytes: 12, 20, 4, 8, 8 and 60.
answer_that_fits : (e : Endpoint) → (init_outcome (socket e 112 4) theirs closed 5 9).after ≡ socket e 112 5
unfolding configured theirs socket cookie_bytes parameter_chunk_bytes init_fields parameters_len parameter_bytes
answer_that_fits e = refl

-- It is neither sent nor counted, and yet two words are drawn.
answer_that_does_not_fit : (e : Endpoint) → init_outcome (socket e 111 4) theirs closed 5 9 ≡ record { words = U32 5 ∷ U32 9 ∷ []; effects = draws (record { tag = 10; first_tsn = 5 }) ∷ []; after = socket e 111 4; events = []; following = next_chunk }
unfolding configured theirs socket cookie_bytes parameter_chunk_bytes init_fields parameters_len parameter_bytes
answer_that_does_not_fit e = refl

waiting_cookie : List ℕ
waiting_cookie =
    0x64 ∷ 0x63 ∷ 0x53 ∷ 0x43 ∷ 0x54 ∷ 0x50 ∷ 0x72 ∷ 0x30 ∷ 0 ∷ 0 ∷ 0 ∷ 7 ∷ 0 ∷ 0 ∷ 0 ∷ 11 ∷ 0 ∷ 0 ∷ 0 ∷ 100 ∷ 0 ∷ 0 ∷ 0 ∷ 22
    ∷ 0 ∷ 0 ∷ 5 ∷ 0xdc ∷ 0 ∷ 0 ∷ 0 ∷ 0 ∷ 0 ∷ 0 ∷ 0 ∷ 0 ∷ 0 ∷ 1 ∷ 1 ∷ 0 ∷ 0 ∷ 0 ∷ 0 ∷ 1 ∷ 0 ∷ 40 ∷ 0 ∷ 30 ∷ 0 ∷ 0 ∷ 0 ∷ 1 ∷ 0x2a ∷ 0x05 ∷ 0xf2 ∷ 0 ∷ []

-- our pair
mine : Pair
mine = record { tag = 11; first_tsn = 22 }

init_in_cookie_wait : (e : Endpoint) → init_outcome (socket e 1191 4) theirs (cookie_wait mine) 5 9
    ≡ record { words = []; effects = []; after = socket e 1191 5; events = sent (record { with_checksum = false; packet = record { tag = 7; contents = answer 11 22 5242880 waiting_cookie ∷ [] } }) ∷ []; following = next_chunk }
unfolding configured theirs socket answer waiting_cookie mine cookie_bytes parameter_chunk_bytes init_fields parameters_len parameter_bytes
init_in_cookie_wait e = refl

init_in_cookie_echoed : (e : Endpoint) (held : Held) → init_outcome (socket e 1191 4) theirs (cookie_echoed mine held []) 5 9
    ≡ record { words = []; effects = []; after = socket e 1191 5; events = sent (record { with_checksum = false; packet = record { tag = 7; contents = answer 11 22 5242880 waiting_cookie ∷ [] } }) ∷ []; following = next_chunk }
unfolding configured theirs socket answer waiting_cookie mine cookie_bytes parameter_chunk_bytes init_fields parameters_len parameter_bytes
init_in_cookie_echoed e held = refl

-- a fresh tag from one word, a TSN that is a million on, round 2^32, and the tie tag
open_cookie : List ℕ
open_cookie =
    0x64 ∷ 0x63 ∷ 0x53 ∷ 0x43 ∷ 0x54 ∷ 0x50 ∷ 0x72 ∷ 0x30 ∷ 0 ∷ 0 ∷ 0 ∷ 7 ∷ 0 ∷ 0 ∷ 0 ∷ 6 ∷ 0 ∷ 0 ∷ 0 ∷ 100 ∷ 0 ∷ 0x0f ∷ 0x42 ∷ 0x3f
    ∷ 0 ∷ 0 ∷ 5 ∷ 0xdc ∷ 0 ∷ 0 ∷ 0 ∷ 0 ∷ 0 ∷ 0 ∷ 0 ∷ 77 ∷ 0 ∷ 1 ∷ 1 ∷ 0 ∷ 0 ∷ 0 ∷ 0 ∷ 1 ∷ 0 ∷ 40 ∷ 0 ∷ 30 ∷ 0 ∷ 0 ∷ 0 ∷ 1 ∷ 0x2a ∷ 0x05 ∷ 0xf2 ∷ 0 ∷ []

answered_where_open : Endpoint → Outcome
answered_where_open e = record { words = U32 5 ∷ []; effects = draws (record { tag = 6; first_tsn = 999999 }) ∷ []; after = socket e 1191 5; events = sent (record { with_checksum = false; packet = record { tag = 7; contents = answer 6 999999 5242880 open_cookie ∷ [] } }) ∷ []; following = next_chunk }

init_in_established : (e : Endpoint) (held : Held) → init_outcome (socket e 1191 4) theirs (open_in established mine held) 5 9 ≡ answered_where_open e
unfolding configured theirs socket answer open_cookie answered_where_open cookie_bytes parameter_chunk_bytes init_fields parameters_len parameter_bytes
init_in_established e held = refl

init_in_shutdown_pending : (e : Endpoint) (held : Held) → init_outcome (socket e 1191 4) theirs (open_in shutdown_pending mine held) 5 9 ≡ answered_where_open e
unfolding configured theirs socket answer open_cookie answered_where_open cookie_bytes parameter_chunk_bytes init_fields parameters_len parameter_bytes
init_in_shutdown_pending e held = refl

init_in_shutdown_sent : (e : Endpoint) (held : Held) → init_outcome (socket e 1191 4) theirs (open_in shutdown_sent mine held) 5 9 ≡ answered_where_open e
unfolding configured theirs socket answer open_cookie answered_where_open cookie_bytes parameter_chunk_bytes init_fields parameters_len parameter_bytes
init_in_shutdown_sent e held = refl

init_in_shutdown_received : (e : Endpoint) (held : Held) → init_outcome (socket e 1191 4) theirs (open_in shutdown_received mine held) 5 9 ≡ answered_where_open e
unfolding configured theirs socket answer open_cookie answered_where_open cookie_bytes parameter_chunk_bytes init_fields parameters_len parameter_bytes
init_in_shutdown_received e held = refl

-- Here SHUTDOWN ACK goes to the peer that is held, and no word is drawn (RFC 9260, section 9.2).
init_in_shutdown_ack_sent : (e : Endpoint) (held : Held) → init_outcome (socket e 1191 4) theirs (open_in shutdown_ack_sent mine (record held { peer = record { tag = 99; first_tsn = 1 }; capabilities = record held.capabilities { zero_checksum_method = record { 0 = 0 } } })) 5 9
    ≡ record { words = []; effects = []; after = socket e 1191 5; events = sent (record { with_checksum = true; packet = record { tag = 99; contents = shutdown_ack ∷ [] } }) ∷ []; following = next_chunk }
unfolding configured socket other_bytes
init_in_shutdown_ack_sent e held = refl

-- ---- a second INIT of a packet

-- a socket that has answered one, by whose rules
abbrev has_answered : Bool → Endpoint → Endpoint
has_answered follows e = record e { options = record e.options { follow_rfc = follows }; has_answered = true }

-- By the RFC's rules nothing comes of it,
second_init : (e : Endpoint) → init_answered (may_answer (has_answered true e)) (has_answered true e) theirs 5 9 ≡ still (has_answered true e)
second_init e = refl

-- by those of the port an answer.
second_init_by_port : (e : Endpoint) → may_answer (has_answered false e) ≡ true
second_init_by_port e = refl

-- The next packet has an answer again.
next_packet : (e : Endpoint) → may_answer (arrival_outcome (has_answered true e)).after ≡ true
next_packet e = refl

-- The first is counted.
first_init : (e : Endpoint) → (init_answered true e theirs 5 9).after.has_answered ≡ true
first_init e = refl

-- ---- the other turns

packet_is_counted : (e : Endpoint) → (arrival_outcome (record e { counts = record { packets_received = 3; packets_sent = 4; messages_queued = 5 } })).after
    ≡ record e { has_answered = false; counts = record { packets_received = 4; packets_sent = 4; messages_queued = 5 } }
packet_is_counted e = refl

bytes_are_reported : (e : Endpoint) → refusal_outcome e unreadable_text ≡ record { words = []; effects = []; after = e; events = error ParseFailed (codes "Failed to parse SCTP packet") ∷ []; following = next_chunk }
bytes_are_reported e = refl

init_ack_under_0 : admits closed (record { tag = 0; contents = answer 1 1 1 [] ∷ [] }) ≡ refused single_init_text
unfolding answer
init_ack_under_0 = refl

tag_in_cookie_wait : own_tag (cookie_wait mine) ≡ 11
unfolding mine
tag_in_cookie_wait = refl

tag_in_cookie_echoed : (held : Held) → own_tag (cookie_echoed mine held []) ≡ 11
unfolding mine
tag_in_cookie_echoed held = refl

tag_where_open : (held : Held) → own_tag (open_in shutdown_sent mine held) ≡ 11
unfolding mine
tag_where_open held = refl

phase_is_shown : (held : Held) → association_of (open_in shutdown_sent mine held) ≡ Some (record { phase = phases.ShutdownSent; my = mine; held = Some held })
phase_is_shown held = refl

-- Turns keep their order.
taken : Endpoint → ℕ → Event Emission → Transition
taken e word event = record { input = arrival; outcome = record { words = U32 word ∷ []; effects = []; after = e; events = event ∷ []; following = next_chunk } }

turns_in_order : (e : Endpoint) → events_of (taken e 1 connected ∷ taken e 2 is_closed ∷ []) ≡ connected ∷ is_closed ∷ []
unfolding taken
turns_in_order e = refl

words_in_order : (e : Endpoint) → words_of (taken e 1 connected ∷ taken e 2 is_closed ∷ []) ≡ U32 1 ∷ U32 2 ∷ []
unfolding taken
words_in_order e = refl
