-- Outside examples of which packets are handled, computed by the definitions: a wrong line in
-- specs/Admission would not check here (RFC 9260, sections 8.4, 8.5 and 8.5.1).
use Rattle.std.proofs.Common.{◌≡◌, ℕ, true, false, List, [], ◌∷◌, refl}
use Rattle.std.specs.Prelude.{codes}
use Rattle.std.specs.Fmt.{padded_integral, digits, char_count}
use Rattle.dcsctp_types.specs.wire.Content.{data_chunk}
use Rattle.dcsctp_types.specs.declared.association.Pair.{Pair}
use Rattle.dcsctp_types.specs.declared.association.Held.{Held}
use Rattle.dcsctp_spec.specs.endpoint.Endpoint.{Core, closed, cookie_wait, cookie_echoed, open_in, established, shutdown_ack_sent}
use Rattle.dcsctp_spec.specs.Packet.{Content, init, cookie_echo, cookie_ack, abort, shutdown, shutdown_ack, shutdown_complete, plain, unworked, Packet}
use Rattle.dcsctp_spec.specs.Admission.{Admission, all_chunks, shutdown_acks_alone, refused, shutdown_acks_of, admits}

-- ---- sockets whose own tag is 9, of which the last two hold a peer with tag 7

mine : Pair
mine = record { tag = 9; first_tsn = 0 }

waiting : Core
waiting = cookie_wait mine

-- a peer with this tag
with_peer : Held → Held
with_peer held = record held { peer = record { tag = 7; first_tsn = 0 } }

echoing : Held → Core
echoing held = cookie_echoed mine (with_peer held) []

open_core : Held → Core
open_core held = open_in established mine (with_peer held)

-- about to end
ending : Held → Core
ending held = open_in shutdown_ack_sent mine (with_peer held)

packet : ℕ → List Content → Packet
packet tag contents = record { tag = tag; contents = contents }

an_init : Content
an_init = init (record {
  pair = record { tag = 7; first_tsn = 100 };
  offer = record { partial_reliability = true; message_interleaving = false; reconfig = true; zero_checksum_method = 0; inbound_streams = 10; outbound_streams = 20 };
  window = 1500;
})

-- a DATA chunk
a_data_chunk : Content
a_data_chunk = plain (unworked (data_chunk (record { flags = record { is_end = true; is_beginning = true; is_unordered = false; immediate_ack = false }; tsn = 0; stream_id = 0; ssn = 0; ppid = 0; payload = [] })))

abort_is_wrong : Admission
abort_is_wrong = refused (codes "ABORT chunk verification tag was wrong")

shutdown_complete_is_wrong : Admission
shutdown_complete_is_wrong = refused (codes "SHUTDOWN_COMPLETE chunk verification tag was wrong")

shutdown_ack_is_wrong : Admission
shutdown_ack_is_wrong = refused (codes "SHUTDOWN_ACK chunk verification tag was wrong")

not_a_single_init : Admission
not_a_single_init = refused (codes "Only a single INIT chunk can be present in packets sent on verification_tag = 0")

-- ---- ABORT

abort_under_own_tag : (held : Held) → admits (open_core held) (packet 9 (abort false [] ∷ [])) ≡ all_chunks
unfolding packet open_core mine
abort_under_own_tag held = refl

abort_under_peer_tag : (held : Held) → admits (open_core held) (packet 7 (abort false [] ∷ [])) ≡ abort_is_wrong
unfolding packet open_core mine with_peer abort_is_wrong
abort_under_peer_tag held = refl

reflected_abort_under_peer_tag : (held : Held) → admits (open_core held) (packet 7 (abort true [] ∷ [])) ≡ all_chunks
unfolding packet open_core mine with_peer
reflected_abort_under_peer_tag held = refl

reflected_abort_in_cookie_echoed : (held : Held) → admits (echoing held) (packet 7 (abort true [] ∷ [])) ≡ all_chunks
unfolding packet echoing mine with_peer
reflected_abort_in_cookie_echoed held = refl

reflected_abort_under_own_tag : (held : Held) → admits (open_core held) (packet 9 (abort true [] ∷ [])) ≡ abort_is_wrong
unfolding packet open_core mine with_peer abort_is_wrong
reflected_abort_under_own_tag held = refl

-- No peer is held in CookieWait and Closed.
reflected_abort_in_cookie_wait : admits waiting (packet 9 (abort true [] ∷ [])) ≡ abort_is_wrong
unfolding packet waiting mine abort_is_wrong
reflected_abort_in_cookie_wait = refl

reflected_abort_in_closed : admits closed (packet 0 (abort true [] ∷ [])) ≡ abort_is_wrong
unfolding packet abort_is_wrong
reflected_abort_in_closed = refl

-- In Closed our tag is 0, and all chunks are handled with the ABORT.
abort_in_closed : admits closed (packet 0 (an_init ∷ abort false [] ∷ a_data_chunk ∷ [])) ≡ all_chunks
unfolding packet an_init a_data_chunk
abort_in_closed = refl

abort_in_closed_under_another_tag : admits closed (packet 9 (abort false [] ∷ [])) ≡ abort_is_wrong
unfolding packet abort_is_wrong
abort_in_closed_under_another_tag = refl

-- The first ABORT counts.
first_abort_counts : (held : Held) → admits (open_core held) (packet 9 (a_data_chunk ∷ abort false [] ∷ abort true [] ∷ [])) ≡ all_chunks
unfolding packet open_core mine a_data_chunk
first_abort_counts held = refl

second_abort_does_not : (held : Held) → admits (open_core held) (packet 9 (abort true [] ∷ abort false [] ∷ [])) ≡ abort_is_wrong
unfolding packet open_core mine with_peer abort_is_wrong
second_abort_does_not held = refl

-- The line for ABORT is above all others.
abort_before_shutdown_complete : (held : Held) → admits (open_core held) (packet 7 (shutdown_complete true ∷ abort false [] ∷ [])) ≡ abort_is_wrong
unfolding packet open_core mine with_peer abort_is_wrong
abort_before_shutdown_complete held = refl

abort_before_cookie_echo : (held : Held) → admits (open_core held) (packet 8 (cookie_echo [] ∷ abort false [] ∷ [])) ≡ abort_is_wrong
unfolding packet open_core mine abort_is_wrong
abort_before_cookie_echo held = refl

-- ---- SHUTDOWN COMPLETE

shutdown_complete_under_own_tag : (held : Held) → admits (ending held) (packet 9 (shutdown_complete false ∷ [])) ≡ all_chunks
unfolding packet ending mine
shutdown_complete_under_own_tag held = refl

shutdown_complete_under_peer_tag : (held : Held) → admits (ending held) (packet 7 (shutdown_complete false ∷ [])) ≡ shutdown_complete_is_wrong
unfolding packet ending mine with_peer shutdown_complete_is_wrong
shutdown_complete_under_peer_tag held = refl

reflected_shutdown_complete_under_peer_tag : (held : Held) → admits (ending held) (packet 7 (shutdown_complete true ∷ [])) ≡ all_chunks
unfolding packet ending mine with_peer
reflected_shutdown_complete_under_peer_tag held = refl

reflected_shutdown_complete_under_own_tag : (held : Held) → admits (ending held) (packet 9 (shutdown_complete true ∷ [])) ≡ shutdown_complete_is_wrong
unfolding packet ending mine with_peer shutdown_complete_is_wrong
reflected_shutdown_complete_under_own_tag held = refl

shutdown_complete_in_closed : admits closed (packet 0 (shutdown_complete false ∷ a_data_chunk ∷ [])) ≡ all_chunks
unfolding packet a_data_chunk
shutdown_complete_in_closed = refl

reflected_shutdown_complete_in_closed : admits closed (packet 0 (shutdown_complete true ∷ [])) ≡ shutdown_complete_is_wrong
unfolding packet shutdown_complete_is_wrong
reflected_shutdown_complete_in_closed = refl

first_shutdown_complete_counts : (held : Held) → admits (ending held) (packet 7 (shutdown_complete true ∷ shutdown_complete false ∷ [])) ≡ all_chunks
unfolding packet ending mine with_peer
first_shutdown_complete_counts held = refl

shutdown_complete_before_shutdown_ack : admits waiting (packet 8 (shutdown_ack ∷ shutdown_complete false ∷ [])) ≡ shutdown_complete_is_wrong
unfolding packet waiting mine shutdown_complete_is_wrong
shutdown_complete_before_shutdown_ack = refl

-- ---- SHUTDOWN ACK

shutdown_ack_in_closed : admits closed (packet 8 (shutdown_ack ∷ [])) ≡ shutdown_acks_alone
unfolding packet
shutdown_ack_in_closed = refl

-- The own tag of Closed is none.
shutdown_ack_in_closed_under_0 : admits closed (packet 0 (shutdown_ack ∷ [])) ≡ shutdown_acks_alone
unfolding packet
shutdown_ack_in_closed_under_0 = refl

shutdown_ack_in_cookie_wait : admits waiting (packet 8 (shutdown_ack ∷ [])) ≡ shutdown_acks_alone
unfolding packet waiting mine
shutdown_ack_in_cookie_wait = refl

shutdown_ack_in_cookie_wait_under_0 : admits waiting (packet 0 (an_init ∷ shutdown_ack ∷ [])) ≡ shutdown_acks_alone
unfolding packet waiting mine an_init
shutdown_ack_in_cookie_wait_under_0 = refl

shutdown_ack_in_cookie_wait_under_own_tag : admits waiting (packet 9 (shutdown_ack ∷ a_data_chunk ∷ [])) ≡ all_chunks
unfolding packet waiting mine a_data_chunk
shutdown_ack_in_cookie_wait_under_own_tag = refl

shutdown_ack_in_cookie_echoed : (held : Held) → admits (echoing held) (packet 7 (cookie_ack ∷ shutdown_ack ∷ [])) ≡ shutdown_acks_alone
unfolding packet echoing mine
shutdown_ack_in_cookie_echoed held = refl

shutdown_ack_in_cookie_echoed_under_own_tag : (held : Held) → admits (echoing held) (packet 9 (cookie_ack ∷ shutdown_ack ∷ [])) ≡ all_chunks
unfolding packet echoing mine
shutdown_ack_in_cookie_echoed_under_own_tag held = refl

shutdown_ack_in_established : (held : Held) → admits (open_core held) (packet 9 (shutdown_ack ∷ [])) ≡ all_chunks
unfolding packet open_core mine
shutdown_ack_in_established held = refl

shutdown_ack_in_established_under_another_tag : (held : Held) → admits (open_core held) (packet 7 (shutdown_ack ∷ [])) ≡ shutdown_ack_is_wrong
unfolding packet open_core mine shutdown_ack_is_wrong
shutdown_ack_in_established_under_another_tag held = refl

-- A COOKIE ECHO in front doesn't help it.
shutdown_ack_before_cookie_echo : (held : Held) → admits (open_core held) (packet 8 (cookie_echo [] ∷ shutdown_ack ∷ [])) ≡ shutdown_ack_is_wrong
unfolding packet open_core mine shutdown_ack_is_wrong
shutdown_ack_before_cookie_echo held = refl

-- what is left of a packet that is cut
shutdown_acks_are_left : shutdown_acks_of (a_data_chunk ∷ shutdown_ack ∷ cookie_ack ∷ shutdown 5 ∷ shutdown_ack ∷ []) ≡ shutdown_ack ∷ shutdown_ack ∷ []
unfolding a_data_chunk
shutdown_acks_are_left = refl

-- ---- COOKIE ECHO in front

cookie_echo_in_closed : admits closed (packet 8 (cookie_echo [] ∷ a_data_chunk ∷ [])) ≡ all_chunks
unfolding packet a_data_chunk
cookie_echo_in_closed = refl

cookie_echo_under_0 : admits waiting (packet 0 (cookie_echo [] ∷ [])) ≡ all_chunks
unfolding packet waiting mine
cookie_echo_under_0 = refl

cookie_echo_under_another_tag : (held : Held) → admits (open_core held) (packet 8 (cookie_echo [] ∷ [])) ≡ all_chunks
unfolding packet open_core
cookie_echo_under_another_tag held = refl

late_cookie_echo : (held : Held) → admits (open_core held) (packet 8 (a_data_chunk ∷ cookie_echo [] ∷ [])) ≡ refused (codes "Packet has invalid verification tag: 00000008, expected 00000009")
unfolding packet open_core mine a_data_chunk padded_integral digits char_count
late_cookie_echo held = refl

-- ---- tag 0

init_alone : (held : Held) → admits (open_core held) (packet 0 (an_init ∷ [])) ≡ all_chunks
unfolding packet open_core mine an_init
init_alone held = refl

two_inits : admits closed (packet 0 (an_init ∷ an_init ∷ [])) ≡ not_a_single_init
unfolding packet an_init not_a_single_init
two_inits = refl

no_chunks_under_0 : admits closed (packet 0 []) ≡ not_a_single_init
unfolding packet not_a_single_init
no_chunks_under_0 = refl

shutdown_under_0 : admits closed (packet 0 (shutdown 5 ∷ [])) ≡ not_a_single_init
unfolding packet not_a_single_init
shutdown_under_0 = refl

-- ---- all else

own_tag_is_admitted : (held : Held) → admits (open_core held) (packet 9 (a_data_chunk ∷ shutdown 5 ∷ [])) ≡ all_chunks
unfolding packet open_core mine a_data_chunk
own_tag_is_admitted held = refl

init_under_own_tag : admits waiting (packet 9 (an_init ∷ [])) ≡ all_chunks
unfolding packet waiting mine an_init
init_under_own_tag = refl

no_tag_in_closed : admits closed (packet 0xabcdef01 (shutdown 5 ∷ [])) ≡ refused (codes "Packet has invalid verification tag: abcdef01, expected 00000000")
unfolding packet padded_integral digits char_count
no_tag_in_closed = refl
