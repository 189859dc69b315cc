-- Outside examples of the bytes of chunks, written by hand from RFC 9260 and RFC 6525, computed by the
-- definitions: a wrong rule in specs/ would not check here.
use Rattle.std.proofs.Common.{◌≡◌, ℕ, true, false, List, [], ◌∷◌, refl}
use Rattle.std.specs.Prelude.{codes}
use Rattle.dcsctp_types.specs.wire.declared.reconfiguration.ReconfigurationResponseResult.TheVariants.{SuccessNothingToDo, SuccessPerformed, Denied, ErrorWrongSSN, ErrorRequestAlreadyInProgress, ErrorBadSequenceNumber, InProgress}
use Rattle.dcsctp_types.specs.wire.Spelling.{result_code, parameter_bytes, parameters_len, parameter_chunk_bytes, other_bytes, header_bytes, checksum_field, packet_bytes_of, chunk_bytes}
use Rattle.dcsctp_spec.specs.endpoint.Cause.{missing_mandatory_parameter, cookie_received_while_shutting_down, user_initiated_abort, protocol_violation}
use Rattle.dcsctp_types.specs.wire.Content.{unknown_cause, unknown_parameter}
use Rattle.dcsctp_spec.specs.Reconfiguration.{outgoing_reset_request, incoming_reset_request, reconfiguration_response, other_reset_parameter}
use Rattle.dcsctp_spec.specs.Packet.{Content, cookie_echo, cookie_ack, re_config, abort, shutdown, shutdown_ack, shutdown_complete, chunk_out, emission_bytes}
use Rattle.dcsctp_spec.specs.association.CookieEchoChanges.{shutting_down_error}

-- a chunk with its padding
abbrev bytes_of : Content → List ℕ
bytes_of content = chunk_bytes (chunk_out content)

-- ---- chunks of one field or none (RFC 9260, sections 3.3.8, 3.3.9 and 3.3.11 to 3.3.13)

cookie_echo_is_10 : bytes_of (cookie_echo (1 ∷ 2 ∷ 3 ∷ [])) ≡ 10 ∷ 0 ∷ 0 ∷ 7 ∷ 1 ∷ 2 ∷ 3 ∷ 0 ∷ []
unfolding other_bytes
cookie_echo_is_10 = refl

cookie_ack_is_11 : bytes_of cookie_ack ≡ 11 ∷ 0 ∷ 0 ∷ 4 ∷ []
unfolding other_bytes
cookie_ack_is_11 = refl

shutdown_is_7 : bytes_of (shutdown 0x01020304) ≡ 7 ∷ 0 ∷ 0 ∷ 8 ∷ 1 ∷ 2 ∷ 3 ∷ 4 ∷ []
unfolding other_bytes
shutdown_is_7 = refl

shutdown_ack_is_8 : bytes_of shutdown_ack ≡ 8 ∷ 0 ∷ 0 ∷ 4 ∷ []
unfolding other_bytes
shutdown_ack_is_8 = refl

-- The T bit is the lowest flag.
shutdown_complete_is_14 : bytes_of (shutdown_complete false) ≡ 14 ∷ 0 ∷ 0 ∷ 4 ∷ []
unfolding other_bytes
shutdown_complete_is_14 = refl

shutdown_complete_has_t_bit : bytes_of (shutdown_complete true) ≡ 14 ∷ 1 ∷ 0 ∷ 4 ∷ []
unfolding other_bytes
shutdown_complete_has_t_bit = refl

-- ---- ABORT and error causes (RFC 9260, sections 3.3.7 and 3.3.10)

abort_is_6 : bytes_of (abort false []) ≡ 6 ∷ 0 ∷ 0 ∷ 4 ∷ []
unfolding parameters_len parameter_chunk_bytes
abort_is_6 = refl

abort_has_t_bit : bytes_of (abort true []) ≡ 6 ∷ 1 ∷ 0 ∷ 4 ∷ []
unfolding parameters_len parameter_chunk_bytes
abort_has_t_bit = refl

-- The State Cookie, parameter 7, is missing. Two bytes of padding are no part of the length.
missing_parameter_is_2 : bytes_of (abort false (missing_mandatory_parameter (7 ∷ []) ∷ []))
    ≡ 6 ∷ 0 ∷ 0 ∷ 14 ∷ 0 ∷ 2 ∷ 0 ∷ 10 ∷ 0 ∷ 0 ∷ 0 ∷ 1 ∷ 0 ∷ 7 ∷ 0 ∷ 0 ∷ []
unfolding parameter_bytes parameters_len parameter_chunk_bytes
missing_parameter_is_2 = refl

two_missing_parameters : bytes_of (abort false (missing_mandatory_parameter (7 ∷ 0x8008 ∷ []) ∷ []))
    ≡ 6 ∷ 0 ∷ 0 ∷ 16 ∷ 0 ∷ 2 ∷ 0 ∷ 12 ∷ 0 ∷ 0 ∷ 0 ∷ 2 ∷ 0 ∷ 7 ∷ 0x80 ∷ 8 ∷ []
unfolding parameter_bytes parameters_len parameter_chunk_bytes
two_missing_parameters = refl

cookie_while_shutting_down_is_10 : bytes_of (abort false (cookie_received_while_shutting_down ∷ [])) ≡ 6 ∷ 0 ∷ 0 ∷ 8 ∷ 0 ∷ 10 ∷ 0 ∷ 4 ∷ []
unfolding parameter_bytes parameters_len parameter_chunk_bytes
cookie_while_shutting_down_is_10 = refl

-- in an ERROR chunk, type 9
error_is_9 : bytes_of shutting_down_error ≡ 9 ∷ 0 ∷ 0 ∷ 8 ∷ 0 ∷ 10 ∷ 0 ∷ 4 ∷ []
unfolding parameter_bytes parameters_len parameter_chunk_bytes
error_is_9 = refl

user_initiated_abort_is_12 : bytes_of (abort false (user_initiated_abort (codes "Close called") ∷ []))
    ≡ 6 ∷ 0 ∷ 0 ∷ 20 ∷ 0 ∷ 12 ∷ 0 ∷ 16 ∷ 0x43 ∷ 0x6c ∷ 0x6f ∷ 0x73 ∷ 0x65 ∷ 0x20 ∷ 0x63 ∷ 0x61 ∷ 0x6c ∷ 0x6c ∷ 0x65 ∷ 0x64 ∷ []
unfolding parameter_bytes parameters_len parameter_chunk_bytes
user_initiated_abort_is_12 = refl

protocol_violation_is_13 : bytes_of (abort false (protocol_violation (codes "bad") ∷ [])) ≡ 6 ∷ 0 ∷ 0 ∷ 11 ∷ 0 ∷ 13 ∷ 0 ∷ 7 ∷ 0x62 ∷ 0x61 ∷ 0x64 ∷ 0 ∷ []
unfolding parameter_bytes parameters_len parameter_chunk_bytes
protocol_violation_is_13 = refl

-- The padding of the first cause counts, and that of the last doesn't.
two_causes : bytes_of (abort false (protocol_violation (codes "x") ∷ missing_mandatory_parameter (7 ∷ []) ∷ []))
    ≡ 6 ∷ 0 ∷ 0 ∷ 22 ∷ 0 ∷ 13 ∷ 0 ∷ 5 ∷ 0x78 ∷ 0 ∷ 0 ∷ 0 ∷ 0 ∷ 2 ∷ 0 ∷ 10 ∷ 0 ∷ 0 ∷ 0 ∷ 1 ∷ 0 ∷ 7 ∷ 0 ∷ 0 ∷ []
unfolding parameter_bytes parameters_len parameter_chunk_bytes
two_causes = refl

-- Out of Resource, a cause without a value (RFC 9260, section 3.3.10.4)
out_of_resource : bytes_of (abort false (unknown_cause 4 [] ∷ [])) ≡ 6 ∷ 0 ∷ 0 ∷ 8 ∷ 0 ∷ 4 ∷ 0 ∷ 4 ∷ []
unfolding parameter_bytes parameters_len parameter_chunk_bytes
out_of_resource = refl

-- ---- RE-CONFIG (RFC 6525, sections 3.1 and 4)

-- One stream: the parameter is 18 bytes long, the chunk 22, and two bytes of padding follow.
outgoing_request_is_13 : bytes_of (re_config (outgoing_reset_request 0x01020304 0x05060708 (record { last_tsn = 0x090a0b0c; streams = 0x0d0e ∷ []; is_new = false }) ∷ []))
    ≡ 130 ∷ 0 ∷ 0 ∷ 22 ∷ 0 ∷ 13 ∷ 0 ∷ 18 ∷ 1 ∷ 2 ∷ 3 ∷ 4 ∷ 5 ∷ 6 ∷ 7 ∷ 8 ∷ 9 ∷ 10 ∷ 11 ∷ 12 ∷ 13 ∷ 14 ∷ 0 ∷ 0 ∷ []
unfolding parameter_bytes parameters_len parameter_chunk_bytes
outgoing_request_is_13 = refl

two_streams_have_no_padding : bytes_of (re_config (outgoing_reset_request 1 2 (record { last_tsn = 3; streams = 4 ∷ 5 ∷ []; is_new = false }) ∷ []))
    ≡ 130 ∷ 0 ∷ 0 ∷ 24 ∷ 0 ∷ 13 ∷ 0 ∷ 20 ∷ 0 ∷ 0 ∷ 0 ∷ 1 ∷ 0 ∷ 0 ∷ 0 ∷ 2 ∷ 0 ∷ 0 ∷ 0 ∷ 3 ∷ 0 ∷ 4 ∷ 0 ∷ 5 ∷ []
unfolding parameter_bytes parameters_len parameter_chunk_bytes
two_streams_have_no_padding = refl

incoming_request_is_14 : bytes_of (re_config (incoming_reset_request 0x01020304 (5 ∷ 6 ∷ 7 ∷ []) ∷ []))
    ≡ 130 ∷ 0 ∷ 0 ∷ 18 ∷ 0 ∷ 14 ∷ 0 ∷ 14 ∷ 1 ∷ 2 ∷ 3 ∷ 4 ∷ 0 ∷ 5 ∷ 0 ∷ 6 ∷ 0 ∷ 7 ∷ 0 ∷ 0 ∷ []
unfolding parameter_bytes parameters_len parameter_chunk_bytes
incoming_request_is_14 = refl

-- A list without stream numbers means all streams.
request_for_all_streams : bytes_of (re_config (incoming_reset_request 0x01020304 [] ∷ [])) ≡ 130 ∷ 0 ∷ 0 ∷ 12 ∷ 0 ∷ 14 ∷ 0 ∷ 8 ∷ 1 ∷ 2 ∷ 3 ∷ 4 ∷ []
unfolding parameter_bytes parameters_len parameter_chunk_bytes
request_for_all_streams = refl

response_is_16 : bytes_of (re_config (reconfiguration_response 0x01020304 InProgress ∷ [])) ≡ 130 ∷ 0 ∷ 0 ∷ 16 ∷ 0 ∷ 16 ∷ 0 ∷ 12 ∷ 1 ∷ 2 ∷ 3 ∷ 4 ∷ 0 ∷ 0 ∷ 0 ∷ 6 ∷ []
unfolding parameter_bytes parameters_len parameter_chunk_bytes
response_is_16 = refl

-- The padding of a request counts where a response follows it, and doesn't where it is the last.
request_before_response : bytes_of (re_config (outgoing_reset_request 1 2 (record { last_tsn = 3; streams = 4 ∷ []; is_new = false }) ∷ reconfiguration_response 5 SuccessPerformed ∷ []))
    ≡ 130 ∷ 0 ∷ 0 ∷ 36 ∷ 0 ∷ 13 ∷ 0 ∷ 18 ∷ 0 ∷ 0 ∷ 0 ∷ 1 ∷ 0 ∷ 0 ∷ 0 ∷ 2 ∷ 0 ∷ 0 ∷ 0 ∷ 3 ∷ 0 ∷ 4 ∷ 0 ∷ 0 ∷ 0 ∷ 16 ∷ 0 ∷ 12 ∷ 0 ∷ 0 ∷ 0 ∷ 5 ∷ 0 ∷ 0 ∷ 0 ∷ 1 ∷ []
unfolding parameter_bytes parameters_len parameter_chunk_bytes
request_before_response = refl

request_after_response : bytes_of (re_config (reconfiguration_response 5 SuccessPerformed ∷ outgoing_reset_request 1 2 (record { last_tsn = 3; streams = 4 ∷ []; is_new = false }) ∷ []))
    ≡ 130 ∷ 0 ∷ 0 ∷ 34 ∷ 0 ∷ 16 ∷ 0 ∷ 12 ∷ 0 ∷ 0 ∷ 0 ∷ 5 ∷ 0 ∷ 0 ∷ 0 ∷ 1 ∷ 0 ∷ 13 ∷ 0 ∷ 18 ∷ 0 ∷ 0 ∷ 0 ∷ 1 ∷ 0 ∷ 0 ∷ 0 ∷ 2 ∷ 0 ∷ 0 ∷ 0 ∷ 3 ∷ 0 ∷ 4 ∷ 0 ∷ 0 ∷ []
unfolding parameter_bytes parameters_len parameter_chunk_bytes
request_after_response = refl

-- SSN/TSN Reset Request (RFC 6525, section 4.3)
another_parameter : bytes_of (re_config (other_reset_parameter (unknown_parameter 15 (1 ∷ 2 ∷ 3 ∷ 4 ∷ [])) ∷ [])) ≡ 130 ∷ 0 ∷ 0 ∷ 12 ∷ 0 ∷ 15 ∷ 0 ∷ 8 ∷ 1 ∷ 2 ∷ 3 ∷ 4 ∷ []
unfolding parameter_bytes parameters_len parameter_chunk_bytes
another_parameter = refl

-- results (RFC 6525, section 4.4)

nothing_to_do_is_0 : result_code SuccessNothingToDo ≡ 0
nothing_to_do_is_0 = refl

performed_is_1 : result_code SuccessPerformed ≡ 1
performed_is_1 = refl

denied_is_2 : result_code Denied ≡ 2
denied_is_2 = refl

wrong_ssn_is_3 : result_code ErrorWrongSSN ≡ 3
wrong_ssn_is_3 = refl

already_in_progress_is_4 : result_code ErrorRequestAlreadyInProgress ≡ 4
already_in_progress_is_4 = refl

bad_sequence_number_is_5 : result_code ErrorBadSequenceNumber ≡ 5
bad_sequence_number_is_5 = refl

in_progress_is_6 : result_code InProgress ≡ 6
in_progress_is_6 = refl

-- ---- a packet of two chunks, from port 5000 to port 5001 under tag 7

chunks_are_padded_in_a_packet : emission_bytes (record { local = 5000; remote = 5001 }) (record { with_checksum = false; packet = record { tag = 7; contents = cookie_echo (1 ∷ 2 ∷ 3 ∷ []) ∷ shutdown_complete true ∷ [] } })
    ≡ 0x13 ∷ 0x88 ∷ 0x13 ∷ 0x89 ∷ 0 ∷ 0 ∷ 0 ∷ 7 ∷ 0 ∷ 0 ∷ 0 ∷ 0 ∷ 10 ∷ 0 ∷ 0 ∷ 7 ∷ 1 ∷ 2 ∷ 3 ∷ 0 ∷ 14 ∷ 1 ∷ 0 ∷ 4 ∷ []
unfolding other_bytes header_bytes checksum_field packet_bytes_of
chunks_are_padded_in_a_packet = refl
