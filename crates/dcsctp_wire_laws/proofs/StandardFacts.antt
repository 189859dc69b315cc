-- Outside examples of numbers, frames and parameters, written by hand from RFC 9260, computed by the definitions: a
-- wrong rule in specs/ would not check here.
use Rattle.std.proofs.Common.{◌≡◌, None, Some, [], ◌∷◌, refl}
use Rattle.dcsctp_wire.specs.declared.reconfiguration.ReconfigurationResponseResult.TheVariants.{SuccessPerformed, InProgress}
use Rattle.dcsctp_wire.specs.Content.{heartbeat_info, state_cookie, outgoing_ssn_reset_request, incoming_ssn_reset_request, reconfiguration_response, supported_extensions, zero_checksum_acceptable, forward_tsn_supported, unknown_parameter}
use Rattle.dcsctp_wire.specs.Fields.{u16_at, u32_at, numbered_request_stream, outgoing_request_of_value, incoming_request_of_value, result_of, response_of_value, method_of_value, parameter_of}
use Rattle.dcsctp_wire.specs.Format.{leading_frame}
use Rattle.dcsctp_wire.specs.Spelling.{parameter_bytes}

-- ---- numbers (RFC 9260, section 3: the highest byte comes first)

two_bytes_are_read : u16_at 1 (9 ∷ 0x12 ∷ 0x34 ∷ 9 ∷ []) ≡ 0x1234
two_bytes_are_read = refl

four_bytes_are_read : u32_at 1 (9 ∷ 0x12 ∷ 0x34 ∷ 0x56 ∷ 0x78 ∷ 9 ∷ []) ≡ 0x12345678
four_bytes_are_read = refl

-- ---- frames (RFC 9260, sections 3.2 and 3.2.1)

-- A length of 6 leaves two bytes of padding, which are skipped, whatever they hold.
padding_is_skipped : leading_frame (0x80 ∷ 8 ∷ 0 ∷ 6 ∷ 0x82 ∷ 0xc0 ∷ 1 ∷ 2 ∷ 0xc0 ∷ 0 ∷ 0 ∷ 4 ∷ [])
    ≡ Some (record { value = 0x82 ∷ 0xc0 ∷ []; rest = 0xc0 ∷ 0 ∷ 0 ∷ 4 ∷ [] })
unfolding leading_frame
padding_is_skipped = refl

three_bytes_of_padding : leading_frame (9 ∷ 0 ∷ 0 ∷ 5 ∷ 0xaa ∷ 0 ∷ 0 ∷ 0 ∷ 7 ∷ [])
    ≡ Some (record { value = 0xaa ∷ []; rest = 7 ∷ [] })
unfolding leading_frame
three_bytes_of_padding = refl

one_byte_of_padding : leading_frame (9 ∷ 0 ∷ 0 ∷ 7 ∷ 0xaa ∷ 0xbb ∷ 0xcc ∷ 0 ∷ 7 ∷ [])
    ≡ Some (record { value = 0xaa ∷ 0xbb ∷ 0xcc ∷ []; rest = 7 ∷ [] })
unfolding leading_frame
one_byte_of_padding = refl

no_padding : leading_frame (9 ∷ 0 ∷ 0 ∷ 8 ∷ 1 ∷ 2 ∷ 3 ∷ 4 ∷ 7 ∷ []) ≡ Some (record { value = 1 ∷ 2 ∷ 3 ∷ 4 ∷ []; rest = 7 ∷ [] })
unfolding leading_frame
no_padding = refl

-- The last padding may be missing, or be cut off.
missing_padding_is_taken : leading_frame (0x80 ∷ 8 ∷ 0 ∷ 6 ∷ 0x82 ∷ 0xc0 ∷ []) ≡ Some (record { value = 0x82 ∷ 0xc0 ∷ []; rest = [] })
unfolding leading_frame
missing_padding_is_taken = refl

cut_padding_is_taken : leading_frame (0x80 ∷ 8 ∷ 0 ∷ 6 ∷ 0x82 ∷ 0xc0 ∷ 0 ∷ []) ≡ Some (record { value = 0x82 ∷ 0xc0 ∷ []; rest = [] })
unfolding leading_frame
cut_padding_is_taken = refl

header_alone_is_taken : leading_frame (11 ∷ 0 ∷ 0 ∷ 4 ∷ []) ≡ Some (record { value = []; rest = [] })
unfolding leading_frame
header_alone_is_taken = refl

length_of_3_is_refused : leading_frame (11 ∷ 0 ∷ 0 ∷ 3 ∷ 0 ∷ 0 ∷ 0 ∷ 0 ∷ []) ≡ None
unfolding leading_frame
length_of_3_is_refused = refl

length_of_0_is_refused : leading_frame (11 ∷ 0 ∷ 0 ∷ 0 ∷ []) ≡ None
unfolding leading_frame
length_of_0_is_refused = refl

length_past_the_end_is_refused : leading_frame (9 ∷ 0 ∷ 0 ∷ 6 ∷ 0xaa ∷ []) ≡ None
unfolding leading_frame
length_past_the_end_is_refused = refl

cut_header_is_refused : leading_frame (11 ∷ 0 ∷ 0 ∷ []) ≡ None
unfolding leading_frame
cut_header_is_refused = refl

-- ---- parameters

state_cookie_is_read : parameter_of 7 (1 ∷ 2 ∷ 3 ∷ []) ≡ Some (state_cookie (1 ∷ 2 ∷ 3 ∷ []))
unfolding parameter_of
state_cookie_is_read = refl

extensions_are_read : parameter_of 0x8008 (0x82 ∷ 0xc0 ∷ []) ≡ Some (supported_extensions (0x82 ∷ 0xc0 ∷ []))
unfolding parameter_of
extensions_are_read = refl

method_is_read : parameter_of 0x8001 (0 ∷ 0 ∷ 0 ∷ 1 ∷ []) ≡ Some (zero_checksum_acceptable 1)
unfolding parameter_of method_of_value
method_is_read = refl

method_of_3_bytes_is_refused : parameter_of 0x8001 (0 ∷ 0 ∷ 1 ∷ []) ≡ None
unfolding parameter_of method_of_value
method_of_3_bytes_is_refused = refl

first_4_bytes_are_the_method : parameter_of 0x8001 (0 ∷ 0 ∷ 0 ∷ 1 ∷ 9 ∷ []) ≡ Some (zero_checksum_acceptable 1)
unfolding parameter_of method_of_value
first_4_bytes_are_the_method = refl

forward_tsn_is_read : parameter_of 0xc000 [] ≡ Some forward_tsn_supported
unfolding parameter_of
forward_tsn_is_read = refl

-- an IPv4 address (RFC 9260, section 3.3.2.1.1)
other_parameter_is_read : parameter_of 5 (127 ∷ 0 ∷ 0 ∷ 1 ∷ []) ≡ Some (unknown_parameter 5 (127 ∷ 0 ∷ 0 ∷ 1 ∷ []))
unfolding parameter_of
other_parameter_is_read = refl

-- The length leaves out the padding.
extensions_are_spelled : parameter_bytes (supported_extensions (0x82 ∷ 0xc0 ∷ [])) ≡ 0x80 ∷ 8 ∷ 0 ∷ 6 ∷ 0x82 ∷ 0xc0 ∷ 0 ∷ 0 ∷ []
unfolding parameter_bytes
extensions_are_spelled = refl

cookie_is_spelled : parameter_bytes (state_cookie (1 ∷ 2 ∷ 3 ∷ 4 ∷ 5 ∷ [])) ≡ 0 ∷ 7 ∷ 0 ∷ 9 ∷ 1 ∷ 2 ∷ 3 ∷ 4 ∷ 5 ∷ 0 ∷ 0 ∷ 0 ∷ []
unfolding parameter_bytes
cookie_is_spelled = refl

method_is_spelled : parameter_bytes (zero_checksum_acceptable 0x01020304) ≡ 0x80 ∷ 1 ∷ 0 ∷ 8 ∷ 1 ∷ 2 ∷ 3 ∷ 4 ∷ []
unfolding parameter_bytes
method_is_spelled = refl

forward_tsn_is_spelled : parameter_bytes forward_tsn_supported ≡ 0xc0 ∷ 0 ∷ 0 ∷ 4 ∷ []
unfolding parameter_bytes
forward_tsn_is_spelled = refl

other_parameter_is_spelled : parameter_bytes (unknown_parameter 0x1234 (127 ∷ 0 ∷ 0 ∷ [])) ≡ 0x12 ∷ 0x34 ∷ 0 ∷ 7 ∷ 127 ∷ 0 ∷ 0 ∷ 0 ∷ []
unfolding parameter_bytes
other_parameter_is_spelled = refl

-- ---- HEARTBEAT and RE-CONFIG (RFC 9260, section 3.3.5; RFC 6525, section 4)

info_is_read : parameter_of 1 (1 ∷ 2 ∷ 3 ∷ []) ≡ Some (heartbeat_info (1 ∷ 2 ∷ 3 ∷ []))
unfolding parameter_of
info_is_read = refl

info_is_spelled : parameter_bytes (heartbeat_info (1 ∷ 2 ∷ 3 ∷ [])) ≡ 0 ∷ 1 ∷ 0 ∷ 7 ∷ 1 ∷ 2 ∷ 3 ∷ 0 ∷ []
unfolding parameter_bytes
info_is_spelled = refl

-- request 3, in answer to request 2, with last TSN 1 and streams 4 and 5
outgoing_is_read : parameter_of 13 (0 ∷ 0 ∷ 0 ∷ 3 ∷ 0 ∷ 0 ∷ 0 ∷ 2 ∷ 0 ∷ 0 ∷ 0 ∷ 1 ∷ 0 ∷ 4 ∷ 0 ∷ 5 ∷ [])
    ≡ Some (outgoing_ssn_reset_request 3 2 1 (0 ∷ 4 ∷ 0 ∷ 5 ∷ []))
unfolding parameter_of outgoing_request_of_value
outgoing_is_read = refl

second_stream_is_5 : numbered_request_stream 1 (0 ∷ 4 ∷ 0 ∷ 5 ∷ []) ≡ 5
second_stream_is_5 = refl

outgoing_is_spelled : parameter_bytes (outgoing_ssn_reset_request 3 2 1 (0 ∷ 4 ∷ []))
    ≡ 0 ∷ 13 ∷ 0 ∷ 18 ∷ 0 ∷ 0 ∷ 0 ∷ 3 ∷ 0 ∷ 0 ∷ 0 ∷ 2 ∷ 0 ∷ 0 ∷ 0 ∷ 1 ∷ 0 ∷ 4 ∷ 0 ∷ 0 ∷ []
unfolding parameter_bytes
outgoing_is_spelled = refl

half_a_stream_is_refused : parameter_of 13 (0 ∷ 0 ∷ 0 ∷ 3 ∷ 0 ∷ 0 ∷ 0 ∷ 2 ∷ 0 ∷ 0 ∷ 0 ∷ 1 ∷ 0 ∷ []) ≡ None
unfolding parameter_of outgoing_request_of_value
half_a_stream_is_refused = refl

incoming_is_read : parameter_of 14 (0 ∷ 0 ∷ 0 ∷ 3 ∷ 0 ∷ 4 ∷ []) ≡ Some (incoming_ssn_reset_request 3 (0 ∷ 4 ∷ []))
unfolding parameter_of incoming_request_of_value
incoming_is_read = refl

incoming_is_spelled : parameter_bytes (incoming_ssn_reset_request 3 (0 ∷ 4 ∷ [])) ≡ 0 ∷ 14 ∷ 0 ∷ 10 ∷ 0 ∷ 0 ∷ 0 ∷ 3 ∷ 0 ∷ 4 ∷ 0 ∷ 0 ∷ []
unfolding parameter_bytes
incoming_is_spelled = refl

response_is_read : parameter_of 16 (0 ∷ 0 ∷ 0 ∷ 3 ∷ 0 ∷ 0 ∷ 0 ∷ 1 ∷ []) ≡ Some (reconfiguration_response 3 SuccessPerformed None)
unfolding parameter_of response_of_value result_of
response_is_read = refl

next_tsns_are_read : parameter_of 16 (0 ∷ 0 ∷ 0 ∷ 3 ∷ 0 ∷ 0 ∷ 0 ∷ 6 ∷ 0 ∷ 0 ∷ 0 ∷ 7 ∷ 0 ∷ 0 ∷ 0 ∷ 8 ∷ [])
    ≡ Some (reconfiguration_response 3 InProgress (Some (record { sender = 7; receiver = 8 })))
unfolding parameter_of response_of_value result_of
next_tsns_are_read = refl

one_next_tsn_is_refused : parameter_of 16 (0 ∷ 0 ∷ 0 ∷ 3 ∷ 0 ∷ 0 ∷ 0 ∷ 7 ∷ 0 ∷ 0 ∷ 0 ∷ 7 ∷ []) ≡ None
unfolding parameter_of response_of_value
one_next_tsn_is_refused = refl

bytes_of_no_tsn_are_not_looked_at : parameter_of 16 (0 ∷ 0 ∷ 0 ∷ 3 ∷ 0 ∷ 0 ∷ 0 ∷ 1 ∷ 9 ∷ 9 ∷ 9 ∷ []) ≡ Some (reconfiguration_response 3 SuccessPerformed None)
unfolding parameter_of response_of_value result_of
bytes_of_no_tsn_are_not_looked_at = refl

-- A result above 6 has no name.
result_of_7_is_kept : parameter_of 16 (0 ∷ 0 ∷ 0 ∷ 3 ∷ 0 ∷ 0 ∷ 0 ∷ 7 ∷ []) ≡ Some (unknown_parameter 16 (0 ∷ 0 ∷ 0 ∷ 3 ∷ 0 ∷ 0 ∷ 0 ∷ 7 ∷ []))
unfolding parameter_of response_of_value result_of
result_of_7_is_kept = refl

response_is_spelled : parameter_bytes (reconfiguration_response 3 InProgress (Some (record { sender = 7; receiver = 8 })))
    ≡ 0 ∷ 16 ∷ 0 ∷ 20 ∷ 0 ∷ 0 ∷ 0 ∷ 3 ∷ 0 ∷ 0 ∷ 0 ∷ 6 ∷ 0 ∷ 0 ∷ 0 ∷ 7 ∷ 0 ∷ 0 ∷ 0 ∷ 8 ∷ []
unfolding parameter_bytes
response_is_spelled = refl
