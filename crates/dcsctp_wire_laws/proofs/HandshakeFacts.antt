-- Outside examples of the chunks of the handshake, written by hand from RFC 9260, sections 3.3.2, 3.3.3, 3.3.11 and
-- 3.3.12, computed by the definitions.
use Rattle.std.proofs.Common.{◌≡◌, ℕ, List, [], ◌∷◌, refl, arith}
use Rattle.dcsctp_wire.specs.Content.{state_cookie, supported_extensions, forward_tsn_supported, InitContent, init_chunk, init_ack_chunk, cookie_echo_chunk, cookie_ack_chunk, unknown_chunk}
use Rattle.dcsctp_wire.specs.Fields.{parameter_of, content_of_fields}
use Rattle.dcsctp_wire.specs.Format.{leading_frame, form_of, IsInitValue, IsChunkOf}
use Rattle.dcsctp_wire.specs.Spelling.{parameter_bytes, parameters_len, init_fields, parameter_chunk_bytes, other_bytes, chunk_bytes}

-- an INIT whose fields all differ; its last parameter has padding
every_field : InitContent
every_field =
    record {
      initiate_tag = 0x01020304;
      a_rwnd = 0x05060708;
      outbound_streams = 0x090a;
      inbound_streams = 0x0b0c;
      initial_tsn = 0x0d0e0f10;
      parameters = forward_tsn_supported ∷ supported_extensions (0x82 ∷ 0xc0 ∷ []) ∷ [];
    }

every_field_value : List ℕ
every_field_value =
    1 ∷ 2 ∷ 3 ∷ 4 ∷ 5 ∷ 6 ∷ 7 ∷ 8 ∷ 9 ∷ 10 ∷ 11 ∷ 12 ∷ 13 ∷ 14 ∷ 15 ∷ 16
    ∷ 0xc0 ∷ 0 ∷ 0 ∷ 4 ∷ 0x80 ∷ 8 ∷ 0 ∷ 6 ∷ 0x82 ∷ 0xc0 ∷ []

-- The chunk's length, 30, leaves out the padding of the last parameter.
init_is_spelled : chunk_bytes (init_chunk every_field)
    ≡ 1 ∷ 0 ∷ 0 ∷ 30 ∷ 1 ∷ 2 ∷ 3 ∷ 4 ∷ 5 ∷ 6 ∷ 7 ∷ 8 ∷ 9 ∷ 10 ∷ 11 ∷ 12 ∷ 13 ∷ 14 ∷ 15 ∷ 16
    ∷ 0xc0 ∷ 0 ∷ 0 ∷ 4 ∷ 0x80 ∷ 8 ∷ 0 ∷ 6 ∷ 0x82 ∷ 0xc0 ∷ 0 ∷ 0 ∷ []
unfolding parameter_chunk_bytes init_fields parameters_len parameter_bytes every_field
init_is_spelled = refl

-- an INIT ACK; padding between its parameters counts: 20 + 8 + 4 + 7
init_ack_is_spelled : chunk_bytes (init_ack_chunk (record { initiate_tag = 1; a_rwnd = 1500; outbound_streams = 1; inbound_streams = 2; initial_tsn = 3; parameters = supported_extensions (0x82 ∷ []) ∷ forward_tsn_supported ∷ state_cookie (1 ∷ 2 ∷ 3 ∷ []) ∷ [] }))
    ≡ 2 ∷ 0 ∷ 0 ∷ 39 ∷ 0 ∷ 0 ∷ 0 ∷ 1 ∷ 0 ∷ 0 ∷ 5 ∷ 0xdc ∷ 0 ∷ 1 ∷ 0 ∷ 2 ∷ 0 ∷ 0 ∷ 0 ∷ 3
    ∷ 0x80 ∷ 8 ∷ 0 ∷ 5 ∷ 0x82 ∷ 0 ∷ 0 ∷ 0 ∷ 0xc0 ∷ 0 ∷ 0 ∷ 4 ∷ 0 ∷ 7 ∷ 0 ∷ 7 ∷ 1 ∷ 2 ∷ 3 ∷ 0 ∷ []
unfolding parameter_chunk_bytes init_fields parameters_len parameter_bytes
init_ack_is_spelled = refl

every_field_is_read : IsInitValue every_field every_field_value
unfolding every_field every_field_value leading_frame parameter_of
every_field_is_read =
    record {
      long_enough = omega arith;
      initiate_tag = refl;
      a_rwnd = refl;
      outbound_streams = refl;
      inbound_streams = refl;
      initial_tsn = refl;
      minima = record { tag_is_not_zero = omega arith; window_is_large_enough = omega arith; sends_on_a_stream = omega arith; receives_on_a_stream = omega arith };
      parameters = (_, record { value = []; framed = refl; read = refl }, (_, record { value = 0x82 ∷ 0xc0 ∷ []; framed = refl; read = refl }, refl));
    }

-- type 1 is INIT, and type 2 INIT ACK; their flags are not looked at
init_is_read : IsChunkOf (init_chunk every_field) 1 0xff every_field_value
unfolding form_of
init_is_read = (every_field, refl, every_field_is_read)

init_ack_is_read : IsChunkOf (init_ack_chunk every_field) 2 0 every_field_value
unfolding form_of
init_ack_is_read = (every_field, refl, every_field_is_read)

-- Neither is read by its header alone.
init_has_fields : (flags : ℕ) (value : List ℕ) → IsChunkOf (unknown_chunk 1 flags value) 1 flags value → ⊥
unfolding form_of
init_has_fields flags value h = absurd (cc h.1)

init_ack_has_fields : (flags : ℕ) (value : List ℕ) → IsChunkOf (unknown_chunk 2 flags value) 2 flags value → ⊥
unfolding form_of
init_ack_has_fields flags value h = absurd (cc h.1)

-- 10 is COOKIE ECHO, whose value is the cookie, and 11 COOKIE ACK (RFC 9260, sections 3.3.11 and 3.3.12).
cookie_echo_is_spelled : chunk_bytes (cookie_echo_chunk (1 ∷ 2 ∷ 3 ∷ 4 ∷ 5 ∷ [])) ≡ 10 ∷ 0 ∷ 0 ∷ 9 ∷ 1 ∷ 2 ∷ 3 ∷ 4 ∷ 5 ∷ 0 ∷ 0 ∷ 0 ∷ []
unfolding other_bytes
cookie_echo_is_spelled = refl

cookie_ack_alone_is_spelled : chunk_bytes cookie_ack_chunk ≡ 11 ∷ 0 ∷ 0 ∷ 4 ∷ []
unfolding other_bytes
cookie_ack_alone_is_spelled = refl

cookie_echo_is_read : IsChunkOf (cookie_echo_chunk (1 ∷ 2 ∷ 3 ∷ [])) 10 0xff (1 ∷ 2 ∷ 3 ∷ [])
unfolding form_of content_of_fields
cookie_echo_is_read = refl

value_of_cookie_ack_is_not_looked_at : IsChunkOf cookie_ack_chunk 11 0xff (1 ∷ [])
unfolding form_of content_of_fields
value_of_cookie_ack_is_not_looked_at = refl

cookie_echo_has_a_cookie : (flags : ℕ) (value : List ℕ) → IsChunkOf (unknown_chunk 10 flags value) 10 flags value → ⊥
unfolding form_of content_of_fields
cookie_echo_has_a_cookie flags value h = absurd (cc h)

cookie_ack_has_no_value : (flags : ℕ) (value : List ℕ) → IsChunkOf (unknown_chunk 11 flags value) 11 flags value → ⊥
unfolding form_of content_of_fields
cookie_ack_has_no_value flags value h = absurd (cc h)

init_of_15_bytes_is_refused : (init : InitContent) → IsInitValue init (1 ∷ 2 ∷ 3 ∷ 4 ∷ 5 ∷ 6 ∷ 7 ∷ 8 ∷ 9 ∷ 10 ∷ 11 ∷ 12 ∷ 13 ∷ 14 ∷ 15 ∷ []) → ⊥
init_of_15_bytes_is_refused init h = absurd (omega (arith, h.long_enough))

-- the least that an INIT may say: tag 1, a window of 1,500, one stream each way, no parameters
least : ℕ → ℕ → ℕ → ℕ → InitContent
least tag window outbound inbound = record { initiate_tag = tag; a_rwnd = window; outbound_streams = outbound; inbound_streams = inbound; initial_tsn = 0; parameters = [] }

least_value : ℕ → ℕ → ℕ → ℕ → List ℕ
least_value tag window outbound inbound = 0 ∷ 0 ∷ 0 ∷ tag ∷ 0 ∷ 0 ∷ 5 ∷ window ∷ 0 ∷ outbound ∷ 0 ∷ inbound ∷ 0 ∷ 0 ∷ 0 ∷ 0 ∷ []

least_is_read : IsInitValue (least 1 1500 1 1) (least_value 1 0xdc 1 1)
unfolding least least_value
least_is_read =
    record {
      long_enough = omega arith;
      initiate_tag = refl;
      a_rwnd = refl;
      outbound_streams = refl;
      inbound_streams = refl;
      initial_tsn = refl;
      minima = record { tag_is_not_zero = omega arith; window_is_large_enough = omega arith; sends_on_a_stream = omega arith; receives_on_a_stream = omega arith };
      parameters = refl;
    }

tag_0_is_refused : IsInitValue (least 0 1500 1 1) (least_value 0 0xdc 1 1) → ⊥
unfolding least
tag_0_is_refused h = absurd (omega (arith, h.minima.tag_is_not_zero))

window_of_1499_is_refused : IsInitValue (least 1 1499 1 1) (least_value 1 0xdb 1 1) → ⊥
unfolding least
window_of_1499_is_refused h = absurd (omega (arith, h.minima.window_is_large_enough))

no_outbound_stream_is_refused : IsInitValue (least 1 1500 0 1) (least_value 1 0xdc 0 1) → ⊥
unfolding least
no_outbound_stream_is_refused h = absurd (omega (arith, h.minima.sends_on_a_stream))

no_inbound_stream_is_refused : IsInitValue (least 1 1500 1 0) (least_value 1 0xdc 1 0) → ⊥
unfolding least
no_inbound_stream_is_refused h = absurd (omega (arith, h.minima.receives_on_a_stream))
