-- Outside examples of ABORT, ERROR and error causes, written by hand from RFC 9260, sections 3.3.7 and 3.3.10, and of
-- the texts of causes.
use Rattle.std.proofs.Common.{◌≡◌, true, false, None, Some, [], ◌∷◌, refl, arith}
use Rattle.std.specs.Prelude.{codes}
use Rattle.std.specs.Fmt.{digits}
use Rattle.dcsctp_wire.specs.Content.{missing_mandatory_parameter, unrecognized_chunk_type, no_user_data, cookie_received_while_shutting_down, user_initiated_abort, protocol_violation, unknown_cause, abort_chunk, error_chunk}
use Rattle.dcsctp_wire.specs.Fields.{missing_types, no_user_data_of_value, cause_of}
use Rattle.dcsctp_wire.specs.Format.{leading_frame, form_of, IsChunkOf}
use Rattle.dcsctp_wire.specs.Spelling.{parameter_bytes, parameters_len, parameter_chunk_bytes, chunk_bytes}
use Rattle.dcsctp_wire.specs.ReadsBack.{FitsChunk}
use Rattle.dcsctp_wire.specs.Texts.{cause_text, causes_text}

abort_is_spelled : chunk_bytes (abort_chunk false []) ≡ 6 ∷ 0 ∷ 0 ∷ 4 ∷ []
unfolding parameter_chunk_bytes parameters_len
abort_is_spelled = refl

-- The T bit is the lowest flag. The State Cookie, parameter 7, is missing; two bytes of padding are no part of
-- the chunk's length.
missing_parameter_is_spelled : chunk_bytes (abort_chunk true (missing_mandatory_parameter (0 ∷ 7 ∷ []) ∷ []))
    ≡ 6 ∷ 1 ∷ 0 ∷ 14 ∷ 0 ∷ 2 ∷ 0 ∷ 10 ∷ 0 ∷ 0 ∷ 0 ∷ 1 ∷ 0 ∷ 7 ∷ 0 ∷ 0 ∷ []
unfolding parameter_chunk_bytes parameters_len parameter_bytes
missing_parameter_is_spelled = refl

missing_parameter_is_read : cause_of 2 (0 ∷ 0 ∷ 0 ∷ 1 ∷ 0 ∷ 7 ∷ []) ≡ Some (missing_mandatory_parameter (0 ∷ 7 ∷ []))
unfolding cause_of missing_types
missing_parameter_is_read = refl

bytes_behind_types_are_not_looked_at : cause_of 2 (0 ∷ 0 ∷ 0 ∷ 1 ∷ 0 ∷ 7 ∷ 9 ∷ []) ≡ Some (missing_mandatory_parameter (0 ∷ 7 ∷ []))
unfolding cause_of missing_types
bytes_behind_types_are_not_looked_at = refl

cut_types_are_refused : cause_of 2 (0 ∷ 0 ∷ 0 ∷ 2 ∷ 0 ∷ 7 ∷ 0 ∷ []) ≡ None
unfolding cause_of missing_types
cut_types_are_refused = refl

cut_number_is_refused : cause_of 2 (0 ∷ 0 ∷ 0 ∷ []) ≡ None
unfolding cause_of missing_types
cut_number_is_refused = refl

unrecognized_chunk_is_read : cause_of 6 (15 ∷ 0 ∷ 0 ∷ 4 ∷ []) ≡ Some (unrecognized_chunk_type (15 ∷ 0 ∷ 0 ∷ 4 ∷ []))
unfolding cause_of
unrecognized_chunk_is_read = refl

no_user_data_is_read : cause_of 9 (0 ∷ 0 ∷ 1 ∷ 2 ∷ []) ≡ Some (no_user_data 0x0102)
unfolding cause_of no_user_data_of_value
no_user_data_is_read = refl

cut_tsn_is_refused : cause_of 9 (0 ∷ 1 ∷ 2 ∷ []) ≡ None
unfolding cause_of no_user_data_of_value
cut_tsn_is_refused = refl

value_of_cookie_received_is_not_looked_at : cause_of 10 (1 ∷ []) ≡ Some cookie_received_while_shutting_down
unfolding cause_of
value_of_cookie_received_is_not_looked_at = refl

abort_by_user_is_read : cause_of 12 (1 ∷ 2 ∷ []) ≡ Some (user_initiated_abort (1 ∷ 2 ∷ []))
unfolding cause_of
abort_by_user_is_read = refl

violation_is_read : cause_of 13 (1 ∷ 2 ∷ []) ≡ Some (protocol_violation (1 ∷ 2 ∷ []))
unfolding cause_of
violation_is_read = refl

-- Out of Resource (RFC 9260, section 3.3.10.4)
other_cause_is_read : cause_of 4 (1 ∷ 2 ∷ []) ≡ Some (unknown_cause 4 (1 ∷ 2 ∷ []))
unfolding cause_of
other_cause_is_read = refl

abort_is_read : IsChunkOf (abort_chunk true (missing_mandatory_parameter (0 ∷ 7 ∷ []) ∷ [])) 6 1 (0 ∷ 2 ∷ 0 ∷ 10 ∷ 0 ∷ 0 ∷ 0 ∷ 1 ∷ 0 ∷ 7 ∷ [])
unfolding form_of leading_frame cause_of missing_types
abort_is_read =
    (missing_mandatory_parameter (0 ∷ 7 ∷ []) ∷ [], refl, (_, record { value = 0 ∷ 0 ∷ 0 ∷ 1 ∷ 0 ∷ 7 ∷ []; framed = refl; read = refl }, refl))

error_is_read : IsChunkOf (error_chunk (no_user_data 1 ∷ [])) 9 1 (0 ∷ 9 ∷ 0 ∷ 8 ∷ 0 ∷ 0 ∷ 0 ∷ 1 ∷ [])
unfolding form_of leading_frame cause_of no_user_data_of_value
error_is_read = (no_user_data 1 ∷ [], refl, (_, record { value = 0 ∷ 0 ∷ 0 ∷ 1 ∷ []; framed = refl; read = refl }, refl))

error_is_spelled : chunk_bytes (error_chunk (no_user_data 1 ∷ cookie_received_while_shutting_down ∷ []))
    ≡ 9 ∷ 0 ∷ 0 ∷ 16 ∷ 0 ∷ 9 ∷ 0 ∷ 8 ∷ 0 ∷ 0 ∷ 0 ∷ 1 ∷ 0 ∷ 10 ∷ 0 ∷ 4 ∷ []
unfolding parameter_chunk_bytes parameters_len parameter_bytes
error_is_spelled = refl

-- An ABORT with causes of several kinds fits its fields.
abort_fits : FitsChunk (abort_chunk true (missing_mandatory_parameter (0 ∷ 7 ∷ []) ∷ protocol_violation (1 ∷ 255 ∷ []) ∷ unknown_cause 4 (1 ∷ []) ∷ []))
unfolding parameters_len cause_of
abort_fits =
    record {
      len_fits = omega arith;
      causes_fit = (
        record { whole = refl; entries_in_bytes = (omega arith, (omega arith, tt)) },
        ((omega arith, (omega arith, tt)), (record { code_fits = omega arith; read_as_unknown = refl; value_in_bytes = (omega arith, tt) }, tt)),
      );
    }

-- ---- texts

user_initiated_abort_is_shown : cause_text (user_initiated_abort (codes "Close called")) ≡ codes "cause 12: Close called"
unfolding digits
user_initiated_abort_is_shown = refl

-- A space, 32, is the first byte that is shown, and a tilde, 126, the last.
bytes_that_do_not_print_are_dots : cause_text (protocol_violation (0 ∷ 31 ∷ 32 ∷ 126 ∷ 127 ∷ 255 ∷ [])) ≡ codes "cause 13: .. ~.."
unfolding digits
bytes_that_do_not_print_are_dots = refl

empty_text_is_shown : cause_text (user_initiated_abort []) ≡ codes "cause 12: "
unfolding digits
empty_text_is_shown = refl

other_values_are_not_shown : cause_text (unknown_cause 65535 (codes "hi")) ≡ codes "cause 65535"
unfolding digits
other_values_are_not_shown = refl

missing_types_are_not_shown : cause_text (missing_mandatory_parameter (0 ∷ 7 ∷ [])) ≡ codes "cause 2"
unfolding digits
missing_types_are_not_shown = refl

texts_are_joined : causes_text (protocol_violation (codes "hi") ∷ missing_mandatory_parameter [] ∷ cookie_received_while_shutting_down ∷ []) ≡ codes "cause 13: hi,cause 2,cause 10"
unfolding digits
texts_are_joined = refl

no_causes_have_no_text : causes_text [] ≡ []
no_causes_have_no_text = refl
