-- What is written is bytes.
use Rattle.std.proofs.Common.{ℕ, ◌+◌, ◌/◌, ◌<◌, Bool, true, false, Option, None, Some, List, [], ◌∷◌, ◌++◌, length, map, arith}
use Rattle.std.specs.Int.{w16, w32, to_be_bytes}
use Rattle.std.specs.List.{flat_map, AllByRecursion}
use Rattle.std.proofs.lemmas.List.Elements.{All-append, All-replicate, All-from_recursion, recursion_from_All}
use Rattle.dcsctp_wire.specs.declared.reconfiguration.NextTsns.{NextTsns}
use Rattle.dcsctp_wire.specs.declared.chunk.user_data.DataFlags.{DataFlags}
use Rattle.dcsctp_wire.specs.Content.{ParameterContent, heartbeat_info, state_cookie, outgoing_ssn_reset_request, incoming_ssn_reset_request, reconfiguration_response, supported_extensions, zero_checksum_acceptable, forward_tsn_supported, unknown_parameter, InitContent, CauseContent, missing_mandatory_parameter, unrecognized_chunk_type, no_user_data, cookie_received_while_shutting_down, user_initiated_abort, protocol_violation, unknown_cause, DataContent, IDataContent, SackContent, ChunkContent, data_chunk, init_chunk, init_ack_chunk, sack_chunk, heartbeat_chunk, heartbeat_ack_chunk, abort_chunk, shutdown_chunk, shutdown_ack_chunk, error_chunk, cookie_echo_chunk, cookie_ack_chunk, shutdown_complete_chunk, i_data_chunk, re_config_chunk, forward_tsn_chunk, i_forward_tsn_chunk, unknown_chunk}
use Rattle.dcsctp_wire.specs.Format.{padding_of}
use Rattle.dcsctp_wire.specs.Spelling.{zeros, result_code, next_tsns_bytes, parameter_type, parameter_value, parameter_len, parameter_bytes, parameters_len, init_fields, as_parameter, t_bit, data_flags, data_fields, i_data_fields, sack_fields, WrittenChunk, by_value, by_list, written_chunk, other_bytes, parameter_chunk_bytes, spelled_bytes, chunk_bytes, header_bytes}
use Rattle.dcsctp_wire.specs.ReadsBack.{IsByte, FitsParameter, FitsCause, FitsChunk}

-- ---- numbers

pub both : (xs ys : List ℕ) → AllByRecursion IsByte xs → AllByRecursion IsByte ys → AllByRecursion IsByte (xs ++ ys)
both xs ys x y = recursion_from_All IsByte (xs ++ ys) (All-append IsByte xs ys (All-from_recursion IsByte xs x) (All-from_recursion IsByte ys y))

pub in_zeros : (n : ℕ) → AllByRecursion IsByte (zeros n)
in_zeros n = recursion_from_All IsByte (zeros n) (All-replicate IsByte n 0 (omega arith))

pub in_two : (n : ℕ) → AllByRecursion IsByte (to_be_bytes w16 n)
in_two n = (omega arith, (omega arith, tt))

pub in_four : (n : ℕ) → AllByRecursion IsByte (to_be_bytes w32 n)
in_four n = (omega arith, (omega arith, (omega arith, (omega arith, tt))))

-- ---- parameters and causes

abbrev ValueInBytes : ParameterContent → Type 0
ValueInBytes parameter = AllByRecursion IsByte (parameter_value parameter)

in_next : (next : Option NextTsns) → AllByRecursion IsByte (next_tsns_bytes next)
in_next None = tt
in_next (Some next) = both (to_be_bytes w32 next.sender) (to_be_bytes w32 next.receiver) (in_four next.sender) (in_four next.receiver)

in_three : (a b c : ℕ) → AllByRecursion IsByte (to_be_bytes w32 a ++ to_be_bytes w32 b ++ to_be_bytes w32 c)
in_three a b c = both (to_be_bytes w32 a) (to_be_bytes w32 b ++ to_be_bytes w32 c) (in_four a) (both (to_be_bytes w32 b) (to_be_bytes w32 c) (in_four b) (in_four c))

in_value : (parameter : ParameterContent) → FitsParameter parameter → ValueInBytes parameter
in_value (heartbeat_info info) fits = fits
in_value (state_cookie cookie) fits = fits
in_value (outgoing_ssn_reset_request number answered last_tsn streams) fits =
    both (to_be_bytes w32 number ++ to_be_bytes w32 answered ++ to_be_bytes w32 last_tsn) streams (in_three number answered last_tsn) fits.streams_fit.entries_in_bytes
in_value (incoming_ssn_reset_request number streams) fits = both (to_be_bytes w32 number) streams (in_four number) fits.1.entries_in_bytes
in_value (reconfiguration_response number result next) fits =
    both (to_be_bytes w32 number) (to_be_bytes w32 (result_code result) ++ next_tsns_bytes next) (in_four number)
    (both (to_be_bytes w32 (result_code result)) (next_tsns_bytes next) (in_four (result_code result)) (in_next next))
in_value (supported_extensions chunk_types) fits = fits
in_value (zero_checksum_acceptable method) fits = in_four method
in_value forward_tsn_supported fits = tt
in_value (unknown_parameter other value) fits = fits.value_in_bytes

in_values : (parameters : List ParameterContent) → AllByRecursion FitsParameter parameters → AllByRecursion ValueInBytes parameters
in_values [] fits = tt
in_values (parameter ∷ parameters) fits = (in_value parameter fits.0, in_values parameters fits.1)

in_cause : (cause : CauseContent) → FitsCause cause → ValueInBytes (as_parameter cause)
in_cause (missing_mandatory_parameter types) fits = both (to_be_bytes w32 (length types / 2)) types (in_four (length types / 2)) fits.entries_in_bytes
in_cause (unrecognized_chunk_type chunk) fits = fits
in_cause (no_user_data tsn) fits = in_four tsn
in_cause cookie_received_while_shutting_down fits = tt
in_cause (user_initiated_abort text) fits = fits
in_cause (protocol_violation text) fits = fits
in_cause (unknown_cause code value) fits = fits.value_in_bytes

in_causes : (causes : List CauseContent) → AllByRecursion FitsCause causes → AllByRecursion ValueInBytes (map as_parameter causes)
in_causes [] fits = tt
in_causes (cause ∷ causes) fits = (in_cause cause fits.0, in_causes causes fits.1)

in_parameter : (parameter : ParameterContent) → AllByRecursion IsByte (parameter_value parameter) → AllByRecursion IsByte (parameter_bytes parameter)
unfolding parameter_bytes
in_parameter parameter in_value =
    let first : List ℕ = to_be_bytes w16 (parameter_type parameter) in
    let second : List ℕ = to_be_bytes w16 (parameter_len parameter) in
    let value : List ℕ = parameter_value parameter in
    let padding : ℕ = padding_of (parameter_len parameter) in
    both (first ++ second ++ value) (zeros padding)
    (both (first ++ second) value (both first second (in_two (parameter_type parameter)) (in_two (parameter_len parameter))) in_value) (in_zeros padding)

in_parameters : (parameters : List ParameterContent) → AllByRecursion ValueInBytes parameters → AllByRecursion IsByte (flat_map parameter_bytes parameters)
in_parameters [] in_each = tt
in_parameters (parameter ∷ parameters) in_each =
    both (parameter_bytes parameter) (flat_map parameter_bytes parameters) (in_parameter parameter in_each.0) (in_parameters parameters in_each.1)

-- ---- fixed parts

in_fields : (init : InitContent) → AllByRecursion IsByte (init_fields init)
unfolding init_fields
in_fields init =
    let one : List ℕ = to_be_bytes w32 init.initiate_tag in
    let two : List ℕ = one ++ to_be_bytes w32 init.a_rwnd in
    let three : List ℕ = two ++ to_be_bytes w16 init.outbound_streams in
    let four : List ℕ = three ++ to_be_bytes w16 init.inbound_streams in
    let in_tags : AllByRecursion IsByte two = both one (to_be_bytes w32 init.a_rwnd) (in_four init.initiate_tag) (in_four init.a_rwnd) in
    let in_outbound : AllByRecursion IsByte three = both two (to_be_bytes w16 init.outbound_streams) in_tags (in_two init.outbound_streams) in
    let in_inbound : AllByRecursion IsByte four = both three (to_be_bytes w16 init.inbound_streams) in_outbound (in_two init.inbound_streams) in
    both four (to_be_bytes w32 init.initial_tsn) in_inbound (in_four init.initial_tsn)

in_data_fields : (chunk : DataContent) → AllByRecursion IsByte (data_fields chunk)
unfolding data_fields
in_data_fields chunk =
    let tsn : List ℕ = to_be_bytes w32 chunk.tsn in
    let stream : List ℕ = to_be_bytes w16 chunk.stream_id in
    let ssn : List ℕ = to_be_bytes w16 chunk.ssn in
    let ppid : List ℕ = to_be_bytes w32 chunk.ppid in
    both tsn (stream ++ ssn ++ ppid) (in_four chunk.tsn)
    (both stream (ssn ++ ppid) (in_two chunk.stream_id) (both ssn ppid (in_two chunk.ssn) (in_four chunk.ppid)))

in_i_data_fields : (chunk : IDataContent) → AllByRecursion IsByte (i_data_fields chunk)
unfolding i_data_fields
in_i_data_fields chunk =
    let tsn : List ℕ = to_be_bytes w32 chunk.tsn in
    let stream : List ℕ = to_be_bytes w16 chunk.stream_id in
    let mid : List ℕ = to_be_bytes w32 chunk.mid in
    let number : List ℕ = to_be_bytes w32 chunk.ppid_or_fsn in
    both tsn (stream ++ zeros 2 ++ mid ++ number) (in_four chunk.tsn)
    (both stream (zeros 2 ++ mid ++ number) (in_two chunk.stream_id)
    (both (zeros 2) (mid ++ number) (in_zeros 2) (both mid number (in_four chunk.mid) (in_four chunk.ppid_or_fsn))))

in_sack_fields : (chunk : SackContent) → AllByRecursion IsByte (sack_fields chunk)
unfolding sack_fields
in_sack_fields chunk =
    let tsn : List ℕ = to_be_bytes w32 chunk.cumulative_tsn_ack in
    let window : List ℕ = to_be_bytes w32 chunk.a_rwnd in
    let blocks : List ℕ = to_be_bytes w16 (length chunk.gap_ack_blocks / 4) in
    let duplicates : List ℕ = to_be_bytes w16 (length chunk.duplicate_tsns / 4) in
    both tsn (window ++ blocks ++ duplicates) (in_four chunk.cumulative_tsn_ack)
    (both window (blocks ++ duplicates) (in_four chunk.a_rwnd) (both blocks duplicates (in_two (length chunk.gap_ack_blocks / 4)) (in_two (length chunk.duplicate_tsns / 4))))

in_t_bit : (reflected : Bool) → IsByte (t_bit reflected)
in_t_bit true = omega arith
in_t_bit false = omega arith

bit_fits : (bit : Bool) → t_bit bit < 2
bit_fits true = omega arith
bit_fits false = omega arith

in_data_flags : (flags : DataFlags) → IsByte (data_flags flags)
in_data_flags flags = omega (arith, bit_fits flags.is_end, bit_fits flags.is_beginning, bit_fits flags.is_unordered, bit_fits flags.immediate_ack)

-- ---- chunks

in_other : (chunk_type flags : ℕ) (value : List ℕ) → IsByte chunk_type → IsByte flags → AllByRecursion IsByte value → AllByRecursion IsByte (other_bytes chunk_type flags value)
unfolding other_bytes
in_other chunk_type flags value type_fits flags_fit value_in_bytes =
    let padding : List ℕ = zeros (padding_of (length value)) in
    let len : List ℕ = to_be_bytes w16 (4 + length value) in
    (type_fits, (flags_fit, both (len ++ value) padding (both len value (in_two (4 + length value)) value_in_bytes) (in_zeros (padding_of (length value)))))

in_list : (chunk_type flags : ℕ) (fields : List ℕ) (parameters : List ParameterContent)
    → IsByte chunk_type → IsByte flags → AllByRecursion IsByte fields → AllByRecursion ValueInBytes parameters → AllByRecursion IsByte (parameter_chunk_bytes chunk_type flags fields parameters)
unfolding parameter_chunk_bytes
in_list chunk_type flags fields parameters type_fits flags_fit in_fields in_each =
    let n : ℕ = 4 + length fields + parameters_len parameters in
    let all : List ℕ = flat_map parameter_bytes parameters in
    (type_fits, (flags_fit, both (to_be_bytes w16 n) (fields ++ all) (in_two n) (both fields all in_fields (in_parameters parameters in_each))))

abbrev SpelledInBytes : WrittenChunk → Type 0
SpelledInBytes (by_value chunk_type flags value) = IsByte chunk_type × IsByte flags × AllByRecursion IsByte value
SpelledInBytes (by_list chunk_type flags fields parameters) =
    IsByte chunk_type × IsByte flags × AllByRecursion IsByte fields × AllByRecursion ValueInBytes parameters

spelled_in_bytes : (s : WrittenChunk) → SpelledInBytes s → AllByRecursion IsByte (spelled_bytes s)
spelled_in_bytes (by_value chunk_type flags value) fits = in_other chunk_type flags value fits.0 fits.1 fits.2
spelled_in_bytes (by_list chunk_type flags fields parameters) fits = in_list chunk_type flags fields parameters fits.0 fits.1 fits.2 fits.3

in_spelled : (chunk : ChunkContent) → FitsChunk chunk → SpelledInBytes (written_chunk chunk)
in_spelled (data_chunk chunk) fits =
    (omega arith, in_data_flags chunk.flags, both (data_fields chunk) chunk.payload (in_data_fields chunk) fits.payload_in_bytes)
in_spelled (init_chunk init) fits = (omega arith, omega arith, in_fields init, in_values init.parameters fits.parameters)
in_spelled (init_ack_chunk init) fits = (omega arith, omega arith, in_fields init, in_values init.parameters fits.parameters)
in_spelled (sack_chunk chunk) fits = (
  omega arith,
  omega arith,
  both (sack_fields chunk) (chunk.gap_ack_blocks ++ chunk.duplicate_tsns) (in_sack_fields chunk)
      (both chunk.gap_ack_blocks chunk.duplicate_tsns fits.blocks.entries_in_bytes fits.duplicates.entries_in_bytes),
)
in_spelled (heartbeat_chunk parameters) fits = (omega arith, omega arith, tt, in_values parameters fits.parameters_fit)
in_spelled (heartbeat_ack_chunk parameters) fits = (omega arith, omega arith, tt, in_values parameters fits.parameters_fit)
in_spelled (abort_chunk reflected causes) fits = (omega arith, in_t_bit reflected, tt, in_causes causes fits.causes_fit)
in_spelled (shutdown_chunk cumulative_tsn) fits = (omega arith, omega arith, in_four cumulative_tsn)
in_spelled shutdown_ack_chunk fits = (omega arith, omega arith, tt)
in_spelled (error_chunk causes) fits = (omega arith, omega arith, tt, in_causes causes fits.causes_fit)
in_spelled (cookie_echo_chunk cookie) fits = (omega arith, omega arith, fits.cookie_in_bytes)
in_spelled cookie_ack_chunk fits = (omega arith, omega arith, tt)
in_spelled (shutdown_complete_chunk reflected) fits = (omega arith, in_t_bit reflected, tt)
in_spelled (i_data_chunk chunk) fits =
    (omega arith, in_data_flags chunk.flags, both (i_data_fields chunk) chunk.payload (in_i_data_fields chunk) fits.payload_in_bytes)
in_spelled (re_config_chunk parameters) fits = (omega arith, omega arith, tt, in_values parameters fits.parameters_fit)
in_spelled (forward_tsn_chunk tsn streams) fits = (omega arith, omega arith, both (to_be_bytes w32 tsn) streams (in_four tsn) fits.streams_fit.entries_in_bytes)
in_spelled (i_forward_tsn_chunk tsn streams) fits = (omega arith, omega arith, both (to_be_bytes w32 tsn) streams (in_four tsn) fits.streams_fit.entries_in_bytes)
in_spelled (unknown_chunk chunk_type flags value) fits = (fits.type_fits, fits.flags_fit, fits.value_in_bytes)

pub in_chunks : (chunks : List ChunkContent) → AllByRecursion FitsChunk chunks → AllByRecursion IsByte (flat_map chunk_bytes chunks)
in_chunks [] fits = tt
in_chunks (chunk ∷ chunks) fits =
    both (chunk_bytes chunk) (flat_map chunk_bytes chunks) (spelled_in_bytes (written_chunk chunk) (in_spelled chunk fits.0)) (in_chunks chunks fits.1)

pub in_header : (source_port destination_port verification_tag : ℕ) → AllByRecursion IsByte (header_bytes source_port destination_port verification_tag)
unfolding header_bytes
in_header source_port destination_port verification_tag =
    both (to_be_bytes w16 source_port ++ to_be_bytes w16 destination_port) (to_be_bytes w32 verification_tag)
    (both (to_be_bytes w16 source_port) (to_be_bytes w16 destination_port) (in_two source_port) (in_two destination_port)) (in_four verification_tag)
