-- How long chunks and parameters are.
use Rattle.std.proofs.Common.{◌≡◌, ℕ, zero, suc, ◌+◌, ◌%◌, ◌<◌, ◌≤◌, List, [], ◌∷◌, length, map, take, get_or, refl, ap, ◌∙◌, arith, length-append}
use Rattle.std.specs.List.{fold, flat_map, sum_by}
use Rattle.std.proofs.lemmas.List.{length-replicate, map_more, map-append}
use Rattle.std.proofs.lemmas.List.Sums.{fold_push}
use Rattle.std.proofs.lemmas.List.Concat.{length-flat_map}
use Rattle.dcsctp_wire.specs.declared.parameter.Parameter.{Parameter}
use Rattle.dcsctp_wire.specs.declared.cause.ErrorCause.{ErrorCause}
use Rattle.dcsctp_wire.specs.Content.{ParameterContent, InitContent, CauseContent, DataContent, IDataContent, SackContent, ChunkContent, cause_content, data_chunk, init_chunk, init_ack_chunk, sack_chunk, heartbeat_chunk, heartbeat_ack_chunk, abort_chunk, shutdown_chunk, shutdown_ack_chunk, error_chunk, cookie_echo_chunk, cookie_ack_chunk, shutdown_complete_chunk, i_data_chunk, re_config_chunk, forward_tsn_chunk, i_forward_tsn_chunk, unknown_chunk, parameter_content}
use Rattle.dcsctp_wire.specs.Format.{padding_of}
use Rattle.dcsctp_wire.specs.Spelling.{zeros, header_bytes, parameter_value, parameter_len, parameter_bytes, parameters_len, init_fields, data_fields, i_data_fields, sack_fields, as_parameter, WrittenChunk, by_value, by_list, written_chunk, spelled_len, chunk_len, other_bytes, parameter_chunk_bytes, spelled_bytes, chunk_bytes}

pub length-parameter_bytes : (parameter : ParameterContent) → length (parameter_bytes parameter) ≡ parameter_len parameter + padding_of (parameter_len parameter)
unfolding parameter_bytes
length-parameter_bytes parameter =
    omega (arith, length-append (parameter_value parameter) (zeros (padding_of (parameter_len parameter))), length-replicate {A = ℕ} (padding_of (parameter_len parameter)) 0)

pub length-other_bytes : (chunk_type flags : ℕ) (value : List ℕ) → length (other_bytes chunk_type flags value) ≡ 4 + length value + padding_of (length value)
unfolding other_bytes
length-other_bytes chunk_type flags value =
    omega (arith, length-append value (zeros (padding_of (length value))), length-replicate {A = ℕ} (padding_of (length value)) 0)

pub length-list_bytes : (chunk_type flags : ℕ) (fields : List ℕ) (parameters : List ParameterContent)
    → length (parameter_chunk_bytes chunk_type flags fields parameters) ≡ 4 + length fields + length (flat_map parameter_bytes parameters)
unfolding parameter_chunk_bytes
length-list_bytes chunk_type flags fields parameters = omega (arith, length-append fields (flat_map parameter_bytes parameters))

-- the length of parameters, with one more after them
abbrev pub and_one_more : ℕ → ParameterContent → ℕ
and_one_more len parameter = len + padding_of len + parameter_len parameter

padded_fold : (len : ℕ) (parameters : List ParameterContent) → fold and_one_more len parameters + padding_of (fold and_one_more len parameters) ≡ len + padding_of len + length (flat_map parameter_bytes parameters)
padded_fold len [] = omega arith
padded_fold len (parameter ∷ parameters) =
    omega (arith, padded_fold (and_one_more len parameter) parameters, length-append (parameter_bytes parameter) (flat_map parameter_bytes parameters), length-parameter_bytes parameter)

-- The length of parameters leaves out the padding of the last.
pub padded_parameters : (parameters : List ParameterContent) → parameters_len parameters + padding_of (parameters_len parameters) ≡ length (flat_map parameter_bytes parameters)
unfolding parameters_len
padded_parameters parameters = omega (arith, padded_fold 0 parameters)

pub parameters_len_more : (parameters : List Parameter) (i : ℕ) → i < length parameters → (d : Parameter)
    → parameters_len (map parameter_content (take (i + 1) parameters)) ≡ and_one_more (parameters_len (map parameter_content (take i parameters))) (parameter_content (get_or parameters i d))
unfolding parameters_len
parameters_len_more parameters i lt d =
    ap (fold and_one_more 0) (map_more parameter_content parameters i d lt) ∙ fold_push and_one_more 0 (map parameter_content (take i parameters)) (parameter_content (get_or parameters i d))

-- the bytes of the next parameter and of those so far are among the bytes of all
pub next_parameter_fits : (parameters : List Parameter) (i : ℕ) → i < length parameters → (d : Parameter)
    → length (parameter_bytes (parameter_content (get_or parameters i d))) + length (flat_map parameter_bytes (map parameter_content (take i parameters))) ≤ length (flat_map parameter_bytes (map parameter_content parameters))
next_parameter_fits [] i lt d = absurd (omega arith)
next_parameter_fits (p ∷ ps) zero lt d = omega (arith, length-append (parameter_bytes (parameter_content p)) (flat_map parameter_bytes (map parameter_content ps)))
next_parameter_fits (p ∷ ps) (suc i) lt d =
    omega (arith, next_parameter_fits ps i (omega arith) d, length-append (parameter_bytes (parameter_content p)) (flat_map parameter_bytes (map parameter_content (take i ps))), length-append (parameter_bytes (parameter_content p)) (flat_map parameter_bytes (map parameter_content ps)))

-- the length of the next parameter
pub next_parameter_len : (parameters : List Parameter) (i : ℕ) → i < length parameters → (d : Parameter)
    → parameter_len (parameter_content (get_or parameters i d)) ≤ length (flat_map parameter_bytes (map parameter_content parameters))
next_parameter_len parameters i lt d =
    omega (arith, next_parameter_fits parameters i lt d, length-parameter_bytes (parameter_content (get_or parameters i d)))

-- ---- chunks

pub length-data_fields : (chunk : DataContent) → length (data_fields chunk) ≡ 12
unfolding data_fields
length-data_fields chunk = refl

pub length-i_data_fields : (chunk : IDataContent) → length (i_data_fields chunk) ≡ 16
unfolding i_data_fields
length-i_data_fields chunk = refl

pub length-sack_fields : (chunk : SackContent) → length (sack_fields chunk) ≡ 12
unfolding sack_fields
length-sack_fields chunk = refl

pub length-init_fields : (init : InitContent) → length (init_fields init) ≡ 16
unfolding init_fields
length-init_fields init = refl

-- The fixed part of a chunk is a multiple of 4 bytes long.
abbrev HasWholeFields : WrittenChunk → Type 0
HasWholeFields (by_value chunk_type flags value) = Unit {0}
HasWholeFields (by_list chunk_type flags fields parameters) = length fields % 4 ≡ 0

has_whole_fields : (chunk : ChunkContent) → HasWholeFields (written_chunk chunk)
unfolding init_fields
has_whole_fields (data_chunk chunk) = tt
has_whole_fields (init_chunk init) = refl
has_whole_fields (init_ack_chunk init) = refl
has_whole_fields (sack_chunk chunk) = tt
has_whole_fields (heartbeat_chunk parameters) = refl
has_whole_fields (heartbeat_ack_chunk parameters) = refl
has_whole_fields (abort_chunk reflected causes) = refl
has_whole_fields (shutdown_chunk cumulative_tsn) = tt
has_whole_fields shutdown_ack_chunk = tt
has_whole_fields (error_chunk causes) = refl
has_whole_fields (cookie_echo_chunk cookie) = tt
has_whole_fields cookie_ack_chunk = tt
has_whole_fields (shutdown_complete_chunk reflected) = tt
has_whole_fields (i_data_chunk chunk) = tt
has_whole_fields (re_config_chunk parameters) = refl
has_whole_fields (forward_tsn_chunk tsn streams) = tt
has_whole_fields (i_forward_tsn_chunk tsn streams) = tt
has_whole_fields (unknown_chunk chunk_type flags value) = tt

length-spelled : (s : WrittenChunk) → HasWholeFields s → length (spelled_bytes s) ≡ spelled_len s + padding_of (spelled_len s)
length-spelled (by_value chunk_type flags value) whole = omega (arith, length-other_bytes chunk_type flags value)
length-spelled (by_list chunk_type flags fields parameters) whole =
    omega (arith, whole, length-list_bytes chunk_type flags fields parameters, padded_parameters parameters)

pub length-chunk_bytes : (chunk : ChunkContent) → length (chunk_bytes chunk) ≡ chunk_len chunk + padding_of (chunk_len chunk)
length-chunk_bytes chunk = length-spelled (written_chunk chunk) (has_whole_fields chunk)

pub chunk_is_padded : (chunk : ChunkContent) → length (chunk_bytes chunk) % 4 ≡ 0
chunk_is_padded chunk = omega (arith, length-chunk_bytes chunk)

pub list_size : (chunk_type flags : ℕ) (fields : List ℕ) (parameters : List ParameterContent)
    → length (parameter_chunk_bytes chunk_type flags fields parameters) ≡ 4 + length fields + sum_by (λ parameter. length (parameter_bytes parameter)) parameters
list_size chunk_type flags fields parameters =
    length-list_bytes chunk_type flags fields parameters ∙ ap (λ (n : ℕ). 4 + length fields + n) (length-flat_map parameter_bytes parameters)

-- ---- packets

pub length-header_bytes : (source_port destination_port verification_tag : ℕ) → length (header_bytes source_port destination_port verification_tag) ≡ 8
unfolding header_bytes
length-header_bytes source_port destination_port verification_tag = refl

-- ---- causes, which are written as parameters are

-- a cause in memory as a parameter
abbrev pub parameter_in : ErrorCause → ParameterContent
parameter_in cause = as_parameter (cause_content cause)

pub causes_len_more : (causes : List ErrorCause) (i : ℕ) → i < length causes → (d : ErrorCause)
    → parameters_len (map as_parameter (map cause_content (take (i + 1) causes))) ≡ and_one_more (parameters_len (map as_parameter (map cause_content (take i causes)))) (parameter_in (get_or causes i d))
unfolding parameters_len
causes_len_more causes i lt d =
    ap (λ (cs : List CauseContent). fold and_one_more 0 (map as_parameter cs)) (map_more cause_content causes i d lt)
    ∙ ap (fold and_one_more 0) (map-append as_parameter (map cause_content (take i causes)) (cause_content (get_or causes i d) ∷ []))
    ∙ fold_push and_one_more 0 (map as_parameter (map cause_content (take i causes))) (parameter_in (get_or causes i d))

-- the bytes of the next cause and of those so far are among the bytes of all
pub next_cause_fits : (causes : List ErrorCause) (i : ℕ) → i < length causes → (d : ErrorCause)
    → length (parameter_bytes (parameter_in (get_or causes i d))) + length (flat_map parameter_bytes (map as_parameter (map cause_content (take i causes)))) ≤ length (flat_map parameter_bytes (map as_parameter (map cause_content causes)))
next_cause_fits [] i lt d = absurd (omega arith)
next_cause_fits (c ∷ cs) zero lt d = omega (arith, length-append (parameter_bytes (parameter_in c)) (flat_map parameter_bytes (map as_parameter (map cause_content cs))))
next_cause_fits (c ∷ cs) (suc i) lt d =
    omega (arith, next_cause_fits cs i (omega arith) d, length-append (parameter_bytes (parameter_in c)) (flat_map parameter_bytes (map as_parameter (map cause_content (take i cs)))), length-append (parameter_bytes (parameter_in c)) (flat_map parameter_bytes (map as_parameter (map cause_content cs))))

pub next_cause_len : (causes : List ErrorCause) (i : ℕ) → i < length causes → (d : ErrorCause)
    → parameter_len (parameter_in (get_or causes i d)) ≤ length (flat_map parameter_bytes (map as_parameter (map cause_content causes)))
next_cause_len causes i lt d = omega (arith, next_cause_fits causes i lt d, length-parameter_bytes (parameter_in (get_or causes i d)))
