-- Written chunks read back.
use Rattle.std.proofs.Common.{◌≡◌, ℕ, ◌+◌, ◌%◌, ◌<◌, ◌≤◌, ◌^◌, Bool, List, [], ◌∷◌, ◌++◌, length, map, take, drop, Some, refl, sym, ap, subst, ◌∙◌, append_assoc, length-append, length-drop, arith}
use Rattle.std.specs.Int.{w16, to_be_bytes}
use Rattle.std.specs.List.{flat_map, AllByRecursion}
use Rattle.std.proofs.lemmas.List.{drop_at, take-append-drop, length-replicate, length-take-le}
use Rattle.std.proofs.lemmas.Nat.{from_be_bytes-to_be_bytes_2, from_be_bytes-to_be_bytes_4}
use Rattle.dcsctp_wire.specs.Content.{ParameterContent, InitContent, CauseContent, ChunkContent, data_chunk, init_chunk, init_ack_chunk, sack_chunk, heartbeat_chunk, heartbeat_ack_chunk, abort_chunk, shutdown_chunk, shutdown_ack_chunk, error_chunk, cookie_echo_chunk, cookie_ack_chunk, shutdown_complete_chunk, i_data_chunk, re_config_chunk, forward_tsn_chunk, i_forward_tsn_chunk, unknown_chunk}
use Rattle.dcsctp_wire.specs.Fields.{content_of_fields}
use Rattle.dcsctp_wire.specs.Format.{padding_of, leading_frame, HasInitMinima, IsInitValue, AreParameters, AreCauses, Form, form_of, HasForm, IsChunkOf, IsReadByHeader, BeginsWithChunk, AreChunks}
use Rattle.dcsctp_wire.specs.Spelling.{zeros, parameter_bytes, parameters_len, init_fields, as_parameter, data_fields, i_data_fields, sack_fields, WrittenChunk, by_value, by_list, written_chunk, other_bytes, parameter_chunk_bytes, spelled_bytes, chunk_bytes}
use Rattle.dcsctp_wire.specs.ReadsBack.{FitsParameters, FitsInit, FitsOther, FitsCauses, FitsChunk, HasMinima}
use Rattle.dcsctp_wire.proofs.Lengths.{padded_parameters}
use Rattle.dcsctp_wire_laws.proofs.ReadsBackFields.{bit_read, data_reads, i_data_reads, sack_reads, shutdown_reads, forward_reads, i_forward_reads}
use Rattle.dcsctp_wire_laws.proofs.ReadsBackFrames.{frame_behind}
use Rattle.dcsctp_wire_laws.proofs.ReadsBackParameters.{parameters_read_back}
use Rattle.dcsctp_wire_laws.proofs.ReadsBackCauses.{causes_read_back}

-- ---- chunks that end in parameters or causes

cut : (fields all rest : List ℕ) (n : ℕ) → (fields ++ all) ++ rest ≡ (fields ++ take n all) ++ (drop n all ++ rest)
cut fields all rest n =
    ap (λ (x : List ℕ). (fields ++ x) ++ rest) (sym (take-append-drop n all))
    ∙ ap (λ (x : List ℕ). x ++ rest) (sym (append_assoc fields (take n all) (drop n all)))
    ∙ append_assoc (fields ++ take n all) (drop n all) rest

-- fields, and parameters without the padding of the last
abbrev value_with : List ℕ → List ParameterContent → List ℕ
value_with fields parameters = fields ++ take (parameters_len parameters) (flat_map parameter_bytes parameters)

length-value_with : (fields : List ℕ) (parameters : List ParameterContent) → length (value_with fields parameters) ≡ length fields + parameters_len parameters
length-value_with fields parameters =
    let all : List ℕ = flat_map parameter_bytes parameters in
    let n : ℕ = parameters_len parameters in
    let inside : n ≤ length all = omega (arith, padded_parameters parameters) in
    omega (arith, length-append fields (take n all), length-take-le n all inside)

-- The fields are a multiple of 4 bytes long.
framed_with : (first second len : ℕ) (fields : List ℕ) (parameters : List ParameterContent) → length fields % 4 ≡ 0 → len ≡ 4 + length fields + parameters_len parameters → len < 2 ^ 16 → (rest : List ℕ)
    → leading_frame (first ∷ second ∷ to_be_bytes w16 len ++ (fields ++ flat_map parameter_bytes parameters) ++ rest) ≡ Some (record { value = value_with fields parameters; rest = rest })
framed_with first second len fields parameters whole is fits rest =
    let all : List ℕ = flat_map parameter_bytes parameters in
    let n : ℕ = parameters_len parameters in
    let padding : length (drop n all) ≡ padding_of len = omega (arith, length-drop n all, padded_parameters parameters) in
    ap (λ (x : List ℕ). leading_frame (first ∷ second ∷ to_be_bytes w16 len ++ x)) (cut fields all rest n)
    ∙ frame_behind first second len (value_with fields parameters) (drop n all ++ rest) rest (omega (arith, length-value_with fields parameters)) fits (drop_at (drop n all) rest (padding_of len) padding)

-- ---- INIT and INIT ACK

abbrev pub init_value : InitContent → List ℕ
init_value init = value_with (init_fields init) init.parameters

init_read : (init : InitContent) → FitsInit init → HasInitMinima init → IsInitValue init (init_value init)
unfolding init_fields
init_read init fits minima =
    record {
      long_enough = omega (arith, length-value_with (init_fields init) init.parameters);
      initiate_tag = sym (from_be_bytes-to_be_bytes_4 init.initiate_tag fits.initiate_tag);
      a_rwnd = sym (from_be_bytes-to_be_bytes_4 init.a_rwnd fits.a_rwnd);
      outbound_streams = sym (from_be_bytes-to_be_bytes_2 init.outbound_streams fits.outbound_streams);
      inbound_streams = sym (from_be_bytes-to_be_bytes_2 init.inbound_streams fits.inbound_streams);
      initial_tsn = sym (from_be_bytes-to_be_bytes_4 init.initial_tsn fits.initial_tsn);
      minima = minima;
      parameters = parameters_read_back init.parameters fits.parameters (omega (arith, fits.len_fits));
    }

-- ---- other chunks

other_framed : (chunk_type flags : ℕ) (value : List ℕ) → 4 + length value < 2 ^ 16 → (rest : List ℕ) → leading_frame (other_bytes chunk_type flags value ++ rest) ≡ Some (record { value = value; rest = rest })
unfolding other_bytes
other_framed chunk_type flags value len_fits rest =
    let padding : List ℕ = zeros (padding_of (length value)) in
    let padding_is : length padding ≡ padding_of (4 + length value) = omega (arith, length-replicate {A = ℕ} (padding_of (length value)) 0) in
    ap (λ (x : List ℕ). leading_frame (chunk_type ∷ flags ∷ to_be_bytes w16 (4 + length value) ++ x)) (append_assoc value padding rest)
    ∙ frame_behind chunk_type flags (4 + length value) value (padding ++ rest) rest refl len_fits (drop_at padding rest (padding_of (4 + length value)) padding_is)

-- ---- frames

-- the value of a chunk
abbrev pub spelled_value : WrittenChunk → List ℕ
spelled_value (by_value chunk_type flags value) = value
spelled_value (by_list chunk_type flags fields parameters) = value_with fields parameters

abbrev pub chunk_value : ChunkContent → List ℕ
chunk_value chunk = spelled_value (written_chunk chunk)

abbrev FitsFrame : WrittenChunk → Type 0
FitsFrame (by_value chunk_type flags value) = 4 + length value < 2 ^ 16
FitsFrame (by_list chunk_type flags fields parameters) = (length fields % 4 ≡ 0) × (4 + length fields + parameters_len parameters < 2 ^ 16)

fits_frame : (chunk : ChunkContent) → FitsChunk chunk → FitsFrame (written_chunk chunk)
unfolding data_fields i_data_fields sack_fields init_fields
fits_frame (data_chunk chunk) fits = omega (arith, fits.len_fits)
fits_frame (init_chunk init) fits = (refl, omega (arith, fits.len_fits))
fits_frame (init_ack_chunk init) fits = (refl, omega (arith, fits.len_fits))
fits_frame (sack_chunk chunk) fits = omega (arith, fits.len_fits, length-append chunk.gap_ack_blocks chunk.duplicate_tsns)
fits_frame (heartbeat_chunk parameters) fits = (refl, omega (arith, fits.len_fits))
fits_frame (heartbeat_ack_chunk parameters) fits = (refl, omega (arith, fits.len_fits))
fits_frame (abort_chunk reflected causes) fits = (refl, omega (arith, fits.len_fits))
fits_frame (shutdown_chunk cumulative_tsn) fits = omega arith
fits_frame shutdown_ack_chunk fits = omega arith
fits_frame (error_chunk causes) fits = (refl, omega (arith, fits.len_fits))
fits_frame (cookie_echo_chunk cookie) fits = fits.len_fits
fits_frame cookie_ack_chunk fits = omega arith
fits_frame (shutdown_complete_chunk reflected) fits = omega arith
fits_frame (i_data_chunk chunk) fits = omega (arith, fits.len_fits)
fits_frame (re_config_chunk parameters) fits = (refl, omega (arith, fits.len_fits))
fits_frame (forward_tsn_chunk tsn streams) fits = omega (arith, fits.len_fits)
fits_frame (i_forward_tsn_chunk tsn streams) fits = omega (arith, fits.len_fits)
fits_frame (unknown_chunk chunk_type flags value) fits = fits.len_fits

spelled_framed : (s : WrittenChunk) → FitsFrame s → (rest : List ℕ) → leading_frame (spelled_bytes s ++ rest) ≡ Some (record { value = spelled_value s; rest = rest })
unfolding parameter_chunk_bytes
spelled_framed (by_value chunk_type flags value) fits rest = other_framed chunk_type flags value fits rest
spelled_framed (by_list chunk_type flags fields parameters) fits rest =
    framed_with chunk_type flags (4 + length fields + parameters_len parameters) fields parameters fits.0 refl fits.1 rest

pub framed : (chunk : ChunkContent) → FitsChunk chunk → (rest : List ℕ) → leading_frame (chunk_bytes chunk ++ rest) ≡ Some (record { value = chunk_value chunk; rest = rest })
framed chunk fits rest = spelled_framed (written_chunk chunk) (fits_frame chunk fits) rest

-- ---- what the value says

list_read : (parameters : List ParameterContent) → FitsParameters parameters → AreParameters parameters (value_with [] parameters)
list_read parameters fits = parameters_read_back parameters fits.parameters_fit (omega (arith, fits.len_fits))

causes_read : (causes : List CauseContent) → FitsCauses causes → AreCauses causes (value_with [] (map as_parameter causes))
causes_read causes fits = causes_read_back causes fits.causes_fit (omega (arith, fits.len_fits))

-- a chunk of no known type
unknown_read : (chunk_type flags : ℕ) (value : List ℕ) → FitsOther chunk_type flags value → IsChunkOf (unknown_chunk chunk_type flags value) chunk_type flags value
unknown_read chunk_type flags value fits =
    subst (λ (form : Form). HasForm form (unknown_chunk chunk_type flags value) chunk_type flags value) (sym fits.form) fits.read_as_unknown

says : (chunk : ChunkContent) → FitsChunk chunk → HasMinima chunk → (rest : List ℕ) → IsReadByHeader chunk (chunk_bytes chunk ++ rest) (chunk_value chunk)
unfolding form_of content_of_fields parameter_chunk_bytes other_bytes
says (data_chunk chunk) fits minima rest = data_reads chunk fits
says (init_chunk init) fits minima rest = (init, refl, init_read init fits minima)
says (init_ack_chunk init) fits minima rest = (init, refl, init_read init fits minima)
says (sack_chunk chunk) fits minima rest = sack_reads chunk fits
says (heartbeat_chunk parameters) fits minima rest = (parameters, refl, list_read parameters fits)
says (heartbeat_ack_chunk parameters) fits minima rest = (parameters, refl, list_read parameters fits)
says (abort_chunk reflected causes) fits minima rest = (causes, ap (λ (bit : Bool). abort_chunk bit causes) (sym (bit_read reflected)), causes_read causes fits)
says (shutdown_chunk cumulative_tsn) fits minima rest = shutdown_reads cumulative_tsn fits
says shutdown_ack_chunk fits minima rest = refl
says (error_chunk causes) fits minima rest = (causes, refl, causes_read causes fits)
says (cookie_echo_chunk cookie) fits minima rest = refl
says cookie_ack_chunk fits minima rest = refl
says (shutdown_complete_chunk reflected) fits minima rest = ap (λ (bit : Bool). Some (shutdown_complete_chunk bit)) (bit_read reflected)
says (i_data_chunk chunk) fits minima rest = i_data_reads chunk fits
says (re_config_chunk parameters) fits minima rest = (parameters, refl, list_read parameters fits)
says (forward_tsn_chunk tsn streams) fits minima rest = forward_reads tsn streams fits
says (i_forward_tsn_chunk tsn streams) fits minima rest = i_forward_reads tsn streams fits
says (unknown_chunk chunk_type flags value) fits minima rest = unknown_read chunk_type flags value fits

-- ---- chunks after one another

pub begins : (chunk : ChunkContent) → FitsChunk chunk → HasMinima chunk → (rest : List ℕ) → BeginsWithChunk chunk rest (chunk_bytes chunk ++ rest)
begins chunk fits minima rest = record { value = chunk_value chunk; framed = framed chunk fits rest; read = says chunk fits minima rest }

pub chunks_read_back : (chunks : List ChunkContent) → AllByRecursion FitsChunk chunks → AllByRecursion HasMinima chunks → AreChunks chunks (flat_map chunk_bytes chunks)
chunks_read_back [] fits minima = refl
chunks_read_back (chunk ∷ chunks) fits minima =
    (flat_map chunk_bytes chunks, begins chunk fits.0 minima.0 (flat_map chunk_bytes chunks), chunks_read_back chunks fits.1 minima.1)
