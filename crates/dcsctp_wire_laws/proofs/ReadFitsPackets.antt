-- Whatever is read as a chunk or a packet fits its fields.
use Rattle.std.proofs.Common.{◌≡◌, ℕ, ◌+◌, ◌<◌, ◌≤◌, ◌^◌, Bool, cond, eqb, List, [], ◌∷◌, length, drop, refl, sym, subst, arith, length-drop}
use Rattle.std.specs.Prelude.{slice_index}
use Rattle.std.specs.List.{AllByRecursion}
use Rattle.std.proofs.lemmas.Bool.{cond_both}
use Rattle.dcsctp_wire.specs.Numbers.{init_type, init_ack_type, heartbeat_type, heartbeat_ack_type, abort_type, error_type, re_config_type}
use Rattle.dcsctp_wire.specs.Content.{ParameterContent, InitContent, CauseContent, ChunkContent}
use Rattle.dcsctp_wire.specs.Fields.{lowest_bit}
use Rattle.dcsctp_wire.specs.Format.{IsInitValue, AreParameters, AreCauses, Form, introduction, parameter_list, cause_list, fields, form_of, HasForm, IsReadByHeader, BeginsWithChunk, AreChunks}
use Rattle.dcsctp_wire.specs.ReadsBack.{IsByte, FitsParameters, FitsInit, FitsCauses, FitsChunk}
use Rattle.dcsctp_wire_laws.specs.ReadFits.{ReadPacketFits}
use Rattle.dcsctp_wire_laws.proofs.ReadFitsNumbers.{InBytes, behind_in_bytes, u16_fits, u32_fits}
use Rattle.dcsctp_wire_laws.proofs.ReadFitsLists.{frame_fits}
use Rattle.dcsctp_wire_laws.proofs.ReadFitsParameters.{parameters_fit}
use Rattle.dcsctp_wire_laws.proofs.ReadFitsCauses.{causes_fit}
use Rattle.dcsctp_wire_laws.proofs.ReadFitsFields.{HeaderFits, of_fields_fits}

-- ---- values

init_fits : (init : InitContent) (value : List ℕ) → InBytes value → 4 + length value < 2 ^ 16 → IsInitValue init value → FitsInit init
init_fits init value is short says =
    let all = parameters_fit init.parameters (drop 16 value) (behind_in_bytes 16 value is) says.parameters in
    record {
      initiate_tag = rw says.initiate_tag (u32_fits 0 value is);
      a_rwnd = rw says.a_rwnd (u32_fits 4 value is);
      outbound_streams = rw says.outbound_streams (u16_fits 8 value is);
      inbound_streams = rw says.inbound_streams (u16_fits 10 value is);
      initial_tsn = rw says.initial_tsn (u32_fits 12 value is);
      len_fits = omega (arith, says.long_enough, all.1, length-drop 16 value);
      parameters = all.0;
    }

list_fits : (parameters : List ParameterContent) (value : List ℕ) → InBytes value → 4 + length value < 2 ^ 16 → AreParameters parameters value → FitsParameters parameters
list_fits parameters value is short are =
    let all = parameters_fit parameters value is are in
    record { len_fits = omega (arith, all.1); parameters_fit = all.0 }

cause_list_fits : (causes : List CauseContent) (value : List ℕ) → InBytes value → 4 + length value < 2 ^ 16 → AreCauses causes value → FitsCauses causes
cause_list_fits causes value is short are =
    let all = causes_fit causes value is are in
    record { len_fits = omega (arith, all.len_within); causes_fit = all.all_fit }

-- ---- forms

-- A chunk of the form fits where its fields, parameters or causes do.
abbrev Carries : Form → Type 0
Carries (introduction says) = (init : InitContent) → FitsInit init → FitsChunk (says init)
Carries (parameter_list says) = (parameters : List ParameterContent) → FitsParameters parameters → FitsChunk (says parameters)
Carries (cause_list says) = (bit : Bool) (causes : List CauseContent) → FitsCauses causes → FitsChunk (says bit causes)
Carries fields = Unit {0}

picked_form : (test : Bool) (x y : Form) → Carries x → Carries y → Carries (cond test x y)
picked_form test x y first second = cond_both test x y Carries (λ _. first) (λ _. second)

form_carries : (chunk_type : ℕ) → Carries (form_of chunk_type)
unfolding form_of
form_carries t =
    picked_form (eqb t init_type) _ _ (λ init fits. fits)
    (picked_form (eqb t init_ack_type) _ _ (λ init fits. fits)
    (picked_form (eqb t heartbeat_type) _ _ (λ parameters fits. fits)
    (picked_form (eqb t heartbeat_ack_type) _ _ (λ parameters fits. fits)
    (picked_form (eqb t abort_type) _ _ (λ bit causes fits. fits)
    (picked_form (eqb t error_type) _ _ (λ bit causes fits. fits)
    (picked_form (eqb t re_config_type) _ _ (λ parameters fits. fits) tt))))))

of_form_fits : (form : Form) (chunk : ChunkContent) (chunk_type flags : ℕ) (value : List ℕ) → form_of chunk_type ≡ form → Carries form → HeaderFits chunk_type flags value
    → HasForm form chunk chunk_type flags value → FitsChunk chunk
of_form_fits (introduction says) chunk chunk_type flags value same carries header has =
    subst FitsChunk (sym has.1) (carries has.0 (init_fits has.0 value header.value_in_bytes header.len_fits has.2))
of_form_fits (parameter_list says) chunk chunk_type flags value same carries header has =
    subst FitsChunk (sym has.1) (carries has.0 (list_fits has.0 value header.value_in_bytes header.len_fits has.2))
of_form_fits (cause_list says) chunk chunk_type flags value same carries header has =
    subst FitsChunk (sym has.1) (carries (lowest_bit flags) has.0 (cause_list_fits has.0 value header.value_in_bytes header.len_fits has.2))
of_form_fits fields chunk chunk_type flags value same carries header has = of_fields_fits chunk chunk_type flags value header same has

-- ---- chunks

-- the type and the flags
two_bytes : (bytes : List ℕ) → InBytes bytes → 4 ≤ length bytes → IsByte (slice_index bytes 0) × IsByte (slice_index bytes 1)
two_bytes [] is long = absurd (omega arith)
two_bytes (a ∷ []) is long = absurd (omega arith)
two_bytes (a ∷ b ∷ bytes) is long = (is.0, is.1.0)

chunk_fits : (chunk : ChunkContent) (rest bytes : List ℕ) → InBytes bytes → BeginsWithChunk chunk rest bytes → FitsChunk chunk
chunk_fits chunk rest bytes is begins =
    let frame = frame_fits IsReadByHeader chunk rest bytes is begins in
    let header = two_bytes bytes is (omega (arith, frame.inside)) in
    let chunk_type : ℕ = slice_index bytes 0 in
    of_form_fits (form_of chunk_type) chunk chunk_type (slice_index bytes 1) begins.value refl (form_carries chunk_type)
    (record { type_fits = header.0; flags_fit = header.1; len_fits = frame.len_fits; value_in_bytes = frame.value_in_bytes }) begins.read

chunks_fit : (chunks : List ChunkContent) (bytes : List ℕ) → InBytes bytes → AreChunks chunks bytes → AllByRecursion FitsChunk chunks
chunks_fit [] bytes is are = tt
chunks_fit (chunk ∷ chunks) bytes is are =
    let frame = frame_fits IsReadByHeader chunk are.0 bytes is are.1 in
    (chunk_fits chunk are.0 bytes is are.1, chunks_fit chunks are.0 frame.rest_in_bytes are.2)

-- ---- packets

pub read_packet_fits : ReadPacketFits
read_packet_fits options bytes packet is says =
    record {
      source_port = rw says.source_port (u16_fits 0 bytes is);
      destination_port = rw says.destination_port (u16_fits 2 bytes is);
      verification_tag = rw says.verification_tag (u32_fits 4 bytes is);
      chunks = chunks_fit packet.chunks (drop 12 bytes) (behind_in_bytes 12 bytes is) says.chunks;
    }
