-- Written causes of ABORT and ERROR read back.
use Rattle.std.proofs.Common.{◌≡◌, ℕ, ◌+◌, ◌*◌, ◌/◌, ◌^◌, ◌<◌, false, ltb, List, [], ◌∷◌, ◌++◌, length, map, take, drop, Some, refl, ap, arith}
use Rattle.std.specs.Int.{w32, to_be_bytes}
use Rattle.std.specs.List.{flat_map, AllByRecursion}
use Rattle.std.specs.Option.{option_map}
use Rattle.std.proofs.lemmas.Bool.{le-ltb}
use Rattle.std.proofs.lemmas.List.{take_all}
use Rattle.std.proofs.lemmas.Nat.{from_be_bytes-to_be_bytes_4}
use Rattle.dcsctp_wire.specs.Content.{CauseContent, missing_mandatory_parameter, unrecognized_chunk_type, no_user_data, cookie_received_while_shutting_down, user_initiated_abort, protocol_violation, unknown_cause}
use Rattle.dcsctp_wire.specs.Fields.{u32_at, missing_types, no_user_data_of_value, cause_of}
use Rattle.dcsctp_wire.specs.Format.{AreCauses}
use Rattle.dcsctp_wire.specs.Spelling.{cause_code, cause_value, as_parameter, parameter_len, parameter_bytes, parameters_len}
use Rattle.dcsctp_wire.specs.ReadsBack.{FitsCause}
use Rattle.dcsctp_wire_laws.proofs.ReadsBackItems.{IsReadBack, items_read_back}

-- the number of the types, and as many types
types_in : (value types : List ℕ) (n : ℕ) → u32_at 0 value ≡ n → drop 4 value ≡ types → length value ≡ 4 + length types → length types ≡ 2 * n → missing_types value ≡ Some types
unfolding missing_types
types_in value types n number behind long whole =
    let header : ltb (length value) 4 ≡ false = le-ltb (length value) 4 (omega arith) in
    let within : ltb (length value) (4 + 2 * n) ≡ false = le-ltb (length value) (4 + 2 * n) (omega arith) in
    rw (number, header, within, behind) (ap Some (take_all (2 * n) types (omega arith)))

cause_reads : (cause : CauseContent) → FitsCause cause → parameter_len (as_parameter cause) < 2 ^ 16 → cause_of (cause_code cause) (cause_value cause) ≡ Some cause
unfolding cause_of no_user_data_of_value
cause_reads (missing_mandatory_parameter types) fits short =
    let n : ℕ = length types / 2 in
    ap (option_map missing_mandatory_parameter) (types_in (to_be_bytes w32 n ++ types) types n (from_be_bytes-to_be_bytes_4 n (omega arith)) refl (omega arith) (omega (arith, fits.whole)))
cause_reads (unrecognized_chunk_type chunk) fits short = refl
cause_reads (no_user_data tsn) fits short = ap (λ (n : ℕ). Some (no_user_data n)) (from_be_bytes-to_be_bytes_4 tsn fits)
cause_reads cookie_received_while_shutting_down fits short = refl
cause_reads (user_initiated_abort text) fits short = refl
cause_reads (protocol_violation text) fits short = refl
cause_reads (unknown_cause code value) fits short = fits.read_as_unknown

code_fits : (cause : CauseContent) → FitsCause cause → cause_code cause < 2 ^ 16
code_fits (missing_mandatory_parameter types) fits = omega arith
code_fits (unrecognized_chunk_type chunk) fits = omega arith
code_fits (no_user_data tsn) fits = omega arith
code_fits cookie_received_while_shutting_down fits = omega arith
code_fits (user_initiated_abort text) fits = omega arith
code_fits (protocol_violation text) fits = omega arith
code_fits (unknown_cause code value) fits = fits.code_fits

each_cause : (causes : List CauseContent) → AllByRecursion FitsCause causes → AllByRecursion (IsReadBack cause_of as_parameter) causes
each_cause [] fits = tt
each_cause (cause ∷ causes) fits = (record { type_fits = code_fits cause fits.0; reads = cause_reads cause fits.0 }, each_cause causes fits.1)

pub causes_read_back : (causes : List CauseContent) → AllByRecursion FitsCause causes → parameters_len (map as_parameter causes) < 2 ^ 16
    → AreCauses causes (take (parameters_len (map as_parameter causes)) (flat_map parameter_bytes (map as_parameter causes)))
causes_read_back causes fits short = items_read_back cause_of as_parameter causes (each_cause causes fits) short
