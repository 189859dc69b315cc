-- Whatever is read as an error cause fits its fields, and is spelled no longer than it was.
use Rattle.std.proofs.Common.{◌≡◌, ℕ, ◌+◌, ◌*◌, ◌<◌, ◌≤◌, ◌^◌, eqb, ltb, Option, None, Some, List, length, drop, arith, length-drop}
use Rattle.std.specs.Option.{IfSome, option_map}
use Rattle.std.proofs.lemmas.Bool.{ltb-false}
use Rattle.std.proofs.lemmas.List.{length-take-le}
use Rattle.std.proofs.lemmas.Option.{MatchOption-at_some, IfSome_then}
use Rattle.dcsctp_wire.specs.Numbers.{missing_mandatory_parameter_code, unrecognized_chunk_type_code, no_user_data_code, cookie_received_while_shutting_down_code, user_initiated_abort_code, protocol_violation_code}
use Rattle.dcsctp_wire.specs.Content.{CauseContent, missing_mandatory_parameter}
use Rattle.dcsctp_wire.specs.Fields.{u32_at, missing_types, no_user_data_of_value, cause_of}
use Rattle.dcsctp_wire.specs.Format.{AreCauses}
use Rattle.dcsctp_wire.specs.Spelling.{as_parameter}
use Rattle.dcsctp_wire.specs.ReadsBack.{AreWholeEntries, FitsCause}
use Rattle.dcsctp_wire_laws.proofs.ReadFitsNumbers.{picked, InBytes, behind_in_bytes, u32_fits, front_entries}
use Rattle.dcsctp_wire_laws.proofs.ReadFitsLists.{FitsWithin, FitAll, items_fit}

abbrev Within : List ℕ → CauseContent → Type 0
Within = FitsWithin FitsCause as_parameter

-- If that is what is read, it fits.
abbrev FitsIfRead : ℕ → List ℕ → CauseContent → Type 0
FitsIfRead number value cause = cause_of number value ≡ Some cause → Within value cause

-- ---- fields

types_fit : (value : List ℕ) → InBytes value → IfSome (missing_types value) (λ types. AreWholeEntries 2 types × (4 + length types ≤ length value))
unfolding missing_types
types_fit value is =
    let n : ℕ = 2 * u32_at 0 value in
    picked (ltb (length value) 4) _ _ _ (λ _. tt) (λ _. picked (ltb (length value) (4 + n)) _ _ _ (λ _. tt)
    (λ within.
    let long : 4 + n ≤ length value = ltb-false (length value) (4 + n) within in
    let inside : n ≤ length (drop 4 value) = omega (arith, length-drop 4 value) in
    (front_entries 2 n (drop 4 value) (behind_in_bytes 4 value is) (omega arith) inside, omega (arith, length-take-le n (drop 4 value) inside))))

missing_fits : (value : List ℕ) (o : Option (List ℕ)) → IfSome o (λ types. AreWholeEntries 2 types × (4 + length types ≤ length value)) → IfSome (option_map missing_mandatory_parameter o) (Within value)
missing_fits value None fits = tt
missing_fits value (Some types) fits = record { fits = fits.0; within = omega (arith, fits.1) }

no_data_fits : (value : List ℕ) → InBytes value → IfSome (no_user_data_of_value value) (Within value)
unfolding no_user_data_of_value
no_data_fits value is =
    picked (ltb (length value) 4) _ _ _ (λ _. tt) (λ four. record { fits = u32_fits 0 value is; within = ltb-false (length value) 4 four })

-- ---- causes

if_read : (number : ℕ) (value : List ℕ) (o : Option CauseContent) → IfSome o (Within value) → IfSome o (FitsIfRead number value)
if_read number value o fits = IfSome_then o fits (λ cause within _. within)

each_fits : (number : ℕ) (value : List ℕ) → number < 2 ^ 16 → InBytes value → IfSome (cause_of number value) (FitsIfRead number value)
unfolding cause_of
each_fits number value fits is =
    picked (eqb number missing_mandatory_parameter_code) _ _ _
    (λ _. if_read number value (option_map missing_mandatory_parameter (missing_types value)) (missing_fits value (missing_types value) (types_fit value is)))
    (λ _. picked (eqb number unrecognized_chunk_type_code) _ _ _ (λ _ _. record { fits = is; within = omega arith })
    (λ _. picked (eqb number no_user_data_code) _ _ _ (λ _. if_read number value (no_user_data_of_value value) (no_data_fits value is))
    (λ _. picked (eqb number cookie_received_while_shutting_down_code) _ _ _ (λ _ _. record { fits = tt; within = omega arith })
    (λ _. picked (eqb number user_initiated_abort_code) _ _ _ (λ _ _. record { fits = is; within = omega arith })
    (λ _. picked (eqb number protocol_violation_code) _ _ _ (λ _ _. record { fits = is; within = omega arith })
    (λ _ read. record { fits = record { code_fits = fits; read_as_unknown = read; value_in_bytes = is }; within = omega arith }))))))

cause_fits : (cause : CauseContent) (number : ℕ) (value : List ℕ) → number < 2 ^ 16 → InBytes value → cause_of number value ≡ Some cause → Within value cause
cause_fits cause number value fits is read =
    MatchOption-at_some (Unit {0}) (FitsIfRead number value) cause read (each_fits number value fits is) read

-- causes that bytes are
pub causes_fit : (causes : List CauseContent) (bytes : List ℕ) → InBytes bytes → AreCauses causes bytes → FitAll FitsCause as_parameter bytes causes
causes_fit = items_fit cause_of FitsCause as_parameter cause_fits
