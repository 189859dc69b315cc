-- Whatever is read as a parameter fits its fields, and is spelled no longer than it was.
use Rattle.std.proofs.Common.{◌≡◌, ℕ, ◌+◌, ◌<◌, ◌≤◌, ◌^◌, eqb, ltb, Option, None, Some, List, length, subst, arith, length-drop}
use Rattle.std.specs.Option.{IfSome}
use Rattle.std.specs.List.{AllByRecursion}
use Rattle.std.proofs.lemmas.Bool.{ltb-false, eqb-true}
use Rattle.std.proofs.lemmas.List.{map-id}
use Rattle.std.proofs.lemmas.Option.{MatchOption-at_some, IfSome_then}
use Rattle.dcsctp_wire.specs.declared.reconfiguration.ReconfigurationResponseResult.{ReconfigurationResponseResult}
use Rattle.dcsctp_wire.specs.declared.reconfiguration.NextTsns.{NextTsns}
use Rattle.dcsctp_wire.specs.Numbers.{heartbeat_info_type, state_cookie_type, outgoing_ssn_reset_request_type, incoming_ssn_reset_request_type, reconfiguration_response_type, zero_checksum_acceptable_type, supported_extensions_type, forward_tsn_supported_type}
use Rattle.dcsctp_wire.specs.Content.{ParameterContent, unknown_parameter}
use Rattle.dcsctp_wire.specs.Fields.{u32_at, has_entries, outgoing_request_of_value, incoming_request_of_value, result_of, response_with, next_tsns_of_value, response_of_value, method_of_value, parameter_of}
use Rattle.dcsctp_wire.specs.Format.{AreParameters}
use Rattle.dcsctp_wire.specs.Spelling.{next_tsns_bytes, parameters_len}
use Rattle.dcsctp_wire.specs.ReadsBack.{FitsNextTsns, FitsParameter}
use Rattle.dcsctp_wire_laws.proofs.ReadFitsNumbers.{picked, InBytes, u32_fits, entries_there}
use Rattle.dcsctp_wire_laws.proofs.ReadFitsLists.{FitsWithin, items_fit}

-- a parameter as it is
abbrev itself : ParameterContent → ParameterContent
itself parameter = parameter

abbrev Within : List ℕ → ParameterContent → Type 0
Within = FitsWithin FitsParameter itself

-- If that is what is read, it fits.
abbrev FitsIfRead : ℕ → List ℕ → ParameterContent → Type 0
FitsIfRead number value parameter = parameter_of number value ≡ Some parameter → Within value parameter

-- ---- requests to reset streams, and answers

outgoing_fits : (value : List ℕ) → InBytes value → IfSome (outgoing_request_of_value value) (Within value)
unfolding outgoing_request_of_value
outgoing_fits value is =
    picked (has_entries 12 2 value) _ _ _ (λ has.
    let there = entries_there 12 2 value is has in
    record {
      fits = record { number_fits = u32_fits 0 value is; answered_fits = u32_fits 4 value is; last_tsn_fits = u32_fits 8 value is; streams_fit = there.entries_fit };
      within = omega (arith, there.fields_there, length-drop 12 value);
    }) (λ _. tt)

incoming_fits : (value : List ℕ) → InBytes value → IfSome (incoming_request_of_value value) (Within value)
unfolding incoming_request_of_value
incoming_fits value is =
    picked (has_entries 4 2 value) _ _ _ (λ has.
    let there = entries_there 4 2 value is has in
    record { fits = (u32_fits 0 value is, there.entries_fit); within = omega (arith, there.fields_there, length-drop 4 value) }) (λ _. tt)

-- A response whose result has no name is kept as it is.
with_result : (number : ℕ) (value : List ℕ) (next : Option NextTsns) (result : Option ReconfigurationResponseResult) → number ≡ reconfiguration_response_type → InBytes value
    → FitsNextTsns next → 8 + length (next_tsns_bytes next) ≤ length value → FitsIfRead number value (response_with value next result)
with_result number value next None e is next_fits long read =
    let same = subst (λ (n : ℕ). parameter_of n value ≡ Some (unknown_parameter reconfiguration_response_type value)) e read in
    record { fits = record { type_fits = omega arith; read_as_unknown = same; value_in_bytes = is }; within = omega arith }
with_result number value next (Some result) e is next_fits long read = record { fits = (u32_fits 0 value is, next_fits); within = omega arith }

response_fits : (number : ℕ) (value : List ℕ) → number ≡ reconfiguration_response_type → InBytes value → IfSome (response_of_value value) (FitsIfRead number value)
unfolding response_of_value
response_fits number value e is =
    let result = result_of (u32_at 4 value) in
    let none = λ (long : 8 ≤ length value). with_result number value None result e is tt (omega arith) in
    let some = λ (long : 16 ≤ length value). with_result number value (Some (next_tsns_of_value value)) result e is (u32_fits 8 value is, u32_fits 12 value is) (omega arith) in
    picked (ltb (length value) 8) _ _ _ (λ _. tt) (λ eight. picked (ltb (length value) 12) _ _ _ (λ _. none (ltb-false (length value) 8 eight))
    (λ _. picked (ltb (length value) 16) _ _ _ (λ _. tt) (λ sixteen. some (ltb-false (length value) 16 sixteen))))

method_fits : (value : List ℕ) → InBytes value → IfSome (method_of_value value) (Within value)
unfolding method_of_value
method_fits value is =
    picked (ltb (length value) 4) _ _ _ (λ _. tt) (λ four. record { fits = u32_fits 0 value is; within = ltb-false (length value) 4 four })

-- ---- parameters

if_read : (number : ℕ) (value : List ℕ) (o : Option ParameterContent) → IfSome o (Within value) → IfSome o (FitsIfRead number value)
if_read number value o fits = IfSome_then o fits (λ parameter within _. within)

each_fits : (number : ℕ) (value : List ℕ) → number < 2 ^ 16 → InBytes value → IfSome (parameter_of number value) (FitsIfRead number value)
unfolding parameter_of
each_fits number value fits is =
    picked (eqb number heartbeat_info_type) _ _ _ (λ _ _. record { fits = is; within = omega arith })
    (λ _. picked (eqb number state_cookie_type) _ _ _ (λ _ _. record { fits = is; within = omega arith })
    (λ _. picked (eqb number outgoing_ssn_reset_request_type) _ _ _ (λ _. if_read number value (outgoing_request_of_value value) (outgoing_fits value is))
    (λ _. picked (eqb number incoming_ssn_reset_request_type) _ _ _ (λ _. if_read number value (incoming_request_of_value value) (incoming_fits value is))
    (λ _. picked (eqb number reconfiguration_response_type) _ _ _ (λ e. response_fits number value (eqb-true _ _ e) is)
    (λ _. picked (eqb number supported_extensions_type) _ _ _ (λ _ _. record { fits = is; within = omega arith })
    (λ _. picked (eqb number zero_checksum_acceptable_type) _ _ _ (λ _. if_read number value (method_of_value value) (method_fits value is))
    (λ _. picked (eqb number forward_tsn_supported_type) _ _ _ (λ _ _. record { fits = tt; within = omega arith })
    (λ _ read. record { fits = record { type_fits = fits; read_as_unknown = read; value_in_bytes = is }; within = omega arith }))))))))

parameter_fits : (parameter : ParameterContent) (number : ℕ) (value : List ℕ) → number < 2 ^ 16 → InBytes value → parameter_of number value ≡ Some parameter → Within value parameter
parameter_fits parameter number value fits is read =
    MatchOption-at_some (Unit {0}) (FitsIfRead number value) parameter read (each_fits number value fits is) read

-- parameters that bytes are
pub parameters_fit : (parameters : List ParameterContent) (bytes : List ℕ) → InBytes bytes → AreParameters parameters bytes
    → AllByRecursion FitsParameter parameters × (parameters_len parameters ≤ length bytes)
parameters_fit parameters bytes is are =
    let all = items_fit parameter_of FitsParameter itself parameter_fits parameters bytes is are in
    (all.all_fit, subst (λ (ps : List ParameterContent). parameters_len ps ≤ length bytes) (map-id parameters) all.len_within)
