-- Written parameters read back.
use Rattle.std.proofs.Common.{◌≡◌, ℕ, ◌^◌, ◌<◌, Option, None, Some, List, [], ◌∷◌, ◌++◌, map, take, refl, ap, ◌∙◌, subst, arith}
use Rattle.std.specs.List.{flat_map, AllByRecursion}
use Rattle.std.specs.Int.{w32, to_be_bytes}
use Rattle.std.proofs.lemmas.List.{map-id}
use Rattle.std.proofs.lemmas.Nat.{from_be_bytes-to_be_bytes_4}
use Rattle.dcsctp_wire.specs.declared.reconfiguration.ReconfigurationResponseResult.{ReconfigurationResponseResult}
use Rattle.dcsctp_wire.specs.declared.reconfiguration.ReconfigurationResponseResult.TheVariants.{SuccessNothingToDo, SuccessPerformed, Denied, ErrorWrongSSN, ErrorRequestAlreadyInProgress, ErrorBadSequenceNumber, InProgress}
use Rattle.dcsctp_wire.specs.declared.reconfiguration.NextTsns.{NextTsns}
use Rattle.dcsctp_wire.specs.Content.{ParameterContent, heartbeat_info, state_cookie, outgoing_ssn_reset_request, incoming_ssn_reset_request, reconfiguration_response, supported_extensions, zero_checksum_acceptable, forward_tsn_supported, unknown_parameter}
use Rattle.dcsctp_wire.specs.Fields.{u32_at, outgoing_request_of_value, incoming_request_of_value, result_of, response_with, next_tsns_of_value, response_of_value, method_of_value, parameter_of}
use Rattle.dcsctp_wire.specs.Format.{AreParameters}
use Rattle.dcsctp_wire.specs.Spelling.{result_code, parameter_type, parameter_value, parameter_bytes, parameters_len}
use Rattle.dcsctp_wire.specs.ReadsBack.{AreWholeEntries, FitsOutgoingRequest, FitsNextTsns, FitsParameter}
use Rattle.dcsctp_wire_laws.proofs.ReadsBackFields.{entries_behind}
use Rattle.dcsctp_wire_laws.proofs.ReadsBackItems.{IsReadBack, items_read_back}

-- ---- requests to reset streams, and answers

outgoing_reads : (number answered last_tsn : ℕ) (streams : List ℕ) → FitsOutgoingRequest number answered last_tsn streams
    → outgoing_request_of_value (parameter_value (outgoing_ssn_reset_request number answered last_tsn streams)) ≡ Some (outgoing_ssn_reset_request number answered last_tsn streams)
unfolding outgoing_request_of_value
outgoing_reads number answered last_tsn streams fits =
    let one : u32_at 0 (to_be_bytes w32 number) ≡ number = from_be_bytes-to_be_bytes_4 number fits.number_fits in
    let two : u32_at 0 (to_be_bytes w32 answered) ≡ answered = from_be_bytes-to_be_bytes_4 answered fits.answered_fits in
    let three : u32_at 0 (to_be_bytes w32 last_tsn) ≡ last_tsn = from_be_bytes-to_be_bytes_4 last_tsn fits.last_tsn_fits in
    rw (entries_behind 12 2 (to_be_bytes w32 number ++ to_be_bytes w32 answered ++ to_be_bytes w32 last_tsn) streams refl fits.streams_fit)
    (λ i. Some (outgoing_ssn_reset_request (one i) (two i) (three i) streams))

incoming_reads : (number : ℕ) (streams : List ℕ) → number < 2 ^ 32 → AreWholeEntries 2 streams
    → incoming_request_of_value (parameter_value (incoming_ssn_reset_request number streams)) ≡ Some (incoming_ssn_reset_request number streams)
unfolding incoming_request_of_value
incoming_reads number streams fits are =
    rw (entries_behind 4 2 (to_be_bytes w32 number) streams refl are) (ap (λ (n : ℕ). Some (incoming_ssn_reset_request n streams)) (from_be_bytes-to_be_bytes_4 number fits))

result_reads : (result : ReconfigurationResponseResult) → result_of (u32_at 0 (to_be_bytes w32 (result_code result))) ≡ Some result
unfolding result_of
result_reads SuccessNothingToDo = refl
result_reads SuccessPerformed = refl
result_reads Denied = refl
result_reads ErrorWrongSSN = refl
result_reads ErrorRequestAlreadyInProgress = refl
result_reads ErrorBadSequenceNumber = refl
result_reads InProgress = refl

response_reads : (number : ℕ) (result : ReconfigurationResponseResult) (next : Option NextTsns) → number < 2 ^ 32 → FitsNextTsns next
    → response_of_value (parameter_value (reconfiguration_response number result next)) ≡ Some (reconfiguration_response number result next)
unfolding response_of_value
response_reads number result None fits next_fits =
    let value : List ℕ = parameter_value (reconfiguration_response number result None) in
    ap (λ (r : Option ReconfigurationResponseResult). Some (response_with value None r)) (result_reads result)
    ∙ ap (λ (n : ℕ). Some (reconfiguration_response n result None)) (from_be_bytes-to_be_bytes_4 number fits)
response_reads number result (Some next) fits next_fits =
    let value : List ℕ = parameter_value (reconfiguration_response number result (Some next)) in
    let one : u32_at 0 (to_be_bytes w32 number) ≡ number = from_be_bytes-to_be_bytes_4 number fits in
    let sender : u32_at 0 (to_be_bytes w32 next.sender) ≡ next.sender = from_be_bytes-to_be_bytes_4 next.sender next_fits.0 in
    let receiver : u32_at 0 (to_be_bytes w32 next.receiver) ≡ next.receiver = from_be_bytes-to_be_bytes_4 next.receiver next_fits.1 in
    ap (λ (r : Option ReconfigurationResponseResult). Some (response_with value (Some (next_tsns_of_value value)) r)) (result_reads result)
    ∙ (λ i. Some (reconfiguration_response (one i) result (Some (record { sender = sender i; receiver = receiver i }))))

-- ---- parameters

reads : (parameter : ParameterContent) → FitsParameter parameter → parameter_of (parameter_type parameter) (parameter_value parameter) ≡ Some parameter
unfolding parameter_of method_of_value
reads (heartbeat_info info) fits = refl
reads (state_cookie cookie) fits = refl
reads (outgoing_ssn_reset_request number answered last_tsn streams) fits = outgoing_reads number answered last_tsn streams fits
reads (incoming_ssn_reset_request number streams) fits = incoming_reads number streams fits.0 fits.1
reads (reconfiguration_response number result next) fits = response_reads number result next fits.0 fits.1
reads (supported_extensions chunk_types) fits = refl
reads (zero_checksum_acceptable method) fits = ap (λ (n : ℕ). Some (zero_checksum_acceptable n)) (from_be_bytes-to_be_bytes_4 method fits)
reads forward_tsn_supported fits = refl
reads (unknown_parameter other value) fits = fits.read_as_unknown

type_fits : (parameter : ParameterContent) → FitsParameter parameter → parameter_type parameter < 2 ^ 16
type_fits (heartbeat_info info) fits = omega arith
type_fits (state_cookie cookie) fits = omega arith
type_fits (outgoing_ssn_reset_request number answered last_tsn streams) fits = omega arith
type_fits (incoming_ssn_reset_request number streams) fits = omega arith
type_fits (reconfiguration_response number result next) fits = omega arith
type_fits (supported_extensions chunk_types) fits = omega arith
type_fits (zero_checksum_acceptable method) fits = omega arith
type_fits forward_tsn_supported fits = omega arith
type_fits (unknown_parameter other value) fits = fits.type_fits

-- a parameter as it is
abbrev itself : ParameterContent → ParameterContent
itself parameter = parameter

each_parameter : (parameters : List ParameterContent) → AllByRecursion FitsParameter parameters → AllByRecursion (IsReadBack parameter_of itself) parameters
each_parameter [] fits = tt
each_parameter (parameter ∷ parameters) fits =
    (record { type_fits = type_fits parameter fits.0; reads = λ _. reads parameter fits.0 }, each_parameter parameters fits.1)

pub parameters_read_back : (parameters : List ParameterContent) → AllByRecursion FitsParameter parameters → parameters_len parameters < 2 ^ 16
    → AreParameters parameters (take (parameters_len parameters) (flat_map parameter_bytes parameters))
parameters_read_back parameters fits short =
    let same : map itself parameters ≡ parameters = map-id parameters in
    subst (λ (ps : List ParameterContent). AreParameters parameters (take (parameters_len ps) (flat_map parameter_bytes ps))) same
    (items_read_back parameter_of itself parameters (each_parameter parameters fits) (rw same short))
