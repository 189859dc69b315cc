use Rattle.std.proofs.Common.{◌≡◌, drop}
use Rattle.dcsctp_core.specs.spec.endpoint.ResetOutcomes.{first_reset_request, first_request_number}
use Rattle.dcsctp_core_resets.specs.Requests.{reset_parameters}
use Rattle.dcsctp_core_resets.proofs.reading.requested.Given as goal

-- the first one is among the parameters that are left
abbrev pub invariant-loop-parameter : goal.invariant-loop-parameter
invariant-loop-parameter l = record {
  wanted : first_reset_request (reset_parameters (drop l.parameter-index l.parameters)) ≡ first_reset_request (reset_parameters l.parameters);
  number : first_request_number (reset_parameters (drop l.parameter-index l.parameters)) ≡ first_request_number (reset_parameters l.parameters);
}
