use Rattle.std.proofs.Common.{◌≡◌, length, nat_eq, take}
use Rattle.dcsctp_core_resets.specs.Requests.{in_state, reset_parameters}
use Rattle.dcsctp_core_resets.proofs.RequestLemmas.{Progress}
use Rattle.dcsctp_core_resets.proofs.requests.handle_requests.Given as goal

-- what was made of the parameters so far
abbrev pub invariant-loop-parameter : goal.invariant-loop-parameter
invariant-loop-parameter l = record {
  done : Progress (in_state l.state) l.fn.last l.fn.outstanding (reset_parameters (take l.parameter-index l.parameters)) l.worked;
  refused : l.worked.is_refused ≡ nat_eq (length l.parameters) 0;
}
