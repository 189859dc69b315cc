use Rattle.std.proofs.Common.{List, ◌++◌, length, map}
use Rattle.dcsctp_wire.specs.Content.{ParameterContent, parameter_content}
use Rattle.dcsctp_wire.specs.Format.{AreParameters}
use Rattle.dcsctp_wire.proofs.parameter.read_parameters.Given as goal

-- what was read, and then what is still to be read
abbrev pub invariant-loop-rest : goal.invariant-loop-rest
invariant-loop-rest l = record {
  found : (qs : List ParameterContent) → AreParameters qs l.rest → AreParameters (map parameter_content l.parameters.items ++ qs) l.bytes;
  only : (ps : List ParameterContent) → AreParameters ps l.bytes → (qs : List ParameterContent) × AreParameters qs l.rest;
}

abbrev pub decreases-loop-rest : goal.decreases-loop-rest
decreases-loop-rest l = length l.rest
