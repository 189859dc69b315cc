use Rattle.std.proofs.Common.{◌≡◌, map, drop}
use Rattle.dcsctp_wire.specs.Content.{parameter_content}
use Rattle.dcsctp_types.specs.Offer.{method_of}
use Rattle.dcsctp_types.proofs.capabilities.zero_checksum_method.Given as goal

-- what is left says what all say
abbrev pub invariant-loop-parameter : goal.invariant-loop-parameter
invariant-loop-parameter l = method_of (map parameter_content (drop l.parameter-index l.parameters)) ≡ method_of (map parameter_content l.parameters)
