use Rattle.std.proofs.Common.{◌≡◌, map, drop}
use Rattle.dcsctp_wire.specs.Content.{parameter_content}
use Rattle.dcsctp_types.specs.Offer.{extensions_of}
use Rattle.dcsctp_types.proofs.capabilities.supported_extensions.Given as goal

-- what is left says what all say
abbrev pub invariant-loop-parameter : goal.invariant-loop-parameter
invariant-loop-parameter l = extensions_of (map parameter_content (drop l.parameter-index l.parameters)) ≡ extensions_of (map parameter_content l.parameters)
