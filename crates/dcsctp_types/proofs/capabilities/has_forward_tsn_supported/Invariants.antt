use Rattle.std.proofs.Common.{◌≡◌, map, drop}
use Rattle.std.specs.List.{list_any}
use Rattle.dcsctp_wire.specs.Content.{parameter_content}
use Rattle.dcsctp_types.specs.Offer.{is_forward_tsn_supported}
use Rattle.dcsctp_types.proofs.capabilities.has_forward_tsn_supported.Given as goal

-- what is left says what all say
abbrev pub invariant-loop-parameter : goal.invariant-loop-parameter
invariant-loop-parameter l = list_any is_forward_tsn_supported (map parameter_content (drop l.parameter-index l.parameters)) ≡ list_any is_forward_tsn_supported (map parameter_content l.parameters)
