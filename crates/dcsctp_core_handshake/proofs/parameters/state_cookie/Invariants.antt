use Rattle.std.proofs.Common.{◌≡◌, map, drop}
use Rattle.dcsctp_core.specs.wire.Content.{parameter_content}
use Rattle.dcsctp_core.specs.spec.Packet.{first_cookie}
use Rattle.dcsctp_core_handshake.proofs.parameters.state_cookie.Given as goal

-- what is left says what all say
abbrev pub invariant-loop-parameter : goal.invariant-loop-parameter
invariant-loop-parameter l = first_cookie (map parameter_content (drop l.parameter-index l.parameters)) ≡ first_cookie (map parameter_content l.parameters)
