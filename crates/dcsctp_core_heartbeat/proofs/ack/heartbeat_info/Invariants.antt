use Rattle.std.proofs.Common.{◌≡◌, map, drop}
use Rattle.dcsctp_core.specs.wire.Content.{parameter_content}
use Rattle.dcsctp_core.specs.spec.endpoint.HeartbeatOutcomes.{first_heartbeat_info}
use Rattle.dcsctp_core_heartbeat.proofs.ack.heartbeat_info.Given as goal

-- what is left says what all say
abbrev pub invariant-loop-parameter : goal.invariant-loop-parameter
invariant-loop-parameter l = first_heartbeat_info (map parameter_content (drop l.parameter-index l.parameters)) ≡ first_heartbeat_info (map parameter_content l.parameters)
