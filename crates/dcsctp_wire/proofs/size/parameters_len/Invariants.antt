use Rattle.std.proofs.Common.{◌≡◌, ◌-◌, ◌^◌, map, min, take}
use Rattle.dcsctp_wire.specs.Content.{parameter_content}
use Rattle.dcsctp_wire.specs.Spelling.{parameters_len}
use Rattle.dcsctp_wire.proofs.size.parameters_len.Given as goal

abbrev pub invariant-loop-parameter : goal.invariant-loop-parameter
invariant-loop-parameter l = l.len ≡ min (parameters_len (map parameter_content (take l.parameter-index l.parameters))) (2 ^ 64 - 1)
