use Rattle.std.proofs.Common.{◌≡◌, ◌-◌, ◌^◌, map, min, take}
use Rattle.dcsctp_wire.specs.Content.{cause_content}
use Rattle.dcsctp_wire.specs.Spelling.{parameters_len, as_parameter}
use Rattle.dcsctp_wire.proofs.size.causes_len.Given as goal

abbrev pub invariant-loop-cause : goal.invariant-loop-cause
invariant-loop-cause l = l.len ≡ min (parameters_len (map as_parameter (map cause_content (take l.cause-index l.causes)))) (2 ^ 64 - 1)
