use Rattle.std.proofs.Common.{◌≡◌, ◌≤◌, ◌++◌, map, take}
use Rattle.std.specs.List.{flat_map}
use Rattle.std.specs.Vec.{vec_capacity}
use Rattle.dcsctp_wire.specs.Content.{cause_content}
use Rattle.dcsctp_wire.specs.Spelling.{parameter_bytes, as_parameter}
use Rattle.dcsctp_wire_build.proofs.parameters.put_causes.Given as goal

abbrev pub invariant-loop-cause : goal.invariant-loop-cause
invariant-loop-cause l =
    record {
      items : l.out.items ≡ l.fn.out.items ++ flat_map parameter_bytes (map as_parameter (map cause_content (take l.cause-index l.causes)));
      capacity : vec_capacity l.fn.out ≤ vec_capacity l.out;
    }
