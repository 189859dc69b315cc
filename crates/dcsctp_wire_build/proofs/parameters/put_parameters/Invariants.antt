use Rattle.std.proofs.Common.{◌≡◌, ◌≤◌, ◌++◌, map, take}
use Rattle.std.specs.List.{flat_map}
use Rattle.std.specs.Vec.{vec_capacity}
use Rattle.dcsctp_wire.specs.Content.{parameter_content}
use Rattle.dcsctp_wire.specs.Spelling.{parameter_bytes}
use Rattle.dcsctp_wire_build.proofs.parameters.put_parameters.Given as goal

abbrev pub invariant-loop-parameter : goal.invariant-loop-parameter
invariant-loop-parameter l =
    record {
      items : l.out.items ≡ l.fn.out.items ++ flat_map parameter_bytes (map parameter_content (take l.parameter-index l.parameters));
      capacity : vec_capacity l.fn.out ≤ vec_capacity l.out;
    }
