use Rattle.std.proofs.Common.{arith, ap, length, length-append, map, take}
use Rattle.std.specs.List.{flat_map}
use Rattle.dcsctp_wire.specs.Content.{parameter_content}
use Rattle.dcsctp_wire.specs.Spelling.{parameter_bytes}
use Rattle.dcsctp_wire.proofs.Lengths.{next_parameter_fits, next_parameter_len}
use Rattle.dcsctp_wire_build.proofs.parameters.put_parameters.Goals as goal

pub put_parameter-requires-clause-fits : goal.put_parameter-requires-clause-fits
put_parameter-requires-clause-fits c =
    let lt = c.loop-parameter-test.true in
    (omega (arith, next_parameter_len c.args.parameters.now c.loop-parameter.parameter-index lt))

pub put_parameter-requires-clause-room : goal.put_parameter-requires-clause-room
put_parameter-requires-clause-room c =
    let lt = c.loop-parameter-test.true in
    (omega (
      arith,
      next_parameter_fits c.args.parameters.now c.loop-parameter.parameter-index lt,
      ap length c.loop-parameter.invariant.items,
      length-append c.args.out.now.items (flat_map parameter_bytes (map parameter_content (take c.loop-parameter.parameter-index c.args.parameters.now))),
      c.loop-parameter.out.ok.0,
      c.args.out.now.ok.0,
    ))
