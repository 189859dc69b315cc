use Rattle.std.proofs.Common.{arith, ap, length, length-append, map, take}
use Rattle.std.specs.List.{flat_map}
use Rattle.dcsctp_wire.specs.Content.{cause_content}
use Rattle.dcsctp_wire.specs.Spelling.{parameter_bytes, as_parameter}
use Rattle.dcsctp_wire.proofs.Lengths.{next_cause_fits, next_cause_len}
use Rattle.dcsctp_wire_build.proofs.parameters.put_causes.Goals as goal

pub put_cause-requires-clause-fits : goal.put_cause-requires-clause-fits
put_cause-requires-clause-fits c =
    let lt = c.loop-cause-test.true in
    (omega (arith, next_cause_len c.args.causes.now c.loop-cause.cause-index lt))

pub put_cause-requires-clause-room : goal.put_cause-requires-clause-room
put_cause-requires-clause-room c =
    let lt = c.loop-cause-test.true in
    (omega (
      arith,
      next_cause_fits c.args.causes.now c.loop-cause.cause-index lt,
      ap length c.loop-cause.invariant.items,
      length-append c.args.out.now.items (flat_map parameter_bytes (map as_parameter (map cause_content (take c.loop-cause.cause-index c.args.causes.now)))),
      c.loop-cause.out.ok.0,
      c.args.out.now.ok.0,
    ))
