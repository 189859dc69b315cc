use Rattle.std.proofs.Common.{map, arith}
use Rattle.dcsctp_wire.specs.Content.{parameter_content}
use Rattle.dcsctp_wire.proofs.Lengths.{padded_parameters}
use Rattle.dcsctp_wire.proofs.size.parameters_serialized_size.Goals as goal

pub returns : goal.returns
returns c = omega (arith, padded_parameters (map parameter_content c.args.parameters.now))
