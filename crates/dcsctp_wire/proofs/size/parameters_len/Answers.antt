use Rattle.std.proofs.Common.{refl, arith, []}
use Rattle.dcsctp_wire.specs.declared.parameter.Parameter.TheVariants.{HeartbeatInfo}
use Rattle.dcsctp_wire.specs.Spelling.{parameters_len}
use Rattle.dcsctp_wire.proofs.Lengths.{parameters_len_more}
use Rattle.dcsctp_wire.proofs.size.parameters_len.Goals as goal

pub loop-parameter-init : goal.loop-parameter-init
unfolding parameters_len
loop-parameter-init c = refl

pub loop-parameter-preserved : goal.loop-parameter-preserved
loop-parameter-preserved c =
    let lt = c.loop-parameter-test.true in
    omega (arith, parameters_len_more c.args.parameters.now c.loop-parameter.parameter-index lt (HeartbeatInfo (record { ref_ptr = (0, 0); now = [] })))
