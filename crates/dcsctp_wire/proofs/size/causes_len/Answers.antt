use Rattle.std.proofs.Common.{refl, arith, []}
use Rattle.dcsctp_wire.specs.declared.cause.ErrorCause.TheVariants.{MissingMandatoryParameter}
use Rattle.dcsctp_wire.specs.Spelling.{parameters_len}
use Rattle.dcsctp_wire.proofs.Lengths.{causes_len_more}
use Rattle.dcsctp_wire.proofs.size.causes_len.Goals as goal

pub loop-cause-init : goal.loop-cause-init
unfolding parameters_len
loop-cause-init c = refl

pub loop-cause-preserved : goal.loop-cause-preserved
loop-cause-preserved c =
    let lt = c.loop-cause-test.true in
    omega (arith, causes_len_more c.args.causes.now c.loop-cause.cause-index lt (MissingMandatoryParameter (record { ref_ptr = (0, 0); now = [] })))
