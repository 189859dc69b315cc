use Rattle.std.proofs.Common.{rules, w32, to_z, of_z}
use Rattle.dcsctp_c.proofs.ExportLemmas.{not_created}
use Rattle.dcsctp_c.proofs.lifetime.dcsctp_create.Goals as goal

pub returns : goal.returns
returns c =
    not_created c.args.options.now c.args.seed.now c.args.now c.in-Ok.session c.args.handle.now.slot.value (to_z w32 (of_z w32 c.number-in-Err-of.result))
    (search rules) (search rules) (search rules)
