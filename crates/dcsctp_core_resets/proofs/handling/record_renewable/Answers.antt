use Rattle.std.proofs.Common.{refl}
use Rattle.dcsctp_core_resets.proofs.handling.record_renewable.Goals as goal

pub returns : goal.returns
returns g c = (c.in_ok-kept.kept, c.in_ok-kept.ensures, refl)
