use Rattle.dcsctp_theorem_transfer.proofs.ExpiringLaws.{calls_recover}
use Rattle.dcsctp_theorem_transfer.proofs.laws.calls_recover.Goals as goal

pub returns : goal.returns
returns c = calls_recover c.sacks_fit.ensures
