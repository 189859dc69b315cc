use Rattle.dcsctp_spec_laws.proofs.ValidityLemmas.{snapshots_are_valid}
use Rattle.dcsctp_spec_laws.proofs.laws.snapshots_are_valid.Goals as goal

pub returns : goal.returns
returns c = snapshots_are_valid
