use Rattle.dcsctp_snapshot_bytes.proofs.SealLaws.{opens_again, others_are_refused, tells_options}
use Rattle.dcsctp_snapshot_bytes.proofs.laws.sealed_bytes_open.Goals as goal

pub returns-clause-again : goal.returns-clause-again
returns-clause-again c = opens_again

pub returns-clause-others : goal.returns-clause-others
returns-clause-others c = others_are_refused

pub returns-clause-options : goal.returns-clause-options
returns-clause-options c = tells_options
