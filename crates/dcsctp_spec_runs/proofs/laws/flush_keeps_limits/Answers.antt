use Rattle.dcsctp_spec_runs.proofs.LimitLemmas.{flush_keeps_limits}
use Rattle.dcsctp_spec_runs.proofs.laws.flush_keeps_limits.Goals as goal

pub returns : goal.returns
returns c = flush_keeps_limits
