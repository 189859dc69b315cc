use Rattle.dcsctp_spec_runs.proofs.MayBeWorkedLemmas.{admitted_packets_may_be_worked}
use Rattle.dcsctp_spec_runs.proofs.laws.admitted_packets_may_be_worked.Goals as goal

pub returns : goal.returns
returns c = admitted_packets_may_be_worked
