use Rattle.dcsctp_theorem_transfer.proofs.Asking.{running_timers_count}
use Rattle.dcsctp_theorem_transfer.proofs.laws.running_timers_count.Goals as goal

pub returns : goal.returns
returns c = running_timers_count
