use Rattle.dcsctp_theorem_transfer.proofs.DelayOver.{call_sends_delayed_sack}
use Rattle.dcsctp_theorem_transfer.proofs.laws.call_sends_delayed_sack.Goals as goal

pub returns : goal.returns
returns c = call_sends_delayed_sack
