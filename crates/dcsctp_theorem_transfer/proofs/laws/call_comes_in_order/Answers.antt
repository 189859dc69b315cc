use Rattle.dcsctp_theorem_transfer.proofs.InOrder.{call_comes_in_order}
use Rattle.dcsctp_theorem_transfer.proofs.laws.call_comes_in_order.Goals as goal

pub returns : goal.returns
returns c = call_comes_in_order c.calls_recover.ensures
