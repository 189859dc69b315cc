use Rattle.dcsctp_delivery_directions.proofs.order.Held.{parts_leave_held, one_is_missing}
use Rattle.dcsctp_delivery_directions.proofs.order.Runs.{parts_lie_apart}
use Rattle.dcsctp_delivery_directions.proofs.order_laws.runs_lie_apart.Goals as goal

pub returns-clause-apart : goal.returns-clause-apart
returns-clause-apart c = parts_lie_apart

pub returns-clause-held : goal.returns-clause-held
returns-clause-held c = parts_leave_held

pub returns-clause-missing : goal.returns-clause-missing
returns-clause-missing c = one_is_missing
