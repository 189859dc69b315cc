use Rattle.dcsctp_delivery_sockets.proofs.turns.Reporting.{turns_report}
use Rattle.dcsctp_delivery_sockets.proofs.turns_laws.turns_report.Goals as goal

pub returns : goal.returns
returns c = turns_report
