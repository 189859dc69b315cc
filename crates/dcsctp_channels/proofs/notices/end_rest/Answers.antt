use Rattle.dcsctp_channels.proofs.Keeping.{keeps_report, reported_on}
use Rattle.dcsctp_channels.proofs.notices.end_rest.Goals as goal

pub returns : goal.returns
returns c = (keeps_report _ _ _ _ _ c.end_waiting.ensures.0 c.report.ensures, reported_on _ _ _ _ _ c.in_ok-end_waiting.ensures.1 c.report.ensures)
