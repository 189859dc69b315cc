use Rattle.dcsctp_delivery_sockets.proofs.turns.ToldRequests.{turns_report_requests}
use Rattle.dcsctp_delivery_sockets.proofs.turns.ToldResets.{turns_tell_resets}
use Rattle.dcsctp_delivery_sockets.proofs.turns_laws.turns_tell_resets.Goals as goal

pub returns-clause-told : goal.returns-clause-told
returns-clause-told c = turns_tell_resets

pub returns-clause-asked : goal.returns-clause-asked
returns-clause-asked c = turns_report_requests
