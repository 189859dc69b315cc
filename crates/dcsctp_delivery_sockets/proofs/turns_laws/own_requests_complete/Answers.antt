use Rattle.dcsctp_delivery_sockets.proofs.turns.Completing.{completes_own}
use Rattle.dcsctp_delivery_sockets.proofs.turns_laws.own_requests_complete.Goals as goal

pub returns : goal.returns
returns c = completes_own
