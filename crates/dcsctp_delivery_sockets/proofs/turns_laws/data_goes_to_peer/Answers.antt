use Rattle.dcsctp_delivery_sockets.proofs.turns.Addressed.{data_goes_to_peer, addressed_tags_are_own}
use Rattle.dcsctp_delivery_sockets.proofs.turns_laws.data_goes_to_peer.Goals as goal

pub returns-clause-sent : goal.returns-clause-sent
returns-clause-sent c = data_goes_to_peer

pub returns-clause-admitted : goal.returns-clause-admitted
returns-clause-admitted c = addressed_tags_are_own
