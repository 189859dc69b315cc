use Rattle.dcsctp_delivery_sockets.proofs.turns.PeersTurns.{peers_turn, calm_asks_nothing, unlinked_asks_nothing, ends_ask_nothing}
use Rattle.dcsctp_delivery_sockets.proofs.turns_laws.peers_requests_turn.Goals as goal

pub returns-clause-turns : goal.returns-clause-turns
returns-clause-turns c = peers_turn

pub returns-clause-calm : goal.returns-clause-calm
returns-clause-calm c = calm_asks_nothing

pub returns-clause-unlinked : goal.returns-clause-unlinked
returns-clause-unlinked c = unlinked_asks_nothing

pub returns-clause-ends : goal.returns-clause-ends
returns-clause-ends c = ends_ask_nothing
