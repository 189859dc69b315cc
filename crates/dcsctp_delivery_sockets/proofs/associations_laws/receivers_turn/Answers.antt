use Rattle.dcsctp_delivery_sockets.proofs.associations.ReceiverTurns.{receiver_turns}
use Rattle.dcsctp_delivery_sockets.proofs.associations_laws.receivers_turn.Goals as goal

pub returns : goal.returns
returns c = λ seen options ends e queued past packets other their_past reads input o h w reported few little same knows new_tags shows new sent may turn. receiver_turns options ends e queued past packets other their_past reads h few same input o new w little new_tags may turn seen reported shows knows sent
