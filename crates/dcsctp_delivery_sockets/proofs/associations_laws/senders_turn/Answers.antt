use Rattle.dcsctp_delivery_sockets.proofs.associations.SenderTurns.{sender_turns}
use Rattle.dcsctp_delivery_sockets.proofs.associations_laws.senders_turn.Goals as goal

pub returns : goal.returns
returns c = λ seen options ends e queued past packets other their_past reads input o h w reported back new few little refuses completes_so may turn. sender_turns options ends e queued past packets other their_past reads h input o new w little seen reported back few refuses completes_so may turn
