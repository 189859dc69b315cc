use Rattle.dcsctp_channel_messages.proofs.Acks.{acks_are}
use Rattle.dcsctp_channel_messages.proofs.laws.acks_are_read.Goals as goal

pub returns : goal.returns
returns c = acks_are
