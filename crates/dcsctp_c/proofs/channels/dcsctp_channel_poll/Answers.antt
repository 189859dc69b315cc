use Rattle.std.proofs.Common.{rules}
use Rattle.dcsctp_c.proofs.ExportLemmas.{channels_write, channels_write_nothing}
use Rattle.dcsctp_c.proofs.channels.dcsctp_channel_poll.Goals as goal

pub returns-in-Socket : goal.returns-in-Socket
returns-in-Socket c = channels_write_nothing _ _ c.held.ensures.value c.in-Socket.is (search rules)

pub returns-in-Channels : goal.returns-in-Channels
returns-in-Channels c = channels_write _ c.held.ensures.value c.in-Channels.is c.poll.ensures (search rules)
