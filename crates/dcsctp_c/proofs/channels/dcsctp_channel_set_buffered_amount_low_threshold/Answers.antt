use Rattle.std.proofs.Common.{rules}
use Rattle.dcsctp_c.proofs.ExportLemmas.{channels_go, channels_refuse}
use Rattle.dcsctp_c.proofs.channels.dcsctp_channel_set_buffered_amount_low_threshold.Goals as goal

pub returns-in-Socket : goal.returns-in-Socket
returns-in-Socket c = channels_refuse _ c.held.ensures.value c.in-Socket.is (search rules)

pub returns-in-Channels : goal.returns-in-Channels
returns-in-Channels c = channels_go _ c.held.ensures.value c.in-Channels.is c.set_buffered_amount_low_threshold.ensures (search rules)
