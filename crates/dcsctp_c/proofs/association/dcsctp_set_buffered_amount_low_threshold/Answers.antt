use Rattle.std.proofs.Common.{rules}
use Rattle.dcsctp_c.proofs.ExportLemmas.{below_goes, below_refuses}
use Rattle.dcsctp_c.proofs.association.dcsctp_set_buffered_amount_low_threshold.Goals as goal

pub returns-in-Socket : goal.returns-in-Socket
returns-in-Socket c = below_goes _ c.held.ensures.value c.in-Socket.is c.set_buffered_amount_low_threshold.ensures (search rules)

pub returns-in-Channels : goal.returns-in-Channels
returns-in-Channels c = below_refuses _ c.held.ensures.value c.in-Channels.is (search rules)
