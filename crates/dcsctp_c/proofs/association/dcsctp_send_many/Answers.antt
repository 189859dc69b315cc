use Rattle.std.proofs.Common.{rules}
use Rattle.dcsctp_c.proofs.ExportLemmas.{below_writes, below_writes_nothing}
use Rattle.dcsctp_c.proofs.association.dcsctp_send_many.Goals as goal

pub returns-in-Socket : goal.returns-in-Socket
returns-in-Socket c = below_writes _ c.held.ensures.value c.in-Socket.is c.send_many.ensures (search rules)

pub returns-in-Channels : goal.returns-in-Channels
returns-in-Channels c = below_writes_nothing _ _ c.held.ensures.value c.in-Channels.is (search rules)
