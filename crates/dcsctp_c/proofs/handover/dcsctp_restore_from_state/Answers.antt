use Rattle.std.proofs.Common.{rules}
use Rattle.dcsctp_c.proofs.ExportLemmas.{plain_goes, channelled_goes}
use Rattle.dcsctp_c.proofs.handover.dcsctp_restore_from_state.Goals as goal

pub returns-in-Socket : goal.returns-in-Socket
returns-in-Socket c = plain_goes _ _ c.held.ensures.value c.in-Socket.is c.restore.ensures (search rules)

pub returns-in-Channels : goal.returns-in-Channels
returns-in-Channels c = channelled_goes _ _ c.held.ensures.value c.in-Channels.is c.restore-in-Channels.ensures (search rules)
