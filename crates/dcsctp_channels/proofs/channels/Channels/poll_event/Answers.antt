use Rattle.dcsctp_channels.proofs.Loops.{polls_ok}
use Rattle.dcsctp_channels.proofs.channels.Channels.poll_event.Goals as goal

pub returns-in-Ok : goal.returns-in-Ok
returns-in-Ok g c = polls_ok _ _ _ c.if-self.false c.in-Ok.ensures.0 c.in-Ok.ensures.1
