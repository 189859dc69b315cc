use Rattle.dcsctp_session.proofs.OffloadLaws.{reads_as_checked}
use Rattle.dcsctp_session.proofs.laws.packets_are_read_as_checked.Goals as goal

pub returns : goal.returns
returns c = reads_as_checked
