use Rattle.dcsctp_channel_laws.proofs.GoingOn.{are_gone, go_on}
use Rattle.dcsctp_channel_laws.proofs.handover_laws.channels_go_on.Goals as goal

pub returns-clause-gone : goal.returns-clause-gone
returns-clause-gone c = are_gone

pub returns-clause-restored : goal.returns-clause-restored
returns-clause-restored c = go_on
