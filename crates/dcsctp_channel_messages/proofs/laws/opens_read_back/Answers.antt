use Rattle.dcsctp_channel_messages.proofs.Canonical.{opens_are_canonical}
use Rattle.dcsctp_channel_messages.proofs.ReadsBack.{opens_read_back}
use Rattle.dcsctp_channel_messages.proofs.laws.opens_read_back.Goals as goal

pub returns-clause-read_back : goal.returns-clause-read_back
returns-clause-read_back c = opens_read_back

pub returns-clause-canonical : goal.returns-clause-canonical
returns-clause-canonical c = opens_are_canonical
