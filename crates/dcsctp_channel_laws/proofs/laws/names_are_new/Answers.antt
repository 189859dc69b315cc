use Rattle.dcsctp_channel_laws.proofs.Calls.{calls_add, opens_new}
use Rattle.dcsctp_channel_laws.proofs.Room.{opens_room}
use Rattle.dcsctp_channel_laws.proofs.Turns.{polls_add}
use Rattle.dcsctp_channel_laws.proofs.laws.names_are_new.Goals as goal

pub returns-clause-calls : goal.returns-clause-calls
returns-clause-calls c = calls_add

pub returns-clause-opens : goal.returns-clause-opens
returns-clause-opens c = opens_new

pub returns-clause-polls : goal.returns-clause-polls
returns-clause-polls c = λ result old new polls. polls_add result new old polls

pub returns-clause-room : goal.returns-clause-room
returns-clause-room c = opens_room
