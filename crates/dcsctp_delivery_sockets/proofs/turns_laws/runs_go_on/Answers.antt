use Rattle.dcsctp_delivery_sockets.proofs.turns.Runs.{senders_begin, begins_anew, senders_go_on, receivers_go_on, receivers_begin}
use Rattle.dcsctp_delivery_sockets.proofs.turns_laws.runs_go_on.Goals as goal

pub returns-clause-made : goal.returns-clause-made
returns-clause-made c = senders_begin

pub returns-clause-sends : goal.returns-clause-sends
returns-clause-sends c = senders_go_on

pub returns-clause-receives : goal.returns-clause-receives
returns-clause-receives c = receivers_go_on

pub returns-clause-anew : goal.returns-clause-anew
returns-clause-anew c = begins_anew

pub returns-clause-idle : goal.returns-clause-idle
returns-clause-idle c = receivers_begin
