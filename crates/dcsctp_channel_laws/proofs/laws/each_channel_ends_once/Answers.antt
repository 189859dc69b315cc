use Rattle.dcsctp_channel_laws.proofs.CallsTell.{calls_tell}
use Rattle.dcsctp_channel_laws.proofs.First.{begin_apart, streams_apart, states_true}
use Rattle.dcsctp_channel_laws.proofs.PollsTell.{polls_tell}
use Rattle.dcsctp_channel_laws.proofs.laws.each_channel_ends_once.Goals as goal

pub returns-clause-calls : goal.returns-clause-calls
returns-clause-calls c = calls_tell c.reports_are_in_turn.ensures

pub returns-clause-polls : goal.returns-clause-polls
returns-clause-polls c = λ result old new polls a. polls_tell c.reports_are_in_turn.ensures result new old polls a

pub returns-clause-begins : goal.returns-clause-begins
returns-clause-begins c = begin_apart

pub returns-clause-apart : goal.returns-clause-apart
returns-clause-apart c = streams_apart

pub returns-clause-shown : goal.returns-clause-shown
returns-clause-shown c = states_true
