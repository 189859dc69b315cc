use Rattle.dcsctp_delivery_sockets.proofs.turns.Rules.{fresh_takes_turns, turns_stay_by_option}
use Rattle.dcsctp_delivery_sockets.proofs.turns_laws.rules_stay.Goals as goal

pub returns-clause-made : goal.returns-clause-made
returns-clause-made c = fresh_takes_turns

pub returns-clause-stays : goal.returns-clause-stays
returns-clause-stays c = turns_stay_by_option
