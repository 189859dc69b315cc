use Rattle.dcsctp_delivery_sockets.proofs.turns.Unbegun.{fresh_is_at_zero, stays_at_zero, unbegun_begins_at_zero, unbegun_begins_waiting}
use Rattle.dcsctp_delivery_sockets.proofs.turns_laws.unbegun_numbers_stay.Goals as goal

pub returns-clause-made : goal.returns-clause-made
returns-clause-made c = fresh_is_at_zero

pub returns-clause-stays : goal.returns-clause-stays
returns-clause-stays c = stays_at_zero

pub returns-clause-begins : goal.returns-clause-begins
returns-clause-begins c = unbegun_begins_at_zero

pub returns-clause-kept : goal.returns-clause-kept
returns-clause-kept c = unbegun_begins_waiting
