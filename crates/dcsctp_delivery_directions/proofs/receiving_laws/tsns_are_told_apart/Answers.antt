use Rattle.dcsctp_delivery_directions.proofs.receiving.Tracked.{new_is_new, passing_keeps, more_given_out, tsns_read}
use Rattle.dcsctp_delivery_directions.proofs.receiving_laws.tsns_are_told_apart.Goals as goal

pub returns-clause-fresh : goal.returns-clause-fresh
returns-clause-fresh c = new_is_new

pub returns-clause-passing : goal.returns-clause-passing
returns-clause-passing c = passing_keeps

pub returns-clause-more : goal.returns-clause-more
returns-clause-more c = more_given_out

pub returns-clause-read : goal.returns-clause-read
returns-clause-read c = tsns_read
