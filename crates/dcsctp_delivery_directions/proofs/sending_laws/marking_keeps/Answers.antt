use Rattle.dcsctp_delivery_directions.proofs.sending.MarkingAll.{all_are_marked, all_marked_fit, all_marked_keep, gone_are_marked}
use Rattle.dcsctp_delivery_directions.proofs.sending.Marking.{marking_hold, marked_spent, marking_fits}
use Rattle.dcsctp_delivery_directions.proofs.sending_laws.marking_keeps.Goals as goal

pub returns-clause-marked : goal.returns-clause-marked
returns-clause-marked c = marking_hold

pub returns-clause-spent : goal.returns-clause-spent
returns-clause-spent c = marked_spent

pub returns-clause-fits : goal.returns-clause-fits
returns-clause-fits c = marking_fits

pub returns-clause-all : goal.returns-clause-all
returns-clause-all c = all_marked_keep

pub returns-clause-all_fit : goal.returns-clause-all_fit
returns-clause-all_fit c = all_marked_fit

pub returns-clause-same : goal.returns-clause-same
returns-clause-same c = all_are_marked

pub returns-clause-gone : goal.returns-clause-gone
returns-clause-gone c = gone_are_marked
