use Rattle.dcsctp_delivery_sockets.proofs.associations.InOrder.{ends_cut_as_asked, ends_cut_without_gaps}
use Rattle.dcsctp_delivery_sockets.proofs.associations_laws.ends_cut_as_asked.Goals as goal

pub returns-clause-asked : goal.returns-clause-asked
returns-clause-asked c = ends_cut_as_asked

pub returns-clause-without_gaps : goal.returns-clause-without_gaps
returns-clause-without_gaps c = ends_cut_without_gaps
