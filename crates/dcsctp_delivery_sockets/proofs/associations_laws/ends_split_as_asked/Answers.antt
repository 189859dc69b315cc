use Rattle.dcsctp_delivery_sockets.proofs.associations.Split.{ends_split_as_asked}
use Rattle.dcsctp_delivery_sockets.proofs.associations_laws.ends_split_as_asked.Goals as goal

pub returns : goal.returns
returns c = ends_split_as_asked
