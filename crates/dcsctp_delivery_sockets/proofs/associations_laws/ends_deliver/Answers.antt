use Rattle.dcsctp_delivery_sockets.proofs.associations.Delivers.{ends_deliver}
use Rattle.dcsctp_delivery_sockets.proofs.associations_laws.ends_deliver.Goals as goal

pub returns : goal.returns
returns c = ends_deliver
