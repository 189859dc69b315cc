use Rattle.dcsctp_delivery_sockets.proofs.associations.Delivers.{ends_begin}
use Rattle.dcsctp_delivery_sockets.proofs.associations_laws.ends_begin.Goals as goal

pub returns : goal.returns
returns c = ends_begin
