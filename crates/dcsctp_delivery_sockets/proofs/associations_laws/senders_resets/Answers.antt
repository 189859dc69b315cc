use Rattle.dcsctp_delivery_sockets.proofs.associations.Seen.{resets_were_seen}
use Rattle.dcsctp_delivery_sockets.proofs.associations_laws.senders_resets.Goals as goal

pub returns : goal.returns
returns c = resets_were_seen
