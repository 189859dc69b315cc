use Rattle.dcsctp_theorem_transfer.proofs.Tracking.{sockets_track_received}
use Rattle.dcsctp_theorem_transfer.proofs.laws.sockets_track_received.Goals as goal

pub returns : goal.returns
returns c = sockets_track_received
