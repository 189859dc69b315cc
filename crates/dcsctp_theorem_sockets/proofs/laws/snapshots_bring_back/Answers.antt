use Rattle.dcsctp_theorem_sockets.proofs.SnapshotsBack.{snapshots_bring_back}
use Rattle.dcsctp_theorem_sockets.proofs.laws.snapshots_bring_back.Goals as goal

pub returns : goal.returns
returns c = snapshots_bring_back
