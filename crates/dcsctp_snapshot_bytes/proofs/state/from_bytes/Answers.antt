use Rattle.std.proofs.Common.{arith}
use Rattle.dcsctp_types.specs.Snapshot.{snapshot}
use Rattle.dcsctp_snapshot_bytes.proofs.SnapshotLaws.{has_one_spelling}
use Rattle.dcsctp_snapshot_bytes.proofs.state.from_bytes.Goals as goal

pub returns-in-Ok-clause-spelled : goal.returns-in-Ok-clause-spelled
returns-in-Ok-clause-spelled c = has_one_spelling c.args.bytes.now (snapshot c.in-Ok.state) (λ i. omega (arith, c.type_inv.bytes i)) c.in-Ok.ensures
