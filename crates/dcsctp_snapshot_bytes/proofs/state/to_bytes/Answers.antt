use Rattle.dcsctp_types.specs.Snapshot.{snapshot}
use Rattle.dcsctp_snapshot_bytes.proofs.SnapshotLaws.{is_read_back}
use Rattle.dcsctp_snapshot_bytes.proofs.state.to_bytes.Goals as goal

pub returns-clause-read_back : goal.returns-clause-read_back
returns-clause-read_back c = is_read_back c.write_state.result (snapshot c.args.state.now) c.write_state.ensures.bytes c.write_state.ensures.fits
