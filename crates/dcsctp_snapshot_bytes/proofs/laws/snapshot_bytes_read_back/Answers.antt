use Rattle.dcsctp_snapshot_bytes.proofs.SnapshotLaws.{reads_back, has_one_spelling}
use Rattle.dcsctp_snapshot_bytes.proofs.laws.snapshot_bytes_read_back.Goals as goal

pub returns-clause-read_back : goal.returns-clause-read_back
returns-clause-read_back c = reads_back

pub returns-clause-one_spelling : goal.returns-clause-one_spelling
returns-clause-one_spelling c = has_one_spelling
