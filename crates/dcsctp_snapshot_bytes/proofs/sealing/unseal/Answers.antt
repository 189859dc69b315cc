use Rattle.dcsctp_snapshot_bytes.proofs.SealLaws.{no_room}
use Rattle.dcsctp_snapshot_bytes.proofs.sealing.unseal.Goals as goal

pub returns-then-front-lt-FINGERPRINT_LEN : goal.returns-then-front-lt-FINGERPRINT_LEN
returns-then-front-lt-FINGERPRINT_LEN c body mark len e = no_room c.args.bytes.now c.in-Some.front.now body mark 14 c.in-Some.ensures c.if-front-lt-FINGERPRINT_LEN.true len e
