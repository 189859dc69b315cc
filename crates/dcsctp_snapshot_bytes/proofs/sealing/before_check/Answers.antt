use Rattle.std.proofs.Common.{◌+◌, ◌-◌, length, arith}
use Rattle.dcsctp_snapshot_bytes.proofs.SealLaws.{too_short, not_checked, is_checked}
use Rattle.dcsctp_snapshot_bytes.proofs.sealing.before_check.Goals as goal

pub returns-then-bytes-lt-CHECK_LEN : goal.returns-then-bytes-lt-CHECK_LEN
returns-then-bytes-lt-CHECK_LEN c front e = too_short c.args.bytes.now front c.if-bytes-lt-CHECK_LEN.true e

pub returns-then-from_be_bytes-crc32c : goal.returns-then-from_be_bytes-crc32c
returns-then-from_be_bytes-crc32c c front e =
    not_checked c.args.bytes.now c.split_at.result.0.now c.split_at.result.1.now front c.from_be_bytes.result c.crc32c.result
    c.split_at.ensures.front c.split_at.ensures.back c.from_be_bytes.ensures c.crc32c.ensures c.crc32c.type_inv c.if-from_be_bytes-crc32c.true e

pub returns : goal.returns
returns c =
    is_checked c.args.bytes.now c.split_at.result.0.now c.split_at.result.1.now c.from_be_bytes.result c.crc32c.result
    c.split_at.ensures.by_index.0 (omega (arith, c.split_at.ensures.back_len, c.if-bytes-lt-CHECK_LEN.false)) (λ i. omega (arith, c.split_at.ensures.by_index.2 i 0, c.type_inv.bytes ((length c.args.bytes.now - 4) + i))) c.from_be_bytes.ensures c.if-from_be_bytes-crc32c.false c.crc32c.ensures
