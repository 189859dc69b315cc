use Rattle.std.proofs.Common.{◌≡◌, drop}
use Rattle.dcsctp_wire_checksum.specs.Crc32c.{register_after}
use Rattle.dcsctp_wire_checksum.proofs.after_each.Given as goal

-- what is left from here is what is left from the start
abbrev pub invariant-loop-byte : goal.invariant-loop-byte
invariant-loop-byte l = register_after l.register (drop l.byte-index l.bytes) ≡ register_after l.fn.register l.bytes
