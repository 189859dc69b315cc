use Rattle.std.proofs.Common.{◌≡◌, ◌-◌, ◌≤◌, length, drop}
use Rattle.dcsctp_wire_checksum.specs.Crc32c.{register_after}
use Rattle.dcsctp_wire_checksum.proofs.after.Given as goal

-- what is left from here is what is left from the start
abbrev pub invariant-loop-at : goal.invariant-loop-at
invariant-loop-at l = record {
  within : l.at ≤ length l.bytes;
  left : register_after l.register (drop l.at l.bytes) ≡ register_after l.fn.register l.bytes;
}

abbrev pub decreases-loop-at : goal.decreases-loop-at
decreases-loop-at l = length l.bytes - l.at
