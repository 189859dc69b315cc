-- The checksum field of a packet that was built: bytes 8 to 11 (RFC 9260, section 3.1).
use Rattle.std.specs.Prelude.{ℕ, nat_lt, List, ◌++◌, length, take, drop, if◌then◌else◌}
use Rattle.std.specs.Int.{w32, to_le_bytes}
use Rattle.dcsctp_wire_checksum.specs.Crc32c.{packet_checksum_of}
use Rattle.dcsctp_wire.specs.Spelling.{zeros}

-- a packet with these four bytes in the field; what is shorter than a header has none
abbrev pub with_field : List ℕ → List ℕ → List ℕ
with_field field bytes = if nat_lt (length bytes) 12 then bytes else take 8 bytes ++ field ++ drop 12 bytes

-- a packet with its checksum, lowest byte first (RFC 9260, appendix A)
abbrev pub checksum_filled : List ℕ → List ℕ
checksum_filled bytes = with_field (to_le_bytes w32 (packet_checksum_of bytes)) bytes

-- a packet with 0 in the place of its checksum
abbrev pub checksum_cleared : List ℕ → List ℕ
checksum_cleared bytes = with_field (zeros 4) bytes
