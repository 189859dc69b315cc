-- The checksum CRC32c of a list of bytes, and of an SCTP packet: RFC 9260, appendix A.
-- The register is a number below 2 ^ 32 that takes in one byte after another. All is in reverse bit
-- order: the lowest bit leaves first, and the polynomial is reversed.
use Rattle.std.specs.Prelude.{ℕ, ◌/◌, ◌%◌, ◌==◌, List, [], ◌∷◌, ◌++◌, take, drop, fold, bit_xor, if◌then◌else◌}

-- the polynomial
abbrev pub polynomial : ℕ
polynomial = 0x82F63B78

-- one bit leaves the register
unfoldable pub bit_step : ℕ → ℕ
bit_step register = if register % 2 == 1 then bit_xor (register / 2) polynomial else register / 2

-- eight bits leave the register
unfoldable pub eight_bit_steps : ℕ → ℕ
eight_bit_steps register =
    bit_step (bit_step (bit_step (bit_step (bit_step (bit_step (bit_step (bit_step register)))))))

-- the register takes in a byte
unfoldable pub byte_step : ℕ → ℕ → ℕ
byte_step register byte = eight_bit_steps (bit_xor register byte)

-- the register after the bytes
unfoldable pub register_after : ℕ → List ℕ → ℕ
register_after register bytes = fold byte_step register bytes

-- the register's bits as it starts, and those that are turned at the end
abbrev pub all_ones : ℕ
all_ones = 0xFFFFFFFF

-- the checksum of the bytes
unfoldable pub crc32c_of : List ℕ → ℕ
crc32c_of bytes = bit_xor (register_after all_ones bytes) all_ones

-- the checksum of an SCTP packet, whose checksum field, bytes 8 to 11, counts as zeros
unfoldable pub packet_checksum_of : List ℕ → ℕ
packet_checksum_of packet = crc32c_of (take 8 packet ++ (0 ∷ 0 ∷ 0 ∷ 0 ∷ []) ++ drop 12 packet)
