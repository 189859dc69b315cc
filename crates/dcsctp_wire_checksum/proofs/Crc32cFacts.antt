-- The definition of CRC32c at outside examples: the check value of the nine bytes "123456789", and the
-- the four vectors that iSCSI publishes for it.
use Rattle.std.proofs.Common.{◌≡◌, replicate, reverse, refl}
use Rattle.std.specs.List.{range_with_len}
use Rattle.std.specs.Prelude.{codes}
use Rattle.dcsctp_wire_checksum.specs.Crc32c.{bit_step, eight_bit_steps, byte_step, register_after, crc32c_of}

crc32c_of-digits : crc32c_of (codes "123456789") ≡ 0xE3069283
unfolding bit_step eight_bit_steps byte_step register_after crc32c_of
crc32c_of-digits = refl

crc32c_of-zeros : crc32c_of (replicate 32 0) ≡ 0x8A9136AA
unfolding bit_step eight_bit_steps byte_step register_after crc32c_of
crc32c_of-zeros = refl

crc32c_of-ones : crc32c_of (replicate 32 0xFF) ≡ 0x62A8AB43
unfolding bit_step eight_bit_steps byte_step register_after crc32c_of
crc32c_of-ones = refl

crc32c_of-ascending : crc32c_of (range_with_len 0 32) ≡ 0x46DD794E
unfolding bit_step eight_bit_steps byte_step register_after crc32c_of
crc32c_of-ascending = refl

crc32c_of-descending : crc32c_of (reverse (range_with_len 0 32)) ≡ 0x113FDB5C
unfolding bit_step eight_bit_steps byte_step register_after crc32c_of
crc32c_of-descending = refl
