-- The register after the header, then after the rest.
use Rattle.std.proofs.Common.{ap}
use Rattle.std.specs.Int.Bits.{bit_xor}
use Rattle.dcsctp_wire_checksum.specs.Crc32c.{all_ones, crc32c_of, packet_checksum_of}
use Rattle.dcsctp_wire_checksum.proofs.Crc32cBlocks.{packet_by_parts}
use Rattle.dcsctp_wire_checksum.proofs.packet_checksum.Goals as goal

pub returns : goal.returns
unfolding packet_checksum_of crc32c_of
returns c =
    ap (λ w. bit_xor w all_ones)
    (packet_by_parts all_ones c.args.packet.now _ _ _ c.requires c.after_first_four.ensures c.after_next_four.ensures c.after.ensures)
