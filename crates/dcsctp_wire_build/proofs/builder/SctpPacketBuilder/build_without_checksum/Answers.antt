use Rattle.dcsctp_wire.specs.Spelling.{header_bytes}
use Rattle.dcsctp_wire.proofs.Lengths.{length-header_bytes}
use Rattle.dcsctp_wire_build.proofs.BuiltPackets.{filled_is, without_checksum}
use Rattle.dcsctp_wire_build.proofs.builder.SctpPacketBuilder.build_without_checksum.Goals as goal

pub returns-clause-bytes : goal.returns-clause-bytes
returns-clause-bytes c =
    let header = c.self.inside.header in
    rw (← c.self.view_is) (without_checksum (header_bytes header.source_port header.destination_port header.verification_tag) c.self.inside.bytes.items c.self.invariant.front)

pub returns-clause-filled : goal.returns-clause-filled
returns-clause-filled c =
    let header = c.self.inside.header in
    rw (← c.self.view_is) (filled_is (header_bytes header.source_port header.destination_port header.verification_tag) c.self.inside.bytes.items c.self.invariant.front (length-header_bytes _ _ _) c.self.invariant.long_enough)
