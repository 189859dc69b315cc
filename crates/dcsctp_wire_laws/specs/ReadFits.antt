-- What is read of bytes fits its fields (RFC 9260, section 3).
use Rattle.std.specs.Prelude.{ℕ, List}
use Rattle.std.specs.List.{AllByRecursion}
use Rattle.dcsctp_wire.specs.declared.packet.WireOptions.{WireOptions}
use Rattle.dcsctp_wire.specs.Content.{PacketContent}
use Rattle.dcsctp_wire.specs.Format.{IsPacket}
use Rattle.dcsctp_wire.specs.ReadsBack.{IsByte, FitsFields}

-- Whatever a reader reads of bytes has numbers that fit their fields. How many bytes there are is no premise: the
-- length of each chunk has 16 bits by itself.
abbrev pub ReadPacketFits : Type 0
ReadPacketFits =
    (options : WireOptions) (bytes : List ℕ) (packet : PacketContent) → AllByRecursion IsByte bytes → IsPacket options packet bytes → FitsFields packet
