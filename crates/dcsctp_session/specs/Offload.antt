-- What a socket reads of a packet that comes in where its caller checks checksums.
use Rattle.std.specs.Prelude.{ℕ, true, List, ◌↔◌}
use Rattle.std.specs.List.{AllByRecursion}
use Rattle.dcsctp_core.specs.wire.Content.{PacketContent}
use Rattle.dcsctp_core.specs.wire.Format.{IsPacket}
use Rattle.dcsctp_core.specs.wire.ReadsBack.{IsByte}
use Rattle.dcsctp_core.specs.wire.declared.packet.WireOptions.{WireOptions}
use Rattle.dcsctp_core.specs.wire_build.Checksums.{checksum_filled}

-- the same options, but that no checksum is looked at
abbrev pub options_without_checks : WireOptions → WireOptions
options_without_checks options = record options { disable_checksum_verification = true }

-- Bytes are read as if their checksum were right.
abbrev pub ReadsAsChecked : Type 0
ReadsAsChecked =
    (options : WireOptions) (packet : PacketContent) (bytes : List ℕ) → AllByRecursion IsByte bytes
    → IsPacket (options_without_checks options) packet bytes ↔ IsPacket options packet (checksum_filled bytes)
