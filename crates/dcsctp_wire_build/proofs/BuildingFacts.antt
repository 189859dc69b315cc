-- A packet that is being built, at an example by hand (RFC 9260, section 3.1).
use Rattle.std.proofs.Common.{◌≡◌, true, [], ◌∷◌, refl}
use Rattle.dcsctp_wire_build.specs.Building.{bytes_remaining}

-- 12 bytes of header and a chunk of 8 leave 12 of 32.
room_is_left : bytes_remaining (record { source_port = 0; destination_port = 0; verification_tag = 0; size = 32; with_checksum = true; body = 6 ∷ 1 ∷ 0 ∷ 5 ∷ 0xaa ∷ 0 ∷ 0 ∷ 0 ∷ [] }) ≡ 12
room_is_left = refl
