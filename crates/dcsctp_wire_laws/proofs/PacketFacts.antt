-- Outside examples of packets, written by hand from RFC 9260, section 3.1, computed by the definitions.
use Rattle.std.proofs.Common.{◌≡◌, ℕ, Bool, true, false, List, [], ◌∷◌, refl, arith}
use Rattle.dcsctp_wire.specs.declared.packet.WireOptions.{WireOptions}
use Rattle.dcsctp_wire_checksum.specs.Crc32c.{bit_step, eight_bit_steps, byte_step, register_after, crc32c_of, packet_checksum_of}
use Rattle.dcsctp_wire.specs.Content.{cookie_echo_chunk, cookie_ack_chunk, PacketContent}
use Rattle.dcsctp_wire.specs.Fields.{content_of_fields}
use Rattle.dcsctp_wire.specs.Format.{leading_frame, form_of, checksum_accepted, IsPacket}
use Rattle.dcsctp_wire.specs.Spelling.{other_bytes, header_bytes, checksum_field, packet_bytes_of, packet_bytes}

-- ---- packets (RFC 9260, section 3.1)

header_is_spelled : header_bytes 5000 5001 0x01020304 ≡ 0x13 ∷ 0x88 ∷ 0x13 ∷ 0x89 ∷ 1 ∷ 2 ∷ 3 ∷ 4 ∷ []
unfolding header_bytes
header_is_spelled = refl

-- a COOKIE ACK, whose checksum 0x9583628b was computed elsewhere
cookie_ack : PacketContent
cookie_ack = record { source_port = 5000; destination_port = 5001; verification_tag = 0x01020304; chunks = cookie_ack_chunk ∷ [] }

cookie_ack_bytes : List ℕ
cookie_ack_bytes = 0x13 ∷ 0x88 ∷ 0x13 ∷ 0x89 ∷ 1 ∷ 2 ∷ 3 ∷ 4 ∷ 0x8b ∷ 0x62 ∷ 0x83 ∷ 0x95 ∷ 11 ∷ 0 ∷ 0 ∷ 4 ∷ []

cookie_ack_is_spelled : packet_bytes true cookie_ack ≡ cookie_ack_bytes
unfolding bit_step eight_bit_steps byte_step register_after crc32c_of packet_checksum_of header_bytes checksum_field packet_bytes_of other_bytes cookie_ack cookie_ack_bytes
cookie_ack_is_spelled = refl

no_checksum_is_spelled : packet_bytes false cookie_ack ≡ 0x13 ∷ 0x88 ∷ 0x13 ∷ 0x89 ∷ 1 ∷ 2 ∷ 3 ∷ 4 ∷ 0 ∷ 0 ∷ 0 ∷ 0 ∷ 11 ∷ 0 ∷ 0 ∷ 4 ∷ []
unfolding header_bytes checksum_field packet_bytes_of other_bytes cookie_ack
no_checksum_is_spelled = refl

-- a reader on a port that looks at the checksum or doesn't, with this method
reader : ℕ → Bool → ℕ → WireOptions
reader port unchecked method = record { local_port = port; disable_checksum_verification = unchecked; zero_checksum_alternate_error_detection_method = method }

right_checksum_is_accepted : checksum_accepted (reader 5001 false 0) cookie_ack_bytes ≡ true
unfolding bit_step eight_bit_steps byte_step register_after crc32c_of packet_checksum_of reader cookie_ack_bytes
right_checksum_is_accepted = refl

-- the same with the highest byte first
turned_checksum_is_refused : checksum_accepted (reader 5001 false 1) (0x13 ∷ 0x88 ∷ 0x13 ∷ 0x89 ∷ 1 ∷ 2 ∷ 3 ∷ 4 ∷ 0x95 ∷ 0x83 ∷ 0x62 ∷ 0x8b ∷ 11 ∷ 0 ∷ 0 ∷ 4 ∷ []) ≡ false
unfolding bit_step eight_bit_steps byte_step register_after crc32c_of packet_checksum_of reader
turned_checksum_is_refused = refl

-- a field of 0, which is not the checksum
unsummed : List ℕ
unsummed = 0x13 ∷ 0x88 ∷ 0x13 ∷ 0x89 ∷ 1 ∷ 2 ∷ 3 ∷ 4 ∷ 0 ∷ 0 ∷ 0 ∷ 0 ∷ 11 ∷ 0 ∷ 0 ∷ 4 ∷ []

zero_is_refused_without_method : checksum_accepted (reader 5001 false 0) unsummed ≡ false
unfolding bit_step eight_bit_steps byte_step register_after crc32c_of packet_checksum_of reader unsummed
zero_is_refused_without_method = refl

zero_is_accepted_with_method : checksum_accepted (reader 5001 false 1) unsummed ≡ true
unfolding bit_step eight_bit_steps byte_step register_after crc32c_of packet_checksum_of reader unsummed
zero_is_accepted_with_method = refl

checksum_is_not_looked_at : checksum_accepted (reader 5001 true 0) unsummed ≡ true
unfolding bit_step eight_bit_steps byte_step register_after crc32c_of packet_checksum_of reader unsummed
checksum_is_not_looked_at = refl

cookie_ack_is_read : IsPacket (reader 5001 false 0) cookie_ack cookie_ack_bytes
unfolding bit_step eight_bit_steps byte_step register_after crc32c_of packet_checksum_of leading_frame form_of content_of_fields reader cookie_ack cookie_ack_bytes
cookie_ack_is_read =
    record {
      long_enough = omega arith;
      source_port = refl;
      destination_port = refl;
      verification_tag = refl;
      to_this_port = refl;
      checked = refl;
      chunks = (_, record { value = []; framed = refl; read = refl }, refl);
      echo_in_front = tt;
    }

packet_of_11_bytes_is_refused : (packet : PacketContent) → IsPacket (reader 5001 true 0) packet (0x13 ∷ 0x88 ∷ 0x13 ∷ 0x89 ∷ 1 ∷ 2 ∷ 3 ∷ 4 ∷ 0 ∷ 0 ∷ 0 ∷ []) → ⊥
packet_of_11_bytes_is_refused packet h = absurd (omega (arith, h.long_enough))

other_port_is_refused : IsPacket (reader 5000 true 0) cookie_ack cookie_ack_bytes → ⊥
unfolding reader cookie_ack
other_port_is_refused h = absurd (omega (arith, h.to_this_port))

-- a COOKIE ECHO after a COOKIE ACK
late_echo_is_refused : (bytes : List ℕ) → IsPacket (reader 5001 true 0) (record cookie_ack { chunks = cookie_ack_chunk ∷ cookie_echo_chunk [] ∷ [] }) bytes → ⊥
late_echo_is_refused bytes h = absurd (cc h.echo_in_front.0)

echo_first_is_read : IsPacket (reader 5001 true 0) (record cookie_ack { chunks = cookie_echo_chunk [] ∷ cookie_ack_chunk ∷ [] })
    (0x13 ∷ 0x88 ∷ 0x13 ∷ 0x89 ∷ 1 ∷ 2 ∷ 3 ∷ 4 ∷ 0 ∷ 0 ∷ 0 ∷ 0 ∷ 10 ∷ 0 ∷ 0 ∷ 4 ∷ 11 ∷ 0 ∷ 0 ∷ 4 ∷ [])
unfolding leading_frame form_of content_of_fields reader cookie_ack
echo_first_is_read =
    record {
      long_enough = omega arith;
      source_port = refl;
      destination_port = refl;
      verification_tag = refl;
      to_this_port = refl;
      checked = refl;
      chunks = (
        _,
        record { value = []; framed = refl; read = refl },
        (_, record { value = []; framed = refl; read = refl }, refl),
      );
      echo_in_front = (refl, tt);
    }
