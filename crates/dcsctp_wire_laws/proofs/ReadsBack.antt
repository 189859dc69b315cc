-- A built packet reads back, and as nothing else.
use Rattle.std.proofs.Common.{◌≡◌, ℕ, true, false, not, eqb, inl, inr, List, [], ◌∷◌, ◌++◌, sym, ap, ◌∙◌, arith}
use Rattle.std.specs.Prelude.{IsTrue}
use Rattle.std.specs.List.{flat_map}
use Rattle.std.proofs.lemmas.Bool.{eq-eqb, ne_eqb, or_left, or_right}
use Rattle.std.proofs.lemmas.Nat.{from_be_bytes-to_be_bytes_2, from_be_bytes-to_be_bytes_4}
use Rattle.dcsctp_wire.specs.declared.packet.WireOptions.{WireOptions}
use Rattle.dcsctp_wire.specs.Content.{PacketContent}
use Rattle.dcsctp_wire.specs.Format.{checksum_accepted, IsPacket}
use Rattle.dcsctp_wire.specs.Spelling.{chunk_bytes, header_bytes, checksum_field, packet_bytes_of, packet_bytes}
use Rattle.dcsctp_wire.specs.ReadsBack.{FitsFields, IsWritable, BuiltPacketReadsBack, BuiltPacketReadsAsItself}
use Rattle.dcsctp_wire.proofs.Lengths.{length-header_bytes}
use Rattle.dcsctp_wire_laws.proofs.InBytes.{in_header, in_chunks}
use Rattle.dcsctp_wire_laws.proofs.ReadsBackChecksum.{field_reads_back}
use Rattle.dcsctp_wire_laws.proofs.ReadsBackChunks.{chunks_read_back}
use Rattle.dcsctp_wire_laws.proofs.ReadsBackAsItself.{chunks_read_as_themselves}

abbrev header_of : PacketContent → List ℕ
header_of packet = header_bytes packet.source_port packet.destination_port packet.verification_tag

-- a packet with any four bytes as its checksum field
abbrev with_field : ℕ → ℕ → ℕ → ℕ → PacketContent → List ℕ
with_field a b c d packet = header_of packet ++ (a ∷ b ∷ c ∷ d ∷ []) ++ flat_map chunk_bytes packet.chunks

reads : (options : WireOptions) (packet : PacketContent) (a b c d : ℕ) → IsWritable packet → options.local_port ≡ packet.destination_port
    → IsTrue (checksum_accepted options (with_field a b c d packet)) → IsPacket options packet (with_field a b c d packet)
unfolding header_bytes
reads options packet a b c d fits port checked =
    record {
      long_enough = omega arith;
      source_port = sym (from_be_bytes-to_be_bytes_2 packet.source_port fits.fields.source_port);
      destination_port = sym (from_be_bytes-to_be_bytes_2 packet.destination_port fits.fields.destination_port);
      verification_tag = sym (from_be_bytes-to_be_bytes_4 packet.verification_tag fits.fields.verification_tag);
      to_this_port = sym port;
      checked = checked;
      chunks = chunks_read_back packet.chunks fits.fields.chunks fits.minima;
      echo_in_front = fits.echo_in_front;
    }

right_checksum : (options : WireOptions) (packet : PacketContent) → IsWritable packet → IsTrue (checksum_accepted options (packet_bytes true packet))
right_checksum options packet fits =
    let header : List ℕ = header_of packet in
    let body : List ℕ = flat_map chunk_bytes packet.chunks in
    or_right _ _ (eq-eqb _ _
    (field_reads_back header body (length-header_bytes packet.source_port packet.destination_port packet.verification_tag)
    (in_header packet.source_port packet.destination_port packet.verification_tag) (in_chunks packet.chunks fits.fields.chunks)))

no_checksum : (options : WireOptions) (packet : PacketContent) → (options.zero_checksum_alternate_error_detection_method ≡ 0 → ⊥) → IsTrue (checksum_accepted options (packet_bytes false packet))
unfolding packet_bytes_of checksum_field header_bytes
no_checksum options packet has =
    let method : eqb options.zero_checksum_alternate_error_detection_method 0 ≡ false = ne_eqb _ _ has in
    or_left _ _ (or_right _ _ (ap not method))

pub built_packet_reads_back : BuiltPacketReadsBack
unfolding packet_bytes_of checksum_field
built_packet_reads_back options true packet fits reader = reads options packet _ _ _ _ fits reader.to_this_port (right_checksum options packet fits)
built_packet_reads_back options false packet fits reader =
    reads options packet 0 0 0 0 fits reader.to_this_port
    (elim reader.checked [ inl e ↦ absurd cc | inr has ↦ no_checksum options packet has ])

read_as_itself : (options : WireOptions) (packet read : PacketContent) (a b c d : ℕ) → FitsFields packet → IsPacket options read (with_field a b c d packet) → read ≡ packet
unfolding header_bytes
read_as_itself options packet read a b c d fits is =
    let source : read.source_port ≡ packet.source_port = is.source_port ∙ from_be_bytes-to_be_bytes_2 packet.source_port fits.source_port in
    let destination : read.destination_port ≡ packet.destination_port = is.destination_port ∙ from_be_bytes-to_be_bytes_2 packet.destination_port fits.destination_port in
    let tag : read.verification_tag ≡ packet.verification_tag = is.verification_tag ∙ from_be_bytes-to_be_bytes_4 packet.verification_tag fits.verification_tag in
    let chunks : read.chunks ≡ packet.chunks = chunks_read_as_themselves packet.chunks read.chunks fits.chunks is.chunks in
    λ i. record { source_port = source i; destination_port = destination i; verification_tag = tag i; chunks = chunks i }

pub built_packet_reads_as_itself : BuiltPacketReadsAsItself
unfolding packet_bytes_of checksum_field
built_packet_reads_as_itself options true packet read fits is = read_as_itself options packet read _ _ _ _ fits is
built_packet_reads_as_itself options false packet read fits is = read_as_itself options packet read 0 0 0 0 fits is
