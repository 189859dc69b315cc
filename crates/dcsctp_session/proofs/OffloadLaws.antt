-- A packet is read as if its checksum were right.
use Rattle.std.proofs.Common.{◌≡◌, ℕ, ◌<◌, ◌≤◌, nat_lt, true, false, List, [], ◌∷◌, length, refl, sym, subst, arith}
use Rattle.std.specs.Prelude.{◌↔◌}
use Rattle.std.specs.List.{AllByRecursion}
use Rattle.std.proofs.lemmas.Bool.{eq-eqb, or_right}
use Rattle.dcsctp_wire_laws.proofs.ReadsBackChecksum.{field_reads_back}
use Rattle.dcsctp_wire_checksum.specs.Crc32c.{packet_checksum_of}
use Rattle.dcsctp_core.specs.wire.Content.{PacketContent}
use Rattle.dcsctp_core.specs.wire.Format.{IsPacket}
use Rattle.dcsctp_core.specs.wire.Spelling.{checksum_field, packet_bytes_of}
use Rattle.dcsctp_core.specs.wire.ReadsBack.{IsByte}
use Rattle.dcsctp_core.specs.wire.declared.packet.WireOptions.{WireOptions}
use Rattle.dcsctp_core.specs.wire_build.Checksums.{checksum_filled}
use Rattle.dcsctp_session.specs.Offload.{options_without_checks, ReadsAsChecked}

-- A header with any checksum and what follows it, with the right one: so a packet is spelled.
filled_is : (a b c d e f g h i j k l : ℕ) (rest : List ℕ) → checksum_filled (a ∷ b ∷ c ∷ d ∷ e ∷ f ∷ g ∷ h ∷ i ∷ j ∷ k ∷ l ∷ rest) ≡ packet_bytes_of true (a ∷ b ∷ c ∷ d ∷ e ∷ f ∷ g ∷ h ∷ []) rest
unfolding packet_bytes_of checksum_field packet_checksum_of
filled_is a b c d e f g h i j k l rest =
    let long : nat_lt (length (a ∷ b ∷ c ∷ d ∷ e ∷ f ∷ g ∷ h ∷ i ∷ j ∷ k ∷ l ∷ rest)) 12 ≡ false = grind arith in
    rw long refl

checked : (options : WireOptions) (packet : PacketContent) (a b c d e f g h i j k l : ℕ) (rest : List ℕ) → AllByRecursion IsByte (a ∷ b ∷ c ∷ d ∷ e ∷ f ∷ g ∷ h ∷ i ∷ j ∷ k ∷ l ∷ rest)
    → IsPacket (options_without_checks options) packet (a ∷ b ∷ c ∷ d ∷ e ∷ f ∷ g ∷ h ∷ i ∷ j ∷ k ∷ l ∷ rest) → IsPacket options packet (packet_bytes_of true (a ∷ b ∷ c ∷ d ∷ e ∷ f ∷ g ∷ h ∷ []) rest)
unfolding packet_bytes_of checksum_field
checked options packet a b c d e f g h i j k l rest s p =
    let in_header : AllByRecursion IsByte (a ∷ b ∷ c ∷ d ∷ e ∷ f ∷ g ∷ h ∷ []) = (s.0, (s.1.0, (s.1.1.0, (s.1.1.1.0, (s.1.1.1.1.0, (s.1.1.1.1.1.0, (s.1.1.1.1.1.1.0, (s.1.1.1.1.1.1.1.0, tt)))))))) in
    record {
      long_enough = omega arith;
      source_port = p.source_port;
      destination_port = p.destination_port;
      verification_tag = p.verification_tag;
      to_this_port = p.to_this_port;
      checked = or_right _ _ (eq-eqb _ _ (field_reads_back (a ∷ b ∷ c ∷ d ∷ e ∷ f ∷ g ∷ h ∷ []) rest refl in_header s.1.1.1.1.1.1.1.1.1.1.1.1));
      chunks = p.chunks;
      echo_in_front = p.echo_in_front;
    }

not_looked_at : (options : WireOptions) (packet : PacketContent) (a b c d e f g h i j k l : ℕ) (rest : List ℕ)
    → IsPacket options packet (packet_bytes_of true (a ∷ b ∷ c ∷ d ∷ e ∷ f ∷ g ∷ h ∷ []) rest) → IsPacket (options_without_checks options) packet (a ∷ b ∷ c ∷ d ∷ e ∷ f ∷ g ∷ h ∷ i ∷ j ∷ k ∷ l ∷ rest)
unfolding packet_bytes_of checksum_field
not_looked_at options packet a b c d e f g h i j k l rest p =
    record {
      long_enough = omega arith;
      source_port = p.source_port;
      destination_port = p.destination_port;
      verification_tag = p.verification_tag;
      to_this_port = p.to_this_port;
      checked = refl;
      chunks = p.chunks;
      echo_in_front = p.echo_in_front;
    }

-- Fewer than 12 bytes are no packet.
short : (options : WireOptions) (packet : PacketContent) (count : ℕ) (A B : Type 0) → count < 12 → (A → 12 ≤ count) → (B → 12 ≤ count) → A ↔ B
short options packet count A B few of_a of_b = (λ a. absurd (none (of_a a)), λ b. absurd (none (of_b b)))
  where
    none : 12 ≤ count → ⊥
    none long = omega arith

pub reads_as_checked : ReadsAsChecked
reads_as_checked options packet (a ∷ b ∷ c ∷ d ∷ e ∷ f ∷ g ∷ h ∷ i ∷ j ∷ k ∷ l ∷ rest) s = (
  λ p. subst (IsPacket options packet) (sym (filled_is a b c d e f g h i j k l rest)) (checked options packet a b c d e f g h i j k l rest s p),
  λ p. not_looked_at options packet a b c d e f g h i j k l rest (subst (IsPacket options packet) (filled_is a b c d e f g h i j k l rest) p),
)
reads_as_checked options packet [] s = short options packet 0 _ _ (omega arith) (λ p. p.long_enough) (λ p. p.long_enough)
reads_as_checked options packet (a ∷ []) s = short options packet 1 _ _ (omega arith) (λ p. p.long_enough) (λ p. p.long_enough)
reads_as_checked options packet (a ∷ b ∷ []) s = short options packet 2 _ _ (omega arith) (λ p. p.long_enough) (λ p. p.long_enough)
reads_as_checked options packet (a ∷ b ∷ c ∷ []) s = short options packet 3 _ _ (omega arith) (λ p. p.long_enough) (λ p. p.long_enough)
reads_as_checked options packet (a ∷ b ∷ c ∷ d ∷ []) s = short options packet 4 _ _ (omega arith) (λ p. p.long_enough) (λ p. p.long_enough)
reads_as_checked options packet (a ∷ b ∷ c ∷ d ∷ e ∷ []) s = short options packet 5 _ _ (omega arith) (λ p. p.long_enough) (λ p. p.long_enough)
reads_as_checked options packet (a ∷ b ∷ c ∷ d ∷ e ∷ f ∷ []) s = short options packet 6 _ _ (omega arith) (λ p. p.long_enough) (λ p. p.long_enough)
reads_as_checked options packet (a ∷ b ∷ c ∷ d ∷ e ∷ f ∷ g ∷ []) s = short options packet 7 _ _ (omega arith) (λ p. p.long_enough) (λ p. p.long_enough)
reads_as_checked options packet (a ∷ b ∷ c ∷ d ∷ e ∷ f ∷ g ∷ h ∷ []) s = short options packet 8 _ _ (omega arith) (λ p. p.long_enough) (λ p. p.long_enough)
reads_as_checked options packet (a ∷ b ∷ c ∷ d ∷ e ∷ f ∷ g ∷ h ∷ i ∷ []) s = short options packet 9 _ _ (omega arith) (λ p. p.long_enough) (λ p. p.long_enough)
reads_as_checked options packet (a ∷ b ∷ c ∷ d ∷ e ∷ f ∷ g ∷ h ∷ i ∷ j ∷ []) s = short options packet 10 _ _ (omega arith) (λ p. p.long_enough) (λ p. p.long_enough)
reads_as_checked options packet (a ∷ b ∷ c ∷ d ∷ e ∷ f ∷ g ∷ h ∷ i ∷ j ∷ k ∷ []) s = short options packet 11 _ _ (omega arith) (λ p. p.long_enough) (λ p. p.long_enough)
