-- A written checksum is the checksum that is read.
use Rattle.std.proofs.Common.{◌≡◌, ℕ, ◌/◌, ◌%◌, ◌<◌, ◌^◌, ◌⊎◌, inl, inr, true, List, [], ◌∷◌, ◌++◌, length, take, drop, refl, sym, ap, ◌∙◌, append_assoc, length-append, arith}
use Rattle.std.specs.Int.{w32, to_le_bytes, from_le_bytes}
use Rattle.std.specs.List.{AllByRecursion}
use Rattle.std.proofs.lemmas.List.{take_at, drop_at}
use Rattle.std.proofs.lemmas.Nat.{xor_lt, from_le_bytes-to_le_bytes_4}
use Rattle.dcsctp_wire_checksum.specs.Crc32c.{polynomial, all_ones, bit_step, eight_bit_steps, byte_step, register_after, crc32c_of, packet_checksum_of}
use Rattle.dcsctp_wire.specs.Spelling.{zeros, packet_bytes_of, checksum_field}
use Rattle.dcsctp_wire.specs.ReadsBack.{IsByte}
use Rattle.dcsctp_wire_laws.proofs.InBytes.{both, in_zeros}
use Rattle.dcsctp_wire_checksum.proofs.Crc32cLemmas.{bit_step_even, bit_step_odd, parity}

-- ---- the checksum of bytes has 32 bits

bit_step_fits : (register : ℕ) → register < 2 ^ 32 → (register % 2 ≡ 0) ⊎ (register % 2 ≡ 1) → bit_step register < 2 ^ 32
bit_step_fits register fits (inl even) = rw (bit_step_even register even) (omega arith)
bit_step_fits register fits (inr odd) = rw (bit_step_odd register odd) (xor_lt 32 (register / 2) polynomial (omega arith) (omega arith))

step : (register : ℕ) → register < 2 ^ 32 → bit_step register < 2 ^ 32
step register fits = bit_step_fits register fits (parity register)

byte_step_fits : (register byte : ℕ) → register < 2 ^ 32 → IsByte byte → byte_step register byte < 2 ^ 32
unfolding byte_step eight_bit_steps
byte_step_fits register byte fits small =
    step _ (step _ (step _ (step _ (step _ (step _ (step _ (step _ (xor_lt 32 register byte fits (omega arith)))))))))

register_fits : (bytes : List ℕ) (register : ℕ) → register < 2 ^ 32 → AllByRecursion IsByte bytes → register_after register bytes < 2 ^ 32
unfolding register_after
register_fits [] register fits small = fits
register_fits (byte ∷ bytes) register fits small = register_fits bytes (byte_step register byte) (byte_step_fits register byte fits small.0) small.1

crc_fits : (bytes : List ℕ) → AllByRecursion IsByte bytes → crc32c_of bytes < 2 ^ 32
unfolding crc32c_of
crc_fits bytes small = xor_lt 32 (register_after all_ones bytes) all_ones (register_fits bytes all_ones (omega arith) small) (omega arith)

-- ---- the field and the checksum that is read

-- whatever the field holds
checksum_of : (header field body : List ℕ) → length header ≡ 8 → length field ≡ 4 → packet_checksum_of (header ++ field ++ body) ≡ crc32c_of (header ++ zeros 4 ++ body)
unfolding packet_checksum_of
checksum_of header field body eight four =
    let head : take 8 (header ++ field ++ body) ≡ header = ap (take 8) (append_assoc header field body) ∙ take_at header (field ++ body) 8 eight in
    let tail : drop 12 (header ++ field ++ body) ≡ body = drop_at (header ++ field) body 12 (omega (arith, length-append header field)) in
    ap (λ (x : List ℕ). crc32c_of (x ++ zeros 4 ++ drop 12 (header ++ field ++ body))) head
    ∙ ap (λ (x : List ℕ). crc32c_of (header ++ zeros 4 ++ x)) tail

pub field_reads_back : (header body : List ℕ) → length header ≡ 8 → AllByRecursion IsByte header → AllByRecursion IsByte body
    → from_le_bytes w32 (take 4 (drop 8 (packet_bytes_of true header body))) ≡ packet_checksum_of (packet_bytes_of true header body)
unfolding packet_bytes_of checksum_field
field_reads_back header body eight in_head in_body =
    let crc : ℕ = crc32c_of (header ++ zeros 4 ++ body) in
    let n : ℕ = packet_checksum_of (header ++ zeros 4 ++ body) in
    let n_is : n ≡ crc = checksum_of header (zeros 4) body eight refl in
    let small : crc < 2 ^ 32 = crc_fits (header ++ zeros 4 ++ body) (both (header ++ zeros 4) body (both header (zeros 4) in_head (in_zeros 4)) in_body) in
    let n_small : n < 2 ^ 32 = omega arith in
    ap (λ (x : List ℕ). from_le_bytes w32 (take 4 x)) (ap (drop 8) (append_assoc header (to_le_bytes w32 n) body) ∙ drop_at header (to_le_bytes w32 n ++ body) 8 eight)
    ∙ from_le_bytes-to_le_bytes_4 n n_small ∙ n_is ∙ sym (checksum_of header (to_le_bytes w32 n) body eight refl)
