-- A packet that grows, and its checksum.
use Rattle.std.proofs.Common.{◌≡◌, ℕ, ◌≤◌, nat_lt, true, false, List, ◌++◌, length, take, drop, sym, ap, ◌∙◌, append_assoc, arith}
use Rattle.std.specs.Int.{w32, to_le_bytes}
use Rattle.std.proofs.lemmas.List.{take_at, drop-append-le}
use Rattle.dcsctp_wire_checksum.specs.Crc32c.{packet_checksum_of}
use Rattle.dcsctp_wire.specs.Spelling.{zeros, checksum_field, packet_bytes_of}
use Rattle.dcsctp_wire_build.specs.Checksums.{checksum_filled}

-- more bytes after the first 12
pub front_stays : (header bytes more now : List ℕ) → bytes ≡ header ++ zeros 4 ++ drop 12 bytes → 12 ≤ length bytes → now ≡ bytes ++ more → now ≡ header ++ zeros 4 ++ drop 12 now
front_stays header bytes more now front long e =
    let rest : drop 12 now ≡ drop 12 bytes ++ more = ap (drop 12) e ∙ drop-append-le 12 bytes more long in
    e ∙ ap (λ (x : List ℕ). x ++ more) front ∙ append_assoc (header ++ zeros 4) (drop 12 bytes) more ∙ ap (λ (x : List ℕ). header ++ zeros 4 ++ x) (sym rest)

pub filled_is : (header bytes : List ℕ) → bytes ≡ header ++ zeros 4 ++ drop 12 bytes → length header ≡ 8 → 12 ≤ length bytes
    → checksum_filled bytes ≡ packet_bytes_of true header (drop 12 bytes)
unfolding packet_bytes_of checksum_field
filled_is header bytes front eight long =
    let whole : nat_lt (length bytes) 12 ≡ false = grind arith in
    let head : take 8 bytes ≡ header = ap (take 8) (front ∙ append_assoc header (zeros 4) (drop 12 bytes)) ∙ take_at header (zeros 4 ++ drop 12 bytes) 8 eight in
    rw whole
    (ap (λ (x : List ℕ). x ++ to_le_bytes w32 (packet_checksum_of bytes) ++ drop 12 bytes) head
    ∙ ap (λ (x : List ℕ). header ++ to_le_bytes w32 (packet_checksum_of x) ++ drop 12 bytes) front)

pub without_checksum : (header bytes : List ℕ) → bytes ≡ header ++ zeros 4 ++ drop 12 bytes → bytes ≡ packet_bytes_of false header (drop 12 bytes)
unfolding packet_bytes_of checksum_field
without_checksum header bytes front = front
