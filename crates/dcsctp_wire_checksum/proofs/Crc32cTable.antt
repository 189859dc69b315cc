-- The lookup table of CRC32c holds what its definition gives. The checker computes the whole table once.
use Rattle.std.proofs.Common.{◌≡◌, ℕ, zero, suc, ◌+◌, ◌<◌, List, [], ◌∷◌, length, get_or, replicate, map, refl, sym, ap, ◌∙◌, arith, add-one, zero-add}
use Rattle.std.specs.List.{range_with_len}
use Rattle.std.proofs.lemmas.List.{get_or-map, length-map}
use Rattle.std.proofs.lemmas.List.FromFn.{get_or-range_with_len, length-range_with_len}
use Rattle.dcsctp_wire_checksum.specs.Crc32c.{bit_step, eight_bit_steps, register_after}
use Rattle.dcsctp_wire_checksum.specs.declared.table.TheConstants.{TABLE}
use Rattle.dcsctp_wire_checksum.proofs.Crc32cLemmas.{register_after_zero, register_after_none}

-- n rows below the given one, each the one above it after a byte of zero
rows_below : ℕ → List ℕ → List (List ℕ)
rows_below zero row = []
rows_below (suc n) row = map eight_bit_steps row ∷ rows_below n (map eight_bit_steps row)

table_is : TABLE ≡ rows_below 16 (range_with_len 0 256)
unfolding rows_below eight_bit_steps bit_step
table_is = refl

entry_below : (n k : ℕ) (row : List ℕ) (at : ℕ) (d : List ℕ) (e : ℕ) → k < n → at < length row → get_or (get_or (rows_below n row) k d) at e ≡ register_after (get_or row at 0) (replicate (suc k) 0)
unfolding rows_below
entry_below zero k row at d e within in_row = absurd (omega arith)
entry_below (suc n) zero row at d e within in_row =
    get_or-map eight_bit_steps row at 0 e in_row
    ∙ sym (register_after_zero (get_or row at 0) 0 ∙ register_after_none (eight_bit_steps (get_or row at 0)))
entry_below (suc n) (suc k) row at d e within in_row =
    entry_below n k (map eight_bit_steps row) at d e (omega arith) (rw length-map in_row)
    ∙ ap (λ w. register_after w (replicate (suc k) 0)) (get_or-map eight_bit_steps row at 0 0 in_row)
    ∙ sym (register_after_zero (get_or row at 0) (suc k))

pub table_entry : (zeros byte : ℕ) (d : List ℕ) (e : ℕ) → zeros < 16 → byte < 256 → get_or (get_or TABLE zeros d) byte e ≡ register_after byte (replicate (zeros + 1) 0)
table_entry zeros byte d e in_table small =
    ap (λ t. get_or (get_or t zeros d) byte e) table_is
    ∙ entry_below 16 zeros (range_with_len 0 256) byte d e in_table (rw length-range_with_len small)
    ∙ ap (λ w. register_after w (replicate (suc zeros) 0)) (get_or-range_with_len 0 256 byte 0 small ∙ zero-add byte)
    ∙ ap (λ n. register_after byte (replicate n 0)) (sym (add-one zeros))
