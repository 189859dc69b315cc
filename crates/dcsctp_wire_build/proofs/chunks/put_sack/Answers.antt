use Rattle.std.proofs.Common.{◌≡◌, ◌+◌, List, ◌∷◌, ◌++◌, ℕ, length, sym, ap, ◌∙◌, append_assoc, length-append, arith}
use Rattle.std.specs.Int.{w16, to_be_bytes}
use Rattle.dcsctp_wire.specs.Content.{sack_content}
use Rattle.dcsctp_wire.specs.Format.{padding_of}
use Rattle.dcsctp_wire.specs.Spelling.{zeros, sack_fields}
use Rattle.dcsctp_wire.proofs.Lengths.{length-other_bytes, length-sack_fields}
use Rattle.dcsctp_wire_build.proofs.Appending.{fields_in_front}
use Rattle.dcsctp_wire_build.proofs.chunks.put_sack.Goals as goal

pub overflow_add-len-2 : goal.overflow_add-len-2
overflow_add-len-2 c =
    let chunk = sack_content c.args.chunk.now in
    let lists = chunk.gap_ack_blocks ++ chunk.duplicate_tsns in
    omega (arith, length-other_bytes 3 0 (sack_fields chunk ++ lists), length-append (sack_fields chunk) lists, length-append chunk.gap_ack_blocks chunk.duplicate_tsns, length-sack_fields chunk)

pub overflow_cast-blocks : goal.overflow_cast-blocks
overflow_cast-blocks c =
    let chunk = sack_content c.args.chunk.now in
    let lists = chunk.gap_ack_blocks ++ chunk.duplicate_tsns in
    omega (arith, length-other_bytes 3 0 (sack_fields chunk ++ lists), length-append (sack_fields chunk) lists, length-append chunk.gap_ack_blocks chunk.duplicate_tsns, length-sack_fields chunk)

pub overflow_cast-duplicates : goal.overflow_cast-duplicates
overflow_cast-duplicates c =
    let chunk = sack_content c.args.chunk.now in
    let lists = chunk.gap_ack_blocks ++ chunk.duplicate_tsns in
    omega (arith, length-other_bytes 3 0 (sack_fields chunk ++ lists), length-append (sack_fields chunk) lists, length-append chunk.gap_ack_blocks chunk.duplicate_tsns, length-sack_fields chunk)

pub overflow_cast-len : goal.overflow_cast-len
overflow_cast-len c =
    let chunk = sack_content c.args.chunk.now in
    let lists = chunk.gap_ack_blocks ++ chunk.duplicate_tsns in
    omega (arith, length-other_bytes 3 0 (sack_fields chunk ++ lists), length-append (sack_fields chunk) lists, length-append chunk.gap_ack_blocks chunk.duplicate_tsns, length-sack_fields chunk)

pub put-requires : goal.put-requires
put-requires c =
    let chunk = sack_content c.args.chunk.now in
    let lists = chunk.gap_ack_blocks ++ chunk.duplicate_tsns in
    omega (arith, ap length c.sack_front.ensures, length-other_bytes 3 0 (sack_fields chunk ++ lists), length-append (sack_fields chunk) lists, length-append chunk.gap_ack_blocks chunk.duplicate_tsns, length-sack_fields chunk)

pub put_padded-requires : goal.put_padded-requires
put_padded-requires c =
    let chunk = sack_content c.args.chunk.now in
    let lists = chunk.gap_ack_blocks ++ chunk.duplicate_tsns in
    omega (arith, ap length c.sack_front.ensures, length-other_bytes 3 0 (sack_fields chunk ++ lists), length-append (sack_fields chunk) lists, length-append chunk.gap_ack_blocks chunk.duplicate_tsns, length-sack_fields chunk)

pub returns-clause-items : goal.returns-clause-items
unfolding sack_fields
returns-clause-items c =
    let chunk = sack_content c.args.chunk.now in
    let fields = sack_fields chunk in
    let lists = chunk.gap_ack_blocks ++ chunk.duplicate_tsns in
    let n = 16 + length chunk.gap_ack_blocks + length chunk.duplicate_tsns in
    let len : n ≡ 4 + length (fields ++ lists) = omega (arith, length-append chunk.gap_ack_blocks chunk.duplicate_tsns) in
    let front : List ℕ = (3 ∷ 0 ∷ to_be_bytes w16 n) ++ fields in
    let padding : padding_of (length chunk.gap_ack_blocks + length chunk.duplicate_tsns) ≡ padding_of (length front + length lists) =
    omega (arith, length-append chunk.gap_ack_blocks chunk.duplicate_tsns) in
    let out = c.args.out.now.items in
    c.put_padded.ensures.items
    ∙ ap (λ (x : List ℕ). x ++ (lists ++ zeros (padding_of (length chunk.gap_ack_blocks + length chunk.duplicate_tsns)))) (c.put.ensures.items ∙ ap (λ (x : List ℕ). out ++ x) c.sack_front.ensures)
    ∙ ap (λ (p : ℕ). (out ++ front) ++ (lists ++ zeros p)) padding
    ∙ append_assoc out front (lists ++ zeros (padding_of (length front + length lists)))
    ∙ ap (λ (x : List ℕ). out ++ x) (sym (append_assoc front lists (zeros (padding_of (length front + length lists)))) ∙ sym (fields_in_front 3 0 fields lists n len))
