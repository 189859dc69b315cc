use Rattle.std.proofs.Common.{◌≡◌, ◌+◌, List, ◌++◌, ℕ, length, sym, ap, ◌∙◌, length-append, arith}
use Rattle.dcsctp_wire.specs.Content.{i_data_content}
use Rattle.dcsctp_wire.specs.Format.{padding_of}
use Rattle.dcsctp_wire.specs.Spelling.{zeros, data_flags, i_data_fields}
use Rattle.dcsctp_wire.proofs.Lengths.{length-other_bytes, length-i_data_fields}
use Rattle.dcsctp_wire_build.proofs.Appending.{fields_in_front}
use Rattle.dcsctp_wire_build.proofs.chunks.put_i_data.Goals as goal

pub overflow_cast-chunk : goal.overflow_cast-chunk
overflow_cast-chunk c =
    let fields = i_data_fields (i_data_content c.args.chunk.now) in
    omega (arith, length-other_bytes 64 (data_flags c.args.chunk.now.flags) (fields ++ c.args.chunk.now.payload.now), length-append fields c.args.chunk.now.payload.now, length-i_data_fields (i_data_content c.args.chunk.now))

pub put_padded-requires : goal.put_padded-requires
put_padded-requires c =
    let fields = i_data_fields (i_data_content c.args.chunk.now) in
    omega (arith, ap length c.i_data_front-front.ensures, length-other_bytes 64 (data_flags c.args.chunk.now.flags) (fields ++ c.args.chunk.now.payload.now), length-append fields c.args.chunk.now.payload.now, length-i_data_fields (i_data_content c.args.chunk.now))

pub returns-clause-items : goal.returns-clause-items
returns-clause-items c =
    let value = c.args.chunk.now.payload.now in
    let fields = i_data_fields (i_data_content c.args.chunk.now) in
    let len : 20 + length value ≡ 4 + length (fields ++ value) = omega (arith, length-append fields value, length-i_data_fields (i_data_content c.args.chunk.now)) in
    c.put_padded.ensures.items
    ∙ ap (λ (front : List ℕ). c.args.out.now.items ++ (front ++ value ++ zeros (padding_of (length front + length value)))) c.i_data_front-front.ensures
    ∙ ap (λ (x : List ℕ). c.args.out.now.items ++ x) (sym (fields_in_front 64 (data_flags c.args.chunk.now.flags) fields value (20 + length value) len))
