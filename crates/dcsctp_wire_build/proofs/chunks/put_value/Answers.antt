use Rattle.std.proofs.Common.{◌+◌, List, [], ◌++◌, ℕ, length, refl, sym, ap, ◌∙◌, arith}
use Rattle.dcsctp_wire.specs.Format.{padding_of}
use Rattle.dcsctp_wire.specs.Spelling.{zeros}
use Rattle.dcsctp_wire.proofs.Lengths.{length-other_bytes}
use Rattle.dcsctp_wire_build.proofs.Appending.{fields_in_front}
use Rattle.dcsctp_wire_build.proofs.chunks.put_value.Goals as goal

pub overflow_cast-len : goal.overflow_cast-len
overflow_cast-len c = omega (arith, length-other_bytes c.args.chunk_type c.args.flags c.args.value.now)

pub put_padded-requires : goal.put_padded-requires
put_padded-requires c = omega (arith, ap length c.chunk_head-head.ensures, length-other_bytes c.args.chunk_type c.args.flags c.args.value.now)

pub returns-clause-items : goal.returns-clause-items
returns-clause-items c =
    let value = c.args.value.now in
    c.put_padded.ensures.items
    ∙ ap (λ (front : List ℕ). c.args.out.now.items ++ (front ++ value ++ zeros (padding_of (length front + length value)))) c.chunk_head-head.ensures
    ∙ ap (λ (x : List ℕ). c.args.out.now.items ++ x) (sym (fields_in_front c.args.chunk_type c.args.flags [] value (4 + length value) refl))
