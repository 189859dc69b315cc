use Rattle.std.proofs.Common.{◌≡◌, ◌+◌, List, ◌++◌, ℕ, length, sym, ap, ◌∙◌, length-append, arith}
use Rattle.std.specs.Int.{w32, to_be_bytes}
use Rattle.dcsctp_wire.specs.Format.{padding_of}
use Rattle.dcsctp_wire.specs.Spelling.{zeros}
use Rattle.dcsctp_wire.proofs.Lengths.{length-other_bytes}
use Rattle.dcsctp_wire_build.proofs.Appending.{fields_in_front}
use Rattle.dcsctp_wire_build.proofs.chunks.put_forward.Goals as goal

pub overflow_cast-streams : goal.overflow_cast-streams
overflow_cast-streams c =
    let fields = to_be_bytes w32 c.args.tsn in
    omega (arith, length-other_bytes c.args.chunk_type 0 (fields ++ c.args.streams.now), length-append fields c.args.streams.now)

pub put_padded-requires : goal.put_padded-requires
put_padded-requires c =
    let fields = to_be_bytes w32 c.args.tsn in
    omega (arith, ap length c.forward_front-front.ensures, length-other_bytes c.args.chunk_type 0 (fields ++ c.args.streams.now), length-append fields c.args.streams.now)

pub returns-clause-items : goal.returns-clause-items
returns-clause-items c =
    let value = c.args.streams.now in
    let fields = to_be_bytes w32 c.args.tsn in
    let len : 8 + length value ≡ 4 + length (fields ++ value) = omega (arith, length-append fields value) in
    c.put_padded.ensures.items
    ∙ ap (λ (front : List ℕ). c.args.out.now.items ++ (front ++ value ++ zeros (padding_of (length front + length value)))) c.forward_front-front.ensures
    ∙ ap (λ (x : List ℕ). c.args.out.now.items ++ x) (sym (fields_in_front c.args.chunk_type 0 fields value (8 + length value) len))
