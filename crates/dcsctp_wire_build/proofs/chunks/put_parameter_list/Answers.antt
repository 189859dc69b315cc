use Rattle.std.proofs.Common.{◌≡◌, ◌+◌, List, [], ◌++◌, ℕ, map, refl, ap, ◌∙◌, append_assoc, arith, length}
use Rattle.std.specs.List.{flat_map}
use Rattle.dcsctp_wire.specs.Content.{parameter_content}
use Rattle.dcsctp_wire.specs.Spelling.{parameter_bytes, parameters_len, parameter_chunk_bytes}
use Rattle.dcsctp_wire.proofs.Lengths.{length-list_bytes, padded_parameters}
use Rattle.dcsctp_wire_build.proofs.chunks.put_parameter_list.Goals as goal

pub overflow_cast-len : goal.overflow_cast-len
overflow_cast-len c =
    let parameters = map parameter_content c.args.parameters.now in
    omega (arith, length-list_bytes c.args.chunk_type 0 [] parameters, padded_parameters parameters)

pub put-requires : goal.put-requires
put-requires c =
    let parameters = map parameter_content c.args.parameters.now in
    omega (arith, ap length c.chunk_head-head.ensures, length-list_bytes c.args.chunk_type 0 [] parameters)

pub put_parameters-requires-clause-fits : goal.put_parameters-requires-clause-fits
put_parameters-requires-clause-fits c =
    let parameters = map parameter_content c.args.parameters.now in
    omega (arith, length-list_bytes c.args.chunk_type 0 [] parameters)

pub put_parameters-requires-clause-room : goal.put_parameters-requires-clause-room
put_parameters-requires-clause-room c =
    let parameters = map parameter_content c.args.parameters.now in
    omega (arith, ap length c.chunk_head-head.ensures, length-list_bytes c.args.chunk_type 0 [] parameters)

pub returns-clause-items : goal.returns-clause-items
unfolding parameter_chunk_bytes
returns-clause-items c =
    let parameters = map parameter_content c.args.parameters.now in
    let len : c.saturating_add-len.result ≡ 4 + parameters_len parameters = omega (arith, length-list_bytes c.args.chunk_type 0 [] parameters, padded_parameters parameters) in
    c.put_parameters.ensures.items
    ∙ ap (λ (x : List ℕ). x ++ flat_map parameter_bytes parameters) c.put.ensures.items
    ∙ append_assoc c.args.out.now.items c.chunk_head-head.result (flat_map parameter_bytes parameters)
    ∙ rw (c.chunk_head-head.ensures, len) refl
