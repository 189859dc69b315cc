use Rattle.std.proofs.Common.{◌≡◌, ◌+◌, List, ◌++◌, ℕ, length, map, refl, ap, ◌∙◌, arith}
use Rattle.std.specs.List.{flat_map}
use Rattle.dcsctp_wire.specs.declared.parameter.Parameter.{Parameter}
use Rattle.dcsctp_wire.specs.Content.{parameter_content, init_content}
use Rattle.dcsctp_wire.specs.Spelling.{parameter_bytes, parameters_len, init_fields, parameter_chunk_bytes}
use Rattle.dcsctp_wire.proofs.Lengths.{length-list_bytes, length-init_fields, padded_parameters}
use Rattle.dcsctp_wire_build.proofs.Appending.{three_put}
use Rattle.dcsctp_wire_build.proofs.chunks.put_init.Goals as goal

abbrev len_of : List Parameter → ℕ
len_of parameters = parameters_len (map parameter_content parameters)

abbrev bytes_of : List Parameter → List ℕ
bytes_of parameters = flat_map parameter_bytes (map parameter_content parameters)

pub overflow_cast-len : goal.overflow_cast-len
overflow_cast-len c =
    let init = init_content c.args.init.now in
    omega (arith, ap len_of c.deref.ensures.value, length-list_bytes c.args.chunk_type 0 (init_fields init) init.parameters, length-init_fields init, padded_parameters init.parameters)

pub put-requires : goal.put-requires
put-requires c =
    let init = init_content c.args.init.now in
    omega (arith, ap length c.chunk_head-head.ensures, length-list_bytes c.args.chunk_type 0 (init_fields init) init.parameters, length-init_fields init, padded_parameters init.parameters)

pub put-requires-2 : goal.put-requires-2
put-requires-2 c =
    let init = init_content c.args.init.now in
    omega (arith, ap length c.chunk_head-head.ensures, ap length c.init_fields.ensures, length-list_bytes c.args.chunk_type 0 (init_fields init) init.parameters, length-init_fields init, padded_parameters init.parameters)

pub put_parameters-requires-clause-fits : goal.put_parameters-requires-clause-fits
put_parameters-requires-clause-fits c =
    let init = init_content c.args.init.now in
    omega (arith, ap (λ (ps : List Parameter). length (bytes_of ps)) c.deref-2.ensures.value, length-list_bytes c.args.chunk_type 0 (init_fields init) init.parameters, length-init_fields init, padded_parameters init.parameters)

pub put_parameters-requires-clause-room : goal.put_parameters-requires-clause-room
put_parameters-requires-clause-room c =
    let init = init_content c.args.init.now in
    omega (arith, ap length c.chunk_head-head.ensures, ap length c.init_fields.ensures, ap (λ (ps : List Parameter). length (bytes_of ps)) c.deref-2.ensures.value, length-list_bytes c.args.chunk_type 0 (init_fields init) init.parameters, length-init_fields init, padded_parameters init.parameters)

pub returns-clause-items : goal.returns-clause-items
unfolding parameter_chunk_bytes
returns-clause-items c =
    let init = init_content c.args.init.now in
    let parameters = init.parameters in
    let len : c.saturating_add-len.result ≡ 4 + length (init_fields init) + parameters_len parameters =
    omega (arith, ap len_of c.deref.ensures.value, length-list_bytes c.args.chunk_type 0 (init_fields init) parameters, length-init_fields init, padded_parameters parameters) in
    let put : c.put_parameters.new.out.items ≡ c.put-2.new.out.items ++ flat_map parameter_bytes parameters =
    c.put_parameters.ensures.items ∙ ap (λ (ps : List Parameter). c.put-2.new.out.items ++ bytes_of ps) c.deref-2.ensures.value in
    three_put c.args.out.now.items c.chunk_head-head.result c.init_fields.result (flat_map parameter_bytes parameters) c.put.new.out.items c.put-2.new.out.items c.put_parameters.new.out.items c.put.ensures.items c.put-2.ensures.items put
    ∙ rw (c.chunk_head-head.ensures, c.init_fields.ensures, len) refl
