use Rattle.std.proofs.Common.{◌≡◌, ◌+◌, List, [], ◌++◌, ℕ, map, refl, ap, ◌∙◌, append_assoc, arith, length}
use Rattle.std.specs.List.{flat_map}
use Rattle.dcsctp_wire.specs.Content.{cause_content}
use Rattle.dcsctp_wire.specs.Spelling.{parameter_bytes, parameters_len, as_parameter, parameter_chunk_bytes}
use Rattle.dcsctp_wire.proofs.Lengths.{length-list_bytes, padded_parameters}
use Rattle.dcsctp_wire_build.proofs.chunks.put_cause_list.Goals as goal

pub overflow_cast-len : goal.overflow_cast-len
overflow_cast-len c =
    let causes = map as_parameter (map cause_content c.args.causes.now) in
    omega (arith, length-list_bytes c.args.chunk_type c.args.flags [] causes, padded_parameters causes)

pub put-requires : goal.put-requires
put-requires c =
    let causes = map as_parameter (map cause_content c.args.causes.now) in
    omega (arith, ap length c.chunk_head-head.ensures, length-list_bytes c.args.chunk_type c.args.flags [] causes)

pub put_causes-requires-clause-fits : goal.put_causes-requires-clause-fits
put_causes-requires-clause-fits c =
    let causes = map as_parameter (map cause_content c.args.causes.now) in
    omega (arith, length-list_bytes c.args.chunk_type c.args.flags [] causes)

pub put_causes-requires-clause-room : goal.put_causes-requires-clause-room
put_causes-requires-clause-room c =
    let causes = map as_parameter (map cause_content c.args.causes.now) in
    omega (arith, ap length c.chunk_head-head.ensures, length-list_bytes c.args.chunk_type c.args.flags [] causes)

pub returns-clause-items : goal.returns-clause-items
unfolding parameter_chunk_bytes
returns-clause-items c =
    let causes = map as_parameter (map cause_content c.args.causes.now) in
    let len : c.saturating_add-len.result ≡ 4 + parameters_len causes = omega (arith, length-list_bytes c.args.chunk_type c.args.flags [] causes, padded_parameters causes) in
    c.put_causes.ensures.items
    ∙ ap (λ (x : List ℕ). x ++ flat_map parameter_bytes causes) c.put.ensures.items
    ∙ append_assoc c.args.out.now.items c.chunk_head-head.result (flat_map parameter_bytes causes)
    ∙ rw (c.chunk_head-head.ensures, len) refl
