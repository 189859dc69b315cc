use Rattle.std.proofs.Common.{◌≡◌, List, [], ◌++◌, ℕ, length, refl, ap, ◌∙◌, arith}
use Rattle.dcsctp_wire.specs.Content.{reconfiguration_response, unknown_parameter}
use Rattle.dcsctp_wire.specs.Spelling.{parameter_bytes}
use Rattle.dcsctp_wire_build.proofs.parameters.put_response.Goals as goal

pub put_with_fields-requires-clause-room : goal.put_with_fields-requires-clause-room
unfolding parameter_bytes
put_with_fields-requires-clause-room c =
    let response = c.args.response.now in
    let same : parameter_bytes (unknown_parameter 16 (c.two_numbers-fields.result ++ [])) ≡ parameter_bytes (reconfiguration_response response.response_seq_nbr response.result response.next_tsns) =
    rw (c.two_numbers-fields.ensures, c.code.ensures, c.in-None.is) refl in
    omega (arith, ap length same)

pub put_with_fields-requires-in-Some-clause-room : goal.put_with_fields-requires-in-Some-clause-room
unfolding parameter_bytes
put_with_fields-requires-in-Some-clause-room c =
    let response = c.args.response.now in
    let same : parameter_bytes (unknown_parameter 16 (c.two_numbers-fields.result ++ c.two_numbers-next.result)) ≡ parameter_bytes (reconfiguration_response response.response_seq_nbr response.result response.next_tsns) =
    rw (c.two_numbers-fields.ensures, c.two_numbers-next.ensures, c.code.ensures, c.in-Some.is) refl in
    omega (arith, ap length same)

pub returns-in-None-clause-items : goal.returns-in-None-clause-items
unfolding parameter_bytes
returns-in-None-clause-items c =
    let response = c.args.response.now in
    let same : parameter_bytes (unknown_parameter 16 (c.two_numbers-fields.result ++ [])) ≡ parameter_bytes (reconfiguration_response response.response_seq_nbr response.result response.next_tsns) =
    rw (c.two_numbers-fields.ensures, c.code.ensures, c.in-None.is) refl in
    c.put_with_fields.ensures.items ∙ ap (λ (x : List ℕ). c.args.out.now.items ++ x) same

pub returns-in-Some-clause-items : goal.returns-in-Some-clause-items
unfolding parameter_bytes
returns-in-Some-clause-items c =
    let response = c.args.response.now in
    let same : parameter_bytes (unknown_parameter 16 (c.two_numbers-fields.result ++ c.two_numbers-next.result)) ≡ parameter_bytes (reconfiguration_response response.response_seq_nbr response.result response.next_tsns) =
    rw (c.two_numbers-fields.ensures, c.two_numbers-next.ensures, c.code.ensures, c.in-Some.is) refl in
    c.put_with_fields-in-Some.ensures.items ∙ ap (λ (x : List ℕ). c.args.out.now.items ++ x) same
