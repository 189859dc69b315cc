use Rattle.std.proofs.Common.{◌≡◌, ℕ, ◌+◌, List, ◌++◌, length, ap, ◌∙◌, append_assoc, length-append, arith}
use Rattle.std.specs.Int.{w16, to_be_bytes}
use Rattle.dcsctp_wire.specs.Format.{padding_of}
use Rattle.dcsctp_wire.specs.Spelling.{zeros, parameter_bytes}
use Rattle.dcsctp_wire_build.proofs.parameters.put_with_fields.Goals as goal

pub returns-clause-items : goal.returns-clause-items
unfolding parameter_bytes
returns-clause-items c =
    let out = c.args.out.now.items in
    let fields = c.args.fields.now in
    let value = c.args.value.now in
    let len : ℕ = 4 + length (fields ++ value) in
    let first : List ℕ = to_be_bytes w16 c.args.parameter_type in
    let same : 4 + length fields + length value ≡ len = omega (arith, length-append fields value) in
    let head : c.parameter_head-head.result ≡ first ++ to_be_bytes w16 len = c.parameter_head-head.ensures ∙ ap (λ (n : ℕ). first ++ to_be_bytes w16 n) same in
    let padding : padding_of (length fields + length value) ≡ padding_of len = omega (arith, length-append fields value) in
    let tail : List ℕ = (fields ++ value) ++ zeros (padding_of (length fields + length value)) in
    let tail_is : tail ≡ (fields ++ value) ++ zeros (padding_of len) = ap (λ (n : ℕ). (fields ++ value) ++ zeros n) padding in
    c.put_padded.ensures.items ∙ ap (λ (x : List ℕ). x ++ tail) c.put.ensures.items ∙ append_assoc out c.parameter_head-head.result tail
    ∙ ap (λ (x : List ℕ). out ++ (x ++ tail)) head ∙ ap (λ (x : List ℕ). out ++ (first ++ to_be_bytes w16 len ++ x)) tail_is
