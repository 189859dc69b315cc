use Rattle.std.proofs.Common.{◌≡◌, ℕ, ◌+◌, take, get_or, List, [], ◌∷◌, ◌++◌, sym, subst, ap, ◌∙◌}
use Rattle.dcsctp_script_lines.specs.Bytes.{text_without_spaces}
use Rattle.dcsctp_script_lines.proofs.DigitLemmas.{digits_more}
use Rattle.dcsctp_script_lines.proofs.bytes.without_spaces.Goals as goal

pub loop-byte-preserved : goal.loop-byte-preserved
loop-byte-preserved c =
    let text : List ℕ = c.as_bytes-byte-items.result.now in
    let i : ℕ = c.loop-byte.byte-index in
    let before : c.loop-byte.digits.items ≡ text_without_spaces (take i text) =
    subst (λ (t : List ℕ). c.loop-byte.digits.items ≡ text_without_spaces (take i t)) (sym c.as_bytes-byte-items.ensures.value) c.loop-byte.invariant in
    subst (λ (t : List ℕ). c.keep_digit.new.digits.items ≡ text_without_spaces (take (i + 1) t)) c.as_bytes-byte-items.ensures.value
    (c.in_ok-keep_digit.ensures ∙ ap (λ (l : List ℕ). l ++ text_without_spaces (get_or text i 0 ∷ [])) before ∙ sym (digits_more text i 0 c.loop-byte-test.true))
