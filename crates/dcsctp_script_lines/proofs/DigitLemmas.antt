-- The digits of a text, from its front on.
use Rattle.std.proofs.Common.{◌≡◌, ◌==◌, ℕ, ◌+◌, ◌<◌, Bool, true, false, cond, take, get_or, length, List, [], ◌∷◌, ◌++◌, refl, ap, ◌∙◌}
use Rattle.std.proofs.lemmas.List.{take_more}
use Rattle.dcsctp_script_lines.specs.Bytes.{text_without_spaces}

abbrev kept : Bool → ℕ → List ℕ → List ℕ
kept is_space byte digits = cond is_space digits (byte ∷ digits)

kept_append : (is_space : Bool) (byte : ℕ) (digits others all : List ℕ) → all ≡ digits ++ others → kept is_space byte all ≡ kept is_space byte digits ++ others
kept_append true byte digits others all is = is
kept_append false byte digits others all is = ap (λ (l : List ℕ). byte ∷ l) is

text_without_spaces-append : (text more : List ℕ) → text_without_spaces (text ++ more) ≡ text_without_spaces text ++ text_without_spaces more
text_without_spaces-append [] more = refl
text_without_spaces-append (byte ∷ text) more = kept_append (byte == 32) byte (text_without_spaces text) (text_without_spaces more) (text_without_spaces (text ++ more)) (text_without_spaces-append text more)

pub digits_more : (text : List ℕ) (i default : ℕ) → i < length text → text_without_spaces (take (i + 1) text) ≡ text_without_spaces (take i text) ++ text_without_spaces (get_or text i default ∷ [])
digits_more text i default within =
    ap text_without_spaces (take_more text i default within) ∙ text_without_spaces-append (take i text) (get_or text i default ∷ [])
