-- One list after another.
use Rattle.std.proofs.Common.{◌≡◌, ℕ, ◌+◌, List, ◌∷◌, ◌++◌, length, sym, ap, ◌∙◌, append_assoc, length-append, arith}
use Rattle.std.specs.Int.{w16, to_be_bytes}
use Rattle.dcsctp_wire.specs.Format.{padding_of}
use Rattle.dcsctp_wire.specs.Spelling.{zeros, other_bytes}

-- the bytes once a was appended to the start, then b, and then c
pub three_put : (start a b c : List ℕ) (one two three : List ℕ) → one ≡ start ++ a → two ≡ one ++ b → three ≡ two ++ c → three ≡ start ++ (a ++ b ++ c)
three_put start a b c one two three h1 h2 h3 =
    h3 ∙ ap (λ (x : List ℕ). x ++ c) (h2 ∙ ap (λ (x : List ℕ). x ++ b) h1 ∙ append_assoc start a b) ∙ append_assoc start (a ++ b) c

-- A chunk whose value is fields and what follows them: the header and the fields come first.
pub fields_in_front : (chunk_type flags : ℕ) (fields value : List ℕ) (len : ℕ) → len ≡ 4 + length (fields ++ value)
    → other_bytes chunk_type flags (fields ++ value)
    ≡ ((chunk_type ∷ flags ∷ to_be_bytes w16 len) ++ fields) ++ value
    ++ zeros (padding_of (length ((chunk_type ∷ flags ∷ to_be_bytes w16 len) ++ fields) + length value))
unfolding other_bytes
fields_in_front chunk_type flags fields value len is =
    let front : List ℕ = (chunk_type ∷ flags ∷ to_be_bytes w16 len) ++ fields in
    let padding : padding_of (length (fields ++ value)) ≡ padding_of (length front + length value) = omega (arith, length-append fields value) in
    ap (λ (n : ℕ). chunk_type ∷ flags ∷ to_be_bytes w16 n ++ (fields ++ value) ++ zeros (padding_of (length (fields ++ value)))) (sym is)
    ∙ ap (λ (n : ℕ). chunk_type ∷ flags ∷ to_be_bytes w16 len ++ (fields ++ value) ++ zeros n) padding
