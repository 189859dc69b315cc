-- The frame of a header, a value and its padding, as they are written.
use Rattle.std.proofs.Common.{◌≡◌, ℕ, ◌+◌, ◌-◌, ◌≤◌, ◌<◌, ◌^◌, false, ltb, List, ◌∷◌, ◌++◌, length, take, drop, Some, refl, ap, ◌∙◌, length-append, arith}
use Rattle.std.specs.Int.{w16, to_be_bytes}
use Rattle.std.proofs.Math.Seq.{drop-append-add}
use Rattle.std.proofs.lemmas.Bool.{le-ltb}
use Rattle.std.proofs.lemmas.List.{take_at}
use Rattle.std.proofs.lemmas.Nat.{from_be_bytes-to_be_bytes_2}
use Rattle.dcsctp_wire.specs.Fields.{u16_at}
use Rattle.dcsctp_wire.specs.Format.{padding_of, leading_frame}

-- a length within its container
frame_with : (bytes : List ℕ) (len : ℕ) → u16_at 2 bytes ≡ len → 4 ≤ len → len ≤ length bytes
    → leading_frame bytes ≡ Some (record { value = take (len - 4) (drop 4 bytes); rest = drop (len + padding_of len) bytes })
unfolding leading_frame
frame_with bytes len is least most =
    let header : ltb (length bytes) 4 ≡ false = le-ltb (length bytes) 4 (omega arith) in
    let large : ltb len 4 ≡ false = le-ltb len 4 least in
    let within : ltb (length bytes) len ≡ false = le-ltb (length bytes) len most in
    rw (is, header, large, within) refl

-- what follows a value is left, once its padding is dropped
pub frame_behind : (first second len : ℕ) (value behind rest : List ℕ) → len ≡ 4 + length value → len < 2 ^ 16 → drop (padding_of len) behind ≡ rest
    → leading_frame (first ∷ second ∷ to_be_bytes w16 len ++ value ++ behind) ≡ Some (record { value = value; rest = rest })
frame_behind first second len value behind rest is fits left =
    let front : List ℕ = first ∷ second ∷ to_be_bytes w16 len ++ value in
    let value_is : take (len - 4) (value ++ behind) ≡ value = take_at value behind (len - 4) (omega arith) in
    let long : len ≡ length front = omega arith in
    let rest_is : drop (len + padding_of len) (front ++ behind) ≡ rest =
    ap (λ (n : ℕ). drop (n + padding_of len) (front ++ behind)) long ∙ drop-append-add front behind (padding_of len) ∙ left in
    frame_with (front ++ behind) len (from_be_bytes-to_be_bytes_2 len fits) (omega arith) (omega (arith, length-append value behind))
    ∙ (λ i. Some (record { value = value_is i; rest = rest_is i }))
