-- Bytes in a line of a script, by hexadecimal digits.
use Rattle.std.specs.Prelude.{◌≡◌, ◌≢◌, ◌==◌, ◌⊎◌, ℕ, Option, Some, None, Result, Ok, Err, List, [], ◌∷◌, Vec, codes, if◌then◌else◌}
use Rattle.std.specs.declared.alloc.Global.{Global}
use Rattle.hex.specs.Hex.{decode_of}

-- a text without its spaces
abbrev pub text_without_spaces : List ℕ → List ℕ
text_without_spaces [] = []
text_without_spaces (byte ∷ text) = if byte == 32 then text_without_spaces text else byte ∷ text_without_spaces text

-- no digits at all, or others than an even number of hexadecimal ones; nor the sign for no bytes
pub record WritesNone (digits : List ℕ) : Type 0 where
  pub no_sign : digits ≢ codes "-"
  pub no_bytes : (digits ≡ []) ⊎ ((bytes : List ℕ) → decode_of digits ≢ Ok bytes)

-- the sign for no bytes, or the digits of these
abbrev pub WritesBytes : List ℕ → List ℕ → Type 0
WritesBytes digits bytes = ((digits ≡ codes "-") × (bytes ≡ [])) ⊎ ((digits ≢ []) × (decode_of digits ≡ Ok bytes))

-- The bytes are read if digits write them; or an allocation failed.
abbrev pub ReadsBytes : {E : Type 0} → List ℕ → Result (Option (Vec ℕ Global)) E → Type 0
ReadsBytes digits (Ok None) = WritesNone digits
ReadsBytes digits (Ok (Some bytes)) = WritesBytes digits bytes.items
ReadsBytes digits (Err error) = Unit {0}
