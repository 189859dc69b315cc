-- The fields of a snapshot as bytes: how each kind is written, and how it is read from the front of
-- bytes, with what it leaves.
use Rattle.std.specs.Prelude.{ℕ, zero, suc, ℤ, Bool, true, false, List, [], ◌∷◌, ◌++◌, length, take, drop, Option, Some, None, nat_lt, if◌then◌else◌}
use Rattle.std.specs.List.{flat_map}
use Rattle.std.specs.Int.{Width, w32, w64, byte_len, to_be_bytes, from_be_bytes, cast_unsigned, cast_signed}

-- ---- written

-- a number of 2, 4 or 8 bytes, the highest first
unfoldable pub number_bytes : Width → ℕ → List ℕ
number_bytes width number = to_be_bytes width number

-- a number with a sign, as 32 bits in two's complement
unfoldable pub signed_bytes : ℤ → List ℕ
signed_bytes number = number_bytes w32 (cast_unsigned w32 number)

-- a byte, 0 or 1
unfoldable pub flag_bytes : Bool → List ℕ
flag_bytes false = 0 ∷ []
flag_bytes true = 1 ∷ []

-- a count of 8 bytes, and that many bytes
unfoldable pub payload_bytes : List ℕ → List ℕ
payload_bytes bytes = number_bytes w64 (length bytes) ++ bytes

-- a flag, and the value where there is one
unfoldable pub optional_bytes : {A : Type 0} → (A → List ℕ) → Option A → List ℕ
optional_bytes value_bytes None = flag_bytes false
optional_bytes value_bytes (Some value) = flag_bytes true ++ value_bytes value

-- a count of 8 bytes, and that many elements
unfoldable pub element_list_bytes : {A : Type 0} → (A → List ℕ) → List A → List ℕ
element_list_bytes element_bytes elements = number_bytes w64 (length elements) ++ flat_map element_bytes elements

-- ---- read

-- One step after another. Where one fails, all do.
infixl 10 ◌>>=◌
abbrev pub ◌>>=◌ : {A B : Type 0} → Option A → (A → Option B) → Option B
None >>= next = None
(Some value) >>= next = next value

unfoldable pub number_of_width : Width → List ℕ → Option (ℕ × List ℕ)
number_of_width width bytes =
    if nat_lt (length bytes) (byte_len width) then None
    else Some (from_be_bytes width (take (byte_len width) bytes), drop (byte_len width) bytes)

unfoldable pub leading_signed : List ℕ → Option (ℤ × List ℕ)
leading_signed bytes = do
  number ← number_of_width w32 bytes
  Some (cast_signed w32 number.0, number.1)

-- any byte but 0 and 1 is refused
unfoldable pub leading_flag : List ℕ → Option (Bool × List ℕ)
leading_flag [] = None
leading_flag (zero ∷ rest) = Some (false, rest)
leading_flag (suc zero ∷ rest) = Some (true, rest)
leading_flag (suc (suc byte) ∷ rest) = None

unfoldable pub leading_payload : List ℕ → Option (List ℕ × List ℕ)
leading_payload bytes = do
  count ← number_of_width w64 bytes
  if nat_lt (length count.1) count.0 then None else Some (take count.0 count.1, drop count.0 count.1)

-- the value after a flag that was read
abbrev pub behind_flag : {A : Type 0} → (List ℕ → Option (A × List ℕ)) → Bool → List ℕ → Option (Option A × List ℕ)
behind_flag value_at false bytes = Some (None, bytes)
behind_flag value_at true bytes = do
  value ← value_at bytes
  Some (Some value.0, value.1)

unfoldable pub leading_optional : {A : Type 0} → (List ℕ → Option (A × List ℕ)) → List ℕ → Option (Option A × List ℕ)
leading_optional value_at bytes = do
  flag ← leading_flag bytes
  behind_flag value_at flag.0 flag.1

-- that many elements
unfoldable pub leading_elements : {A : Type 0} → (List ℕ → Option (A × List ℕ)) → ℕ → List ℕ → Option (List A × List ℕ)
leading_elements element_at zero bytes = Some ([], bytes)
leading_elements element_at (suc count) bytes = do
  first ← element_at bytes
  others ← leading_elements element_at count first.1
  Some (first.0 ∷ others.0, others.1)

unfoldable pub leading_list : {A : Type 0} → (List ℕ → Option (A × List ℕ)) → List ℕ → Option (List A × List ℕ)
leading_list element_at bytes = do
  count ← number_of_width w64 bytes
  leading_elements element_at count.0 count.1
