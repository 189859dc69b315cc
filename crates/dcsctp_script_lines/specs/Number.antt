-- Decimal numbers in a line of a script.
use Rattle.std.specs.Prelude.{◌≡◌, ◌≢◌, ℕ, ℤ, ◌≤◌, List, slice_index, Option, Some, None, FitsSigned, codes}
use Rattle.std.specs.Int.{w32}
use Rattle.std.specs.Option.{SomeIff}
use Rattle.std.specs.Str.Parse.{IsNumeral, digits_value, without_leading_sign, signed_digits_value}

-- the first byte is a plus
abbrev pub HasPlus : List ℕ → Type 0
HasPlus text = slice_index text 0 ≡ 43

-- The number is read if there are digits alone, and it is at most `most`.
abbrev pub ReadsNumber : List ℕ → ℕ → Option ℕ → Type 0
ReadsNumber text most found =
    SomeIff found (IsNumeral 10 text × (digits_value 10 text ≤ most)) (digits_value 10 text)

-- a number of 32 bits, which may have a minus in front
abbrev pub IsSignedNumber : List ℕ → Type 0
IsSignedNumber text =
    ¬ HasPlus text × IsNumeral 10 (without_leading_sign text) × FitsSigned w32 (signed_digits_value 10 text)

abbrev pub ReadsSignedNumber : List ℕ → Option ℤ → Type 0
ReadsSignedNumber text found = SomeIff found (IsSignedNumber text) (signed_digits_value 10 text)

-- A number, or the word for no limit.
abbrev pub ReadsLimit : List ℕ → ℕ → Option (Option ℕ) → Type 0
ReadsLimit text most None = (text ≢ codes "none") × ReadsNumber text most None
ReadsLimit text most (Some None) = text ≡ codes "none"
ReadsLimit text most (Some (Some number)) = ReadsNumber text most (Some number)
