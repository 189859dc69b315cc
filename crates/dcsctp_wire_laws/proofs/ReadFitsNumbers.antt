-- What is read of bytes fits: numbers, and parts of the bytes.
use Rattle.std.proofs.Common.{◌≡◌, ℕ, ◌-◌, ◌%◌, ◌<◌, ◌≤◌, ◌^◌, Bool, true, false, not, eqb, ltb, cond, Option, List, [], ◌∷◌, length, take, drop, ap, ◌∙◌, arith, length-drop}
use Rattle.std.specs.Option.{IfSome}
use Rattle.std.specs.Int.{w16, w32, from_be_bytes}
use Rattle.std.specs.List.{AllByRecursion}
use Rattle.std.proofs.lemmas.Bool.{cond_both, ltb-false, eqb-true, and_parts, not-true}
use Rattle.std.proofs.lemmas.List.{length-take-le}
use Rattle.std.proofs.lemmas.List.Elements.{All-take, All-drop, All-from_recursion, recursion_from_All}
use Rattle.dcsctp_wire.specs.Fields.{u16_at, u32_at, has_entries}
use Rattle.dcsctp_wire.specs.ReadsBack.{IsByte, AreWholeEntries}

-- ---- where a test picks

-- Where a test picks what is read, each of the two fits.
pub picked : {A : Type 0} (test : Bool) (x y : Option A) (P : A → Type 0) → (test ≡ true → IfSome x P) → (test ≡ false → IfSome y P) → IfSome (cond test x y) P
picked test x y P first second = cond_both test x y (λ o. IfSome o P) first second

-- ---- parts

abbrev pub InBytes : List ℕ → Type 0
InBytes = AllByRecursion IsByte

pub front_in_bytes : (n : ℕ) (bytes : List ℕ) → InBytes bytes → InBytes (take n bytes)
front_in_bytes n bytes is = recursion_from_All IsByte (take n bytes) (All-take IsByte n bytes (All-from_recursion IsByte bytes is))

pub behind_in_bytes : (n : ℕ) (bytes : List ℕ) → InBytes bytes → InBytes (drop n bytes)
behind_in_bytes n bytes is = recursion_from_All IsByte (drop n bytes) (All-drop IsByte n bytes (All-from_recursion IsByte bytes is))

-- ---- numbers

two_fit : (bytes : List ℕ) → InBytes bytes → from_be_bytes w16 (take 2 bytes) < 2 ^ 16
two_fit [] is = omega arith
two_fit (a ∷ []) is = omega arith
two_fit (a ∷ b ∷ bytes) is = omega arith

four_fit : (bytes : List ℕ) → InBytes bytes → from_be_bytes w32 (take 4 bytes) < 2 ^ 32
four_fit [] is = omega arith
four_fit (a ∷ []) is = omega arith
four_fit (a ∷ b ∷ []) is = omega arith
four_fit (a ∷ b ∷ c ∷ []) is = omega arith
four_fit (a ∷ b ∷ c ∷ d ∷ bytes) is = omega arith

pub u16_fits : (at : ℕ) (bytes : List ℕ) → InBytes bytes → u16_at at bytes < 2 ^ 16
u16_fits at bytes is = two_fit (drop at bytes) (behind_in_bytes at bytes is)

pub u32_fits : (at : ℕ) (bytes : List ℕ) → InBytes bytes → u32_at at bytes < 2 ^ 32
u32_fits at bytes is = four_fit (drop at bytes) (behind_in_bytes at bytes is)

-- ---- entries

-- the bytes in front, where they are whole entries of so many
pub front_entries : (len n : ℕ) (bytes : List ℕ) → InBytes bytes → n % len ≡ 0 → n ≤ length bytes → AreWholeEntries len (take n bytes)
front_entries len n bytes is whole inside =
    record { whole = ap (λ (k : ℕ). k % len) (length-take-le n bytes inside) ∙ whole; entries_in_bytes = front_in_bytes n bytes is }

-- There are fields, and whole entries after them.
pub record HasEntries (fields len : ℕ) (value : List ℕ) : Type 0 where
  pub fields_there : fields ≤ length value
  pub entries_fit : AreWholeEntries len (drop fields value)

pub entries_there : (fields len : ℕ) (value : List ℕ) → InBytes value → has_entries fields len value ≡ true → HasEntries fields len value
entries_there fields len value is has =
    let parts = and_parts (not (ltb (length value) fields)) (eqb ((length value - fields) % len) 0) has in
    record {
      fields_there = ltb-false (length value) fields (not-true (ltb (length value) fields) parts.0);
      entries_fit = record {
        whole = ap (λ (k : ℕ). k % len) (length-drop fields value) ∙ eqb-true _ _ parts.1;
        entries_in_bytes = behind_in_bytes fields value is;
      };
    }
