-- A field that is read is the field that was written, and what was written is read again.
use Rattle.std.proofs.Common.{◌≡◌, ℕ, ◌+◌, ◌^◌, ◌<◌, ◌≤◌, Bool, true, false, cond, ltb, List, ◌++◌, length, take, drop, Option, Some, None, refl, sym, ap, arith, inl, inr}
use Rattle.std.specs.Int.{Width, w16, w32, w64, byte_len, from_be_bytes, to_be_bytes}
use Rattle.std.proofs.lemmas.Bool.{cases_lt, ltb-false, le-ltb}
use Rattle.std.proofs.lemmas.List.{take_at, drop_at, take-append-drop, length-append, length-take, get_or-drop, get_or-take, get_or_past}
use Rattle.std.proofs.lemmas.Nat.{be_bytes_2, be_bytes_4, be_bytes_8, from_be_bytes-to_be_bytes_2, from_be_bytes-to_be_bytes_4, from_be_bytes-to_be_bytes_8}
use Rattle.dcsctp_snapshot_bytes.specs.Fields.{◌>>=◌, number_bytes, number_of_width}
use Rattle.dcsctp_snapshot_bytes.specs.Laws.{AreBytes}

pub AreBytes-drop : (n : ℕ) (bytes : List ℕ) → AreBytes bytes → AreBytes (drop n bytes)
AreBytes-drop n bytes h i = rw get_or-drop (h (n + i))

pub AreBytes-take : (n : ℕ) (bytes : List ℕ) → AreBytes bytes → AreBytes (take n bytes)
AreBytes-take n bytes h i =
    elim (cases_lt i n) [
      | inl lt ↦ rw (get_or-take n bytes i 0 lt) (h i)
      | inr le ↦ rw (get_or_past (take n bytes) i 0 (omega (arith, length-take n bytes))) (omega arith)
    ]

-- ---- what each field keeps

-- what a reader took from the front
pub record Took {A : Type 0} (bytes_of : A → List ℕ) (Fits : A → Type 0) (bytes : List ℕ) (value : A) (rest : List ℕ) : Type 0 where
  pub parts : bytes ≡ bytes_of value ++ rest
  pub fits : Fits value
  pub rest_fits : AreBytes rest

-- What fits is read again from what it was written as, whatever follows, and what is read was written so.
pub record IsField {A : Type 0} (bytes_of : A → List ℕ) (value_at : List ℕ → Option (A × List ℕ)) (Fits : A → Type 0) : Type 0 where
  pub again : (value : A) (rest : List ℕ) → Fits value → value_at (bytes_of value ++ rest) ≡ Some (value, rest)
  pub takes : (bytes : List ℕ) (value : A) (rest : List ℕ) → AreBytes bytes → value_at bytes ≡ Some (value, rest) → Took bytes_of Fits bytes value rest

pub bind_some : {A B : Type 0} (o : Option A) (f : A → Option B) (y : B) → (o >>= f) ≡ Some y → (x : A) × (o ≡ Some x) × (f x ≡ Some y)
bind_some (Some x) f y e = (x, refl, e)
bind_some None f y e = absurd cc

-- What follows from a step that didn't fail: it took a value, and the next one continues with the rest.
pub step_by : {A B : Type 0} {G : Type 0} {bytes_of : A → List ℕ} {value_at : List ℕ → Option (A × List ℕ)} {Fits : A → Type 0}
    → ((bytes : List ℕ) (value : A) (rest : List ℕ) → AreBytes bytes → value_at bytes ≡ Some (value, rest) → Took bytes_of Fits bytes value rest)
    → (next : A × List ℕ → Option B) (bytes : List ℕ) (end : B) → AreBytes bytes → (value_at bytes >>= next) ≡ Some end
    → ((value : A) (rest : List ℕ) → bytes ≡ bytes_of value ++ rest → Fits value → AreBytes rest → next (value, rest) ≡ Some end → G) → G
step_by {value_at} takes next bytes end fits e follows =
    let b = bind_some (value_at bytes) next end e in
    let took = takes bytes b.0.0 b.0.1 fits b.1 in
    follows b.0.0 b.0.1 took.parts took.fits took.rest_fits b.2

pub step : {A B : Type 0} {G : Type 0} {bytes_of : A → List ℕ} {value_at : List ℕ → Option (A × List ℕ)} {Fits : A → Type 0} (field : IsField bytes_of value_at Fits)
    (next : A × List ℕ → Option B) (bytes : List ℕ) (end : B) → AreBytes bytes → (value_at bytes >>= next) ≡ Some end
    → ((value : A) (rest : List ℕ) → bytes ≡ bytes_of value ++ rest → Fits value → AreBytes rest → next (value, rest) ≡ Some end → G) → G
step field = step_by field.takes

abbrev done : {A : Type 0} → A → Option A
done x = Some x

pub some_is : {A : Type 0} (x y : A) → done x ≡ done y → x ≡ y
some_is x y e = cc

-- ---- numbers

pub record IsWide (w : Width) (limit : ℕ) : Type 0 where
  pub len : (n : ℕ) → length (to_be_bytes w n) ≡ byte_len w
  pub back : (bytes : List ℕ) → length bytes ≡ byte_len w → AreBytes bytes → to_be_bytes w (from_be_bytes w bytes) ≡ bytes
  pub again : (n : ℕ) → n < limit → from_be_bytes w (to_be_bytes w n) ≡ n
  pub below : (bytes : List ℕ) → AreBytes bytes → from_be_bytes w bytes < limit

pub wide16 : IsWide w16 (2 ^ 16)
wide16 = record {
  len = λ n. refl;
  back = λ bytes len fits. be_bytes_2 bytes _ len fits refl;
  again = λ n lt. from_be_bytes-to_be_bytes_2 n lt;
  below = λ bytes fits. omega (arith, fits 0, fits 1);
}

pub wide32 : IsWide w32 (2 ^ 32)
wide32 = record {
  len = λ n. refl;
  back = λ bytes len fits. be_bytes_4 bytes _ len fits refl;
  again = λ n lt. from_be_bytes-to_be_bytes_4 n lt;
  below = λ bytes fits. omega (arith, fits 0, fits 1, fits 2, fits 3);
}

pub wide64 : IsWide w64 (2 ^ 64)
wide64 = record {
  len = λ n. refl;
  back = λ bytes len fits. be_bytes_8 bytes _ len fits refl;
  again = λ n lt. from_be_bytes-to_be_bytes_8 n lt;
  below = λ bytes fits. omega (arith, fits 0, fits 1, fits 2, fits 3, fits 4, fits 5, fits 6, fits 7);
}

pub guarded : {A : Type 0} (b : Bool) (x y : A) → cond b None (Some x) ≡ Some y → (b ≡ false) × (x ≡ y)
guarded true x y e = absurd cc
guarded false x y e = (refl, cc)

number_again : (w : Width) (limit : ℕ) → IsWide w limit → (n : ℕ) (rest : List ℕ) → n < limit → number_of_width w (number_bytes w n ++ rest) ≡ Some (n, rest)
unfolding number_of_width number_bytes
number_again w limit wide n rest lt =
    let len = wide.len n in
    let long : ltb (length (to_be_bytes w n ++ rest)) (byte_len w) ≡ false = le-ltb _ _ (omega (arith, length-append (to_be_bytes w n) rest)) in
    rw (long, take_at (to_be_bytes w n) rest (byte_len w) len, drop_at (to_be_bytes w n) rest (byte_len w) len, wide.again n lt) refl

number_takes : (w : Width) (limit : ℕ) → IsWide w limit → (bytes : List ℕ) (n : ℕ) (rest : List ℕ) → AreBytes bytes → number_of_width w bytes ≡ Some (n, rest) → Took (number_bytes w) (λ number. number < limit) bytes n rest
unfolding number_of_width number_bytes
number_takes w limit wide bytes n rest fits e =
    let g = guarded (ltb (length bytes) (byte_len w)) (from_be_bytes w (take (byte_len w) bytes), drop (byte_len w) bytes) (n, rest) e in
    let long : byte_len w ≤ length bytes = ltb-false _ _ g.0 in
    let n-is : from_be_bytes w (take (byte_len w) bytes) ≡ n = ap (λ (p : ℕ × List ℕ). p.0) g.1 in
    let rest-is : drop (byte_len w) bytes ≡ rest = ap (λ (p : ℕ × List ℕ). p.1) g.1 in
    let front_fits = AreBytes-take (byte_len w) bytes fits in
    let front : to_be_bytes w n ≡ take (byte_len w) bytes = rw (← n-is) (wide.back (take (byte_len w) bytes) (omega (arith, length-take (byte_len w) bytes)) front_fits) in
    record {
      parts = rw (front, ← rest-is) (sym (take-append-drop (byte_len w) bytes));
      fits = rw (← n-is) (wide.below (take (byte_len w) bytes) front_fits);
      rest_fits = rw (← rest-is) (AreBytes-drop (byte_len w) bytes fits);
    }

pub number_field : (w : Width) (limit : ℕ) → IsWide w limit → IsField (number_bytes w) (number_of_width w) (λ number. number < limit)
number_field w limit wide = record { again = number_again w limit wide; takes = number_takes w limit wide }

pub field16 : IsField (number_bytes w16) (number_of_width w16) (λ number. number < 2 ^ 16)
field16 = number_field w16 (2 ^ 16) wide16

pub field32 : IsField (number_bytes w32) (number_of_width w32) (λ number. number < 2 ^ 32)
field32 = number_field w32 (2 ^ 32) wide32

pub field64 : IsField (number_bytes w64) (number_of_width w64) (λ number. number < 2 ^ 64)
field64 = number_field w64 (2 ^ 64) wide64
