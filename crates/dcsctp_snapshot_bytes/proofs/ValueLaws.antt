-- The fields of a snapshot that are made of numbers: what is read of each was written so, and what
-- was written is read again.
use Rattle.std.proofs.Common.{◌≡◌, ℕ, zero, suc, ◌^◌, ◌<◌, ◌≤◌, ℤ, Bool, true, false, ltb, List, [], ◌∷◌, ◌++◌, length, take, drop, Option, Some, None, refl, ap, subst, ◌∙◌, append_assoc, arith, FitsSigned}
use Rattle.std.specs.Prelude.{IfSome}
use Rattle.std.specs.Int.{w32, w64, cast_signed, cast_unsigned}
use Rattle.std.specs.List.{flat_map, AllByRecursion}
use Rattle.std.proofs.lemmas.Bool.{ltb-false, le-ltb}
use Rattle.std.proofs.lemmas.Int.{to_z-of_z, of_z-to_z, ints}
use Rattle.std.proofs.lemmas.List.{take_at, drop_at, take-append-drop, length-append, length-take}
use Rattle.dcsctp_snapshot_bytes.specs.Fields.{◌>>=◌, number_bytes, signed_bytes, leading_signed, flag_bytes, leading_flag, payload_bytes, leading_payload, optional_bytes, leading_optional, behind_flag, element_list_bytes, leading_elements, leading_list}
use Rattle.dcsctp_snapshot_bytes.specs.Fits.{FitsElements}
use Rattle.dcsctp_snapshot_bytes.specs.Laws.{AreBytes}
use Rattle.dcsctp_snapshot_bytes.proofs.FieldLaws.{AreBytes-drop, Took, IsField, some_is, guarded, field32, field64, step, step_by}

-- ---- a number with a sign

signed_again : (z : ℤ) (rest : List ℕ) → FitsSigned w32 z → leading_signed (signed_bytes z ++ rest) ≡ Some (z, rest)
unfolding leading_signed signed_bytes
signed_again z rest fits =
    let below : cast_unsigned w32 z < 2 ^ 32 = omega (arith, ints) in
    rw (field32.again (cast_unsigned w32 z) rest below, to_z-of_z w32 z fits) refl

signed_takes : (bytes : List ℕ) (z : ℤ) (rest : List ℕ) → AreBytes bytes → leading_signed bytes ≡ Some (z, rest) → Took signed_bytes (FitsSigned w32) bytes z rest
unfolding leading_signed signed_bytes
signed_takes bytes z rest fits e =
    step field32 _ bytes _ fits e (λ number after parts number_fits after_fits next.
    let value_fits : FitsSigned w32 (cast_signed w32 number) = search (arith, ints) in
    subst (λ (x : ℤ × List ℕ). Took signed_bytes (FitsSigned w32) bytes x.0 x.1) (some_is (cast_signed w32 number, after) (z, rest) next)
    (record { parts = rw (of_z-to_z w32 number number_fits) parts; fits = value_fits; rest_fits = after_fits }))

pub signed_field : IsField signed_bytes leading_signed (FitsSigned w32)
signed_field = record { again = signed_again; takes = signed_takes }

-- ---- a flag

abbrev pub any_flag : Bool → Type 0
any_flag flag = Unit {0}

AreBytes-rest : (b : ℕ) (bytes : List ℕ) → AreBytes (b ∷ bytes) → AreBytes bytes
AreBytes-rest b bytes h i = h (suc i)

flag_again : (flag : Bool) (rest : List ℕ) → any_flag flag → leading_flag (flag_bytes flag ++ rest) ≡ Some (flag, rest)
unfolding leading_flag flag_bytes
flag_again false rest fits = refl
flag_again true rest fits = refl

flag_takes : (bytes : List ℕ) (flag : Bool) (rest : List ℕ) → AreBytes bytes → leading_flag bytes ≡ Some (flag, rest) → Took flag_bytes any_flag bytes flag rest
unfolding leading_flag flag_bytes
flag_takes [] flag rest fits e = absurd cc
flag_takes (zero ∷ bytes) flag rest fits e =
    subst (λ (x : Bool × List ℕ). Took flag_bytes any_flag (0 ∷ bytes) x.0 x.1) (some_is (false, bytes) (flag, rest) e) (record { parts = refl; fits = tt; rest_fits = AreBytes-rest 0 bytes fits })
flag_takes (suc zero ∷ bytes) flag rest fits e =
    subst (λ (x : Bool × List ℕ). Took flag_bytes any_flag (1 ∷ bytes) x.0 x.1) (some_is (true, bytes) (flag, rest) e) (record { parts = refl; fits = tt; rest_fits = AreBytes-rest 1 bytes fits })
flag_takes (suc (suc b) ∷ bytes) flag rest fits e = absurd cc

pub flag_field : IsField flag_bytes leading_flag any_flag
flag_field = record { again = flag_again; takes = flag_takes }

-- ---- a payload

abbrev pub fits_payload : List ℕ → Type 0
fits_payload payload = length payload < 2 ^ 64

payload_again : (payload rest : List ℕ) → fits_payload payload → leading_payload (payload_bytes payload ++ rest) ≡ Some (payload, rest)
unfolding leading_payload payload_bytes
payload_again payload rest fits =
    let long : ltb (length (payload ++ rest)) (length payload) ≡ false = le-ltb _ _ (omega (arith, length-append payload rest)) in
    rw (append_assoc, field64.again (length payload) (payload ++ rest) fits, long, take_at payload rest (length payload) refl, drop_at payload rest (length payload) refl) refl

payload_takes : (bytes payload rest : List ℕ) → AreBytes bytes → leading_payload bytes ≡ Some (payload, rest) → Took payload_bytes fits_payload bytes payload rest
unfolding leading_payload payload_bytes
payload_takes bytes payload rest fits e =
    step field64 _ bytes _ fits e (λ count after parts count_fits after_fits next.
    let chosen = guarded (ltb (length after) count) (take count after, drop count after) (payload, rest) next in
    let long : count ≤ length after = ltb-false _ _ chosen.0 in
    let len : length (take count after) ≡ count = omega (arith, length-take count after) in
    let whole : bytes ≡ (number_bytes w64 (length (take count after)) ++ take count after) ++ drop count after = rw (len, append_assoc, take-append-drop) parts in
    subst (λ (x : List ℕ × List ℕ). Took payload_bytes fits_payload bytes x.0 x.1) chosen.1 (record { parts = whole; fits = rw len count_fits; rest_fits = AreBytes-drop count after after_fits }))

pub payload_field : IsField payload_bytes leading_payload fits_payload
payload_field = record { again = payload_again; takes = payload_takes }

-- ---- a value after a flag

abbrev pub fits_optional : {A : Type 0} → (A → Type 0) → Option A → Type 0
fits_optional Fits value = IfSome value Fits

optional_again : {A : Type 0} {bytes_of : A → List ℕ} {value_at : List ℕ → Option (A × List ℕ)} {Fits : A → Type 0} (field : IsField bytes_of value_at Fits) (value : Option A) (rest : List ℕ)
    → fits_optional Fits value → leading_optional value_at (optional_bytes bytes_of value ++ rest) ≡ Some (value, rest)
unfolding leading_optional optional_bytes
optional_again field None rest fits = rw (flag_field.again false rest tt) refl
optional_again {bytes_of} field (Some value) rest fits = rw (append_assoc, flag_field.again true (bytes_of value ++ rest) tt, field.again value rest fits) refl

behind_takes : {A : Type 0} {bytes_of : A → List ℕ} {value_at : List ℕ → Option (A × List ℕ)} {Fits : A → Type 0} (field : IsField bytes_of value_at Fits) (flag : Bool) (bytes after : List ℕ) (value : Option A) (rest : List ℕ)
    → bytes ≡ flag_bytes flag ++ after → AreBytes after → behind_flag value_at flag after ≡ Some (value, rest) → Took (optional_bytes bytes_of) (fits_optional Fits) bytes value rest
unfolding optional_bytes
behind_takes {A} {bytes_of} {value_at} {Fits} field false bytes after value rest parts fits e =
    subst (λ (x : Option A × List ℕ). Took (optional_bytes bytes_of) (fits_optional Fits) bytes x.0 x.1) (some_is (None, after) (value, rest) e) (record { parts = parts; fits = tt; rest_fits = fits })
behind_takes {A} {bytes_of} {value_at} {Fits} field true bytes after value rest parts fits e =
    step field (λ x. Some (Some x.0, x.1)) after _ fits e (λ inner last inner_parts inner_fits last_fits next.
    let whole : bytes ≡ (flag_bytes true ++ bytes_of inner) ++ last = rw (append_assoc, ← inner_parts) parts in
    subst (λ (x : Option A × List ℕ). Took (optional_bytes bytes_of) (fits_optional Fits) bytes x.0 x.1) (some_is (Some inner, last) (value, rest) next)
    (record { parts = whole; fits = inner_fits; rest_fits = last_fits }))

optional_takes : {A : Type 0} {bytes_of : A → List ℕ} {value_at : List ℕ → Option (A × List ℕ)} {Fits : A → Type 0} (field : IsField bytes_of value_at Fits) (bytes : List ℕ) (value : Option A) (rest : List ℕ)
    → AreBytes bytes → leading_optional value_at bytes ≡ Some (value, rest) → Took (optional_bytes bytes_of) (fits_optional Fits) bytes value rest
unfolding leading_optional
optional_takes field bytes value rest fits e =
    step flag_field _ bytes _ fits e (λ flag after parts _ after_fits next. behind_takes field flag bytes after value rest parts after_fits next)

pub optional_field : {A : Type 0} {bytes_of : A → List ℕ} {value_at : List ℕ → Option (A × List ℕ)} {Fits : A → Type 0} → IsField bytes_of value_at Fits → IsField (optional_bytes bytes_of) (leading_optional value_at) (fits_optional Fits)
optional_field field = record { again = optional_again field; takes = optional_takes field }

-- ---- a list

elements_again : {A : Type 0} {bytes_of : A → List ℕ} {value_at : List ℕ → Option (A × List ℕ)} {Fits : A → Type 0} (field : IsField bytes_of value_at Fits) (elements : List A) (rest : List ℕ)
    → AllByRecursion Fits elements → leading_elements value_at (length elements) (flat_map bytes_of elements ++ rest) ≡ Some (elements, rest)
unfolding leading_elements
elements_again field [] rest fits = refl
elements_again {bytes_of} {value_at} field (x ∷ xs) rest fits =
    let regrouped : flat_map bytes_of (x ∷ xs) ++ rest ≡ bytes_of x ++ (flat_map bytes_of xs ++ rest) = append_assoc (bytes_of x) (flat_map bytes_of xs) rest in
    ap (leading_elements value_at (suc (length xs))) regrouped ∙ rw (field.again x (flat_map bytes_of xs ++ rest) fits.0, elements_again field xs rest fits.1) refl

-- as many elements as were counted, and each fits
abbrev fits_elements : {A : Type 0} → (A → Type 0) → ℕ → List A → Type 0
fits_elements Fits count elements = (length elements ≡ count) × AllByRecursion Fits elements

elements_take : {A : Type 0} {bytes_of : A → List ℕ} {value_at : List ℕ → Option (A × List ℕ)} {Fits : A → Type 0} (field : IsField bytes_of value_at Fits) (count : ℕ) (bytes : List ℕ) (elements : List A) (rest : List ℕ)
    → AreBytes bytes → leading_elements value_at count bytes ≡ Some (elements, rest) → Took (flat_map bytes_of) (fits_elements Fits count) bytes elements rest
unfolding leading_elements
elements_take {A} {bytes_of} {value_at} {Fits} field zero bytes elements rest fits e =
    subst (λ (x : List A × List ℕ). Took (flat_map bytes_of) (fits_elements Fits 0) bytes x.0 x.1) (some_is ([], bytes) (elements, rest) e) (record { parts = refl; fits = (refl, tt); rest_fits = fits })
elements_take {A} {bytes_of} {value_at} {Fits} field (suc count) bytes elements rest fits e =
    step field (λ first. leading_elements value_at count first.1 >>= λ others. Some (first.0 ∷ others.0, others.1)) bytes _ fits e (λ first after parts first_fits after_fits next.
    step_by (elements_take field count) (λ others. Some (first ∷ others.0, others.1)) after _ after_fits next (λ others last others_parts others_fit last_fits end.
    let whole : bytes ≡ (bytes_of first ++ flat_map bytes_of others) ++ last = rw (append_assoc, ← others_parts) parts in
    subst (λ (x : List A × List ℕ). Took (flat_map bytes_of) (fits_elements Fits (suc count)) bytes x.0 x.1) (some_is (first ∷ others, last) (elements, rest) end)
    (record { parts = whole; fits = (ap suc others_fit.0, (first_fits, others_fit.1)); rest_fits = last_fits })))

list_again : {A : Type 0} {bytes_of : A → List ℕ} {value_at : List ℕ → Option (A × List ℕ)} {Fits : A → Type 0} (field : IsField bytes_of value_at Fits) (elements : List A) (rest : List ℕ)
    → FitsElements Fits elements → leading_list value_at (element_list_bytes bytes_of elements ++ rest) ≡ Some (elements, rest)
unfolding leading_list element_list_bytes
list_again {bytes_of} field elements rest fits =
    rw (append_assoc, field64.again (length elements) (flat_map bytes_of elements ++ rest) fits.count) (elements_again field elements rest fits.each)

list_takes : {A : Type 0} {bytes_of : A → List ℕ} {value_at : List ℕ → Option (A × List ℕ)} {Fits : A → Type 0} (field : IsField bytes_of value_at Fits) (bytes : List ℕ) (elements : List A) (rest : List ℕ)
    → AreBytes bytes → leading_list value_at bytes ≡ Some (elements, rest) → Took (element_list_bytes bytes_of) (FitsElements Fits) bytes elements rest
unfolding leading_list element_list_bytes
list_takes field bytes elements rest fits e =
    step field64 _ bytes _ fits e (λ count after parts count_fits after_fits next.
    let took = elements_take field count after elements rest after_fits next in
    record {
      parts = rw (append_assoc, took.fits.0, ← took.parts) parts;
      fits = record { count = rw took.fits.0 count_fits; each = took.fits.1 };
      rest_fits = took.rest_fits;
    })

pub list_field : {A : Type 0} {bytes_of : A → List ℕ} {value_at : List ℕ → Option (A × List ℕ)} {Fits : A → Type 0} → IsField bytes_of value_at Fits → IsField (element_list_bytes bytes_of) (leading_list value_at) (FitsElements Fits)
list_field field = record { again = list_again field; takes = list_takes field }
