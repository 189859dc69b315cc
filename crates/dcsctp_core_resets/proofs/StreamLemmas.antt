-- Streams that bytes name, one after another.
use Rattle.std.proofs.Common.{◌≡◌, ◌==◌, Bool, true, false, ℕ, zero, suc, ◌+◌, ◌*◌, ◌/◌, ◌<◌, ◌≤◌, List, [], ◌∷◌, ◌++◌, length, take, drop, refl, sym, ap, ◌∙◌, arith}
use Rattle.std.specs.Prelude.{◌&&◌}
use Rattle.std.specs.Int.{w16, from_be_bytes}
use Rattle.std.specs.Str.{bytes_eq}
use Rattle.std.proofs.lemmas.Bool.Decides.{Decides-eqb}
use Rattle.std.proofs.lemmas.Slice.Eq.{bytes_eq-Decides}
use Rattle.dcsctp_core.specs.spec.endpoint.ResetOutcomes.{is_same_list}
use Rattle.std.proofs.lemmas.List.{map-append, take_all}
use Rattle.dcsctp_core.specs.types.declared.ids.StreamId.{StreamId}
use Rattle.dcsctp_core.specs.types.Ids.{stream_numbers}
use Rattle.dcsctp_core.specs.spec.Reconfiguration.{streams_of_bytes}
use Rattle.dcsctp_core.specs.wire.Fields.{numbered_request_stream}

stream_later : (i first second : ℕ) (bytes : List ℕ) → numbered_request_stream (suc i) (first ∷ second ∷ bytes) ≡ numbered_request_stream i bytes
stream_later i first second bytes =
    let twice : 2 * suc i ≡ suc (suc (2 * i)) = omega arith in
    ap (λ (n : ℕ). from_be_bytes w16 (take 2 (drop n (first ∷ second ∷ bytes)))) twice

pub streams_more : (i : ℕ) (bytes : List ℕ) → i < length bytes / 2 → take (i + 1) (streams_of_bytes bytes) ≡ take i (streams_of_bytes bytes) ++ numbered_request_stream i bytes ∷ []
streams_more i [] lt = absurd (omega (arith, lt))
streams_more i (byte ∷ []) lt = absurd (omega (arith, lt))
streams_more zero (first ∷ second ∷ bytes) lt = refl
streams_more (suc i) (first ∷ second ∷ bytes) lt =
    let behind : suc i + 1 ≡ suc (i + 1) = omega arith in
    ap (λ (n : ℕ). take n (streams_of_bytes (first ∷ second ∷ bytes))) behind
    ∙ ap (λ (xs : List ℕ). from_be_bytes w16 (first ∷ second ∷ []) ∷ xs)
    (streams_more i bytes (omega (arith, lt)) ∙ ap (λ (n : ℕ). take i (streams_of_bytes bytes) ++ n ∷ []) (sym (stream_later i first second bytes)))

pub streams_count : (bytes : List ℕ) → length (streams_of_bytes bytes) ≡ length bytes / 2
streams_count [] = refl
streams_count (byte ∷ []) = refl
streams_count (first ∷ second ∷ bytes) = omega (arith, streams_count bytes)

-- one more is in the list
pub one_more : (streams : List StreamId) (i : ℕ) (bytes : List ℕ) (stream : StreamId) → stream_numbers streams ≡ take i (streams_of_bytes bytes) → stream.0 ≡ numbered_request_stream i bytes → i < length bytes / 2
    → stream_numbers (streams ++ stream ∷ []) ≡ take (i + 1) (streams_of_bytes bytes)
one_more streams i bytes stream so_far is lt =
    map-append (λ (s : StreamId). s.0) streams (stream ∷ [])
    ∙ ap (λ (xs : List ℕ). xs ++ stream.0 ∷ []) so_far
    ∙ ap (λ (n : ℕ). take i (streams_of_bytes bytes) ++ n ∷ []) is
    ∙ sym (streams_more i bytes lt)

pub all_streams : (streams : List StreamId) (i : ℕ) (bytes : List ℕ) → stream_numbers streams ≡ take i (streams_of_bytes bytes) → length bytes / 2 ≤ i → stream_numbers streams ≡ streams_of_bytes bytes
all_streams streams i bytes so_far enough = so_far ∙ take_all i (streams_of_bytes bytes) (omega (arith, streams_count bytes, enough))

-- the same of numbers
pub number_more : (numbers : List ℕ) (i : ℕ) (bytes : List ℕ) (number : ℕ) → numbers ≡ take i (streams_of_bytes bytes) → number ≡ numbered_request_stream i bytes → i < length bytes / 2
    → numbers ++ number ∷ [] ≡ take (i + 1) (streams_of_bytes bytes)
number_more numbers i bytes number so_far is lt =
    ap (λ (xs : List ℕ). xs ++ number ∷ []) so_far ∙ ap (λ (n : ℕ). take i (streams_of_bytes bytes) ++ n ∷ []) is ∙ sym (streams_more i bytes lt)

pub all_numbers : (numbers : List ℕ) (i : ℕ) (bytes : List ℕ) → numbers ≡ take i (streams_of_bytes bytes) → length bytes / 2 ≤ i → numbers ≡ streams_of_bytes bytes
all_numbers numbers i bytes so_far enough = so_far ∙ take_all i (streams_of_bytes bytes) (omega (arith, streams_count bytes, enough))

-- ---- are two lists the same?

and_both : (b c : Bool) → (b && c) ≡ true → (b ≡ true) × (c ≡ true)
and_both true true is = (refl, refl)
and_both true false is = absurd (cc)
and_both false c is = absurd (cc)

and_true : (b c : Bool) → b ≡ true → c ≡ true → (b && c) ≡ true
and_true true true one two = refl
and_true true false one two = absurd (cc)
and_true false c one two = absurd (cc)

one_length : (xs ys : List ℕ) → length xs ≡ length ys → take (length ys) xs ≡ xs
one_length xs ys is = take_all (length ys) xs (omega (arith, is))

is_same : (xs ys : List ℕ) → is_same_list xs ys ≡ true → xs ≡ ys
is_same xs ys is =
    let both = and_both (length xs == length ys) (bytes_eq ys (take (length ys) xs)) is in
    sym ((bytes_eq-Decides ys (take (length ys) xs)).0 both.1 ∙ one_length xs ys ((Decides-eqb (length xs) (length ys)).0 both.0))

same_is : (xs ys : List ℕ) → xs ≡ ys → is_same_list xs ys ≡ true
same_is xs ys is =
    and_true (length xs == length ys) (bytes_eq ys (take (length ys) xs)) ((Decides-eqb (length xs) (length ys)).1 (ap (λ (l : List ℕ). length l) is))
    ((bytes_eq-Decides ys (take (length ys) xs)).1 (sym (one_length xs ys (ap (λ (l : List ℕ). length l) is) ∙ is)))

-- `==` on slices says so
pub slices_same : (xs ys : List ℕ) → bytes_eq xs ys ≡ is_same_list xs ys
slices_same xs ys = go (bytes_eq xs ys) (is_same_list xs ys) refl refl
  where
    go : (b c : Bool) → bytes_eq xs ys ≡ b → is_same_list xs ys ≡ c → b ≡ c
    go true true one two = refl
    go false false one two = refl
    go true false one two = sym (same_is xs ys ((bytes_eq-Decides xs ys).0 one)) ∙ two
    go false true one two = sym one ∙ (bytes_eq-Decides xs ys).1 (is_same xs ys two)
