-- Folding bytes leaves the register as it is: more bytes are folded, and what is left at last.
use Rattle.std.proofs.Common.{◌≡◌, ℕ, zero, suc, ◌+◌, ◌-◌, ◌%◌, ◌^◌, ◌<◌, ◌≤◌, ◌⊎◌, List, ◌++◌, length, get_or, set, replicate, take, drop, Fits, w8, refl, sym, ap, subst, ◌∙◌, inl, inr, arith}
use Rattle.std.specs.Int.Bits.{bit_xor, xor_self, xor_zero_r, xor_assoc}
use Rattle.std.specs.Int.{w32, to_le_bytes}
use Rattle.std.proofs.lemmas.Nat.{xor_of_8}
use Rattle.std.proofs.lemmas.Bool.{cases_lt}
use Rattle.std.proofs.lemmas.List.{get_or_past, get_or-set_other, get_or-take, get_or-drop, get_or-append_right, get_or_append_left, length-take-le}
use Rattle.std.proofs.lemmas.Grind.{get_or-set_at}
use Rattle.dcsctp_wire_checksum.specs.Crc32c.{register_after}
use Rattle.dcsctp_wire_checksum.specs.Folds.{taps_of_place, byte_with, IsFolded, IsFoldedOn}
use Rattle.dcsctp_wire_checksum.proofs.Crc32cCopies.{after_bytes, same_bytes, bytes_xor, skip_zeros, register_of_list, high, with_register, high_gone, byte_of_register, with_copies_gone}

-- ---- more bytes are folded
byte_with_later : (c k : ℕ) (bytes : List ℕ) → 4 ≤ k → byte_with c bytes k ≡ get_or bytes k 0
unfolding byte_with
byte_with_later c k bytes later = ap (bit_xor (get_or bytes k 0)) (get_or_past (to_le_bytes w32 c) k 0 later) ∙ xor_zero_r (get_or bytes k 0)

same_taps : (old new : List ℕ) (m k : ℕ) → ((i : ℕ) → i < m → get_or new i 0 ≡ get_or old i 0) → k + 144 < m → taps_of_place new k ≡ taps_of_place old k
unfolding taps_of_place
same_taps old new m k same within = rw (same (k + 144) (omega arith), same (k + 54) (omega arith), same (k + 39) (omega arith), same (k + 14) (omega arith), same k (omega arith)) refl

no_taps : (folded : List ℕ) (k : ℕ) → ((i : ℕ) → i < 209 → get_or folded i 0 ≡ 0) → k < 65 → taps_of_place folded k ≡ 0
unfolding taps_of_place
no_taps folded k front near = rw (front (k + 144) (omega arith), front (k + 54) (omega arith), front (k + 39) (omega arith), front (k + 14) (omega arith), front k (omega arith)) refl

folded_read : (c : ℕ) (bytes old new : List ℕ) (end n k : ℕ) → n ≤ 65 → IsFolded c bytes old end → ((i : ℕ) → i < end + 209 → get_or new i 0 ≡ get_or old i 0) → ((i : ℕ) → i < n → get_or new (end + 209 + i) 0 ≡ bit_xor (byte_with c bytes (end + i)) (taps_of_place old (end + i))) → k < end + n → (k < end) ⊎ (end ≤ k) → bit_xor (get_or new (k + 209) 0) (taps_of_place new k) ≡ byte_with c bytes k
folded_read c bytes old new end n k near f before here within (inl below) =
    ap (λ w. bit_xor w (taps_of_place new k)) (before (k + 209) (omega arith))
    ∙ ap (bit_xor (get_or old (k + 209) 0)) (same_taps old new (end + 209) k before (omega arith))
    ∙ f.read k below
folded_read c bytes old new end n k near f before here within (inr from) =
    let i = k - end in
    let there : end + i ≡ k = omega arith in
    let place : k + 209 ≡ end + 209 + i = omega arith in
    let b = byte_with c bytes k in
    let t = taps_of_place old k in
    let put : get_or new (k + 209) 0 ≡ bit_xor b t = ap (λ j. get_or new j 0) place ∙ here i (omega arith) ∙ ap (λ j. bit_xor (byte_with c bytes j) (taps_of_place old j)) there in
    ap (λ w. bit_xor w (taps_of_place new k)) put
    ∙ ap (bit_xor (bit_xor b t)) (same_taps old new (end + 209) k before (omega arith))
    ∙ xor_assoc b t t ∙ ap (bit_xor b) (xor_self t) ∙ xor_zero_r b

folded_more : (c : ℕ) (bytes old new : List ℕ) (end n : ℕ) → n ≤ 65 → IsFolded c bytes old end → ((i : ℕ) → i < end + 209 → get_or new i 0 ≡ get_or old i 0) → ((i : ℕ) → i < n → get_or new (end + 209 + i) 0 ≡ bit_xor (byte_with c bytes (end + i)) (taps_of_place old (end + i))) → ((i : ℕ) → end + 209 + n ≤ i → get_or new i 0 ≡ get_or old i 0) → IsFolded c bytes new (end + n)
folded_more c bytes old new end n near f before here behind = record {
  front = λ k within. before k (omega arith) ∙ f.front k within;
  read = λ k within. folded_read c bytes old new end n k near f before here within (cases_lt k end);
  behind = λ k past. behind k (omega arith) ∙ f.behind k (omega arith);
}

pub folded_on : (c : ℕ) (bytes old new : List ℕ) (end : ℕ) → 4 ≤ end → IsFolded c bytes old end → IsFoldedOn old new bytes end → IsFolded c bytes new (end + 32)
folded_on c bytes old new end later f on =
    folded_more c bytes old new end 32 (omega arith) f on.before
    (λ i within. on.here i within ∙ ap (λ w. bit_xor w (taps_of_place old (end + i))) (sym (byte_with_later c (end + i) bytes (omega arith))))
    (λ i past. on.behind i (omega arith))

-- one of the first bytes, which no other reaches
pub folded_byte : (c : ℕ) (bytes old : List ℕ) (end v : ℕ) → end < 65 → end + 209 < length old → IsFolded c bytes old end → v ≡ byte_with c bytes end → IsFolded c bytes (set old (end + 209) v) (end + 1)
folded_byte c bytes old end v near fits f e =
    folded_more c bytes old (set old (end + 209) v) end 1 (omega arith) f
    (λ i within. get_or-set_other old (end + 209) i v 0 (omega arith))
    (λ i within.
    let here : i ≡ 0 = omega arith in
    let one : end + i ≡ end = omega arith in
    get_or-set_at old (end + 209) (end + 209 + i) v 0 (omega arith) fits
    ∙ e ∙ sym (xor_zero_r (byte_with c bytes end))
    ∙ ap (bit_xor (byte_with c bytes end)) (sym (no_taps old end f.front near))
    ∙ ap (λ j. bit_xor (byte_with c bytes j) (taps_of_place old j)) (sym one))
    (λ i past. get_or-set_other old (end + 209) i v 0 (omega arith))

-- each byte of the register has its place among the first four; past them are the bytes as they are
pub read_later : (c k : ℕ) (bytes : List ℕ) (v : ℕ) → 4 ≤ k → v ≡ get_or bytes k 0 → v ≡ byte_with c bytes k
read_later c k bytes v later e = e ∙ sym (byte_with_later c k bytes later)

pub read_first : (c k : ℕ) (bytes first : List ℕ) → first ≡ to_le_bytes w32 c → bit_xor (get_or bytes k 0) (get_or first k 0) ≡ byte_with c bytes k
unfolding byte_with
read_first c k bytes first e = ap (λ l. bit_xor (get_or bytes k 0) (get_or l k 0)) e

-- what a write of 32 bytes leaves
written_on : (old next bytes : List ℕ) (from k m : ℕ) → (m ≡ from + 209) → k ≡ 32 → length next ≡ 32 → from + 241 ≤ length old → ((n : ℕ) → n < 32 → get_or next n 0 ≡ bit_xor (get_or bytes (from + n) 0) (taps_of_place old (from + n))) → IsFoldedOn old (take m old ++ (next ++ drop k (drop m old))) bytes from
written_on old next bytes from k m place e long fits here =
    let front : length (take m old) ≡ m = length-take-le m old (omega arith) in
    record {
      before = λ i within. get_or_append_left (take m old) (next ++ drop k (drop m old)) 0 i (omega arith) ∙ get_or-take m old i 0 (omega arith);
      here = λ n within.
          let there : from + 209 + n - m ≡ n = omega arith in
          get_or-append_right (take m old) (next ++ drop k (drop m old)) m (from + 209 + n) 0 front (omega arith)
          ∙ ap (λ i. get_or (next ++ drop k (drop m old)) i 0) there
          ∙ get_or_append_left next (drop k (drop m old)) 0 n (omega arith)
          ∙ here n within;
      behind = λ i past.
          let there : m + (k + (i - m - 32)) ≡ i = omega arith in
          get_or-append_right (take m old) (next ++ drop k (drop m old)) m i 0 front (omega arith)
          ∙ get_or-append_right next (drop k (drop m old)) 32 (i - m) 0 long (omega arith)
          ∙ get_or-drop k (drop m old) (i - m - 32) 0
          ∙ get_or-drop m old (k + (i - m - 32)) 0
          ∙ ap (λ j. get_or old j 0) there;
    }

pub folded_here : (old next new bytes : List ℕ) (from k m : ℕ) → new ≡ next → (m ≡ from + 209) → k ≡ 32 → length next ≡ 32 → from + 241 ≤ length old → ((n : ℕ) → n < 32 → get_or next n 0 ≡ bit_xor (get_or bytes (from + n) 0) (taps_of_place old (from + n))) → IsFoldedOn old (take m old ++ (new ++ drop k (drop m old))) bytes from
folded_here old next new bytes from k m same place e long fits here =
    subst (λ (l : List ℕ). IsFoldedOn old (take m old ++ (l ++ drop k (drop m old))) bytes from) (sym same) (written_on old next bytes from k m place e long fits here)

one_more_at : (bytes folded next : List ℕ) (from n v : ℕ) → n < length next → v ≡ taps_of_place folded (from + n) → ((k : ℕ) → k < n → get_or next k 0 ≡ bit_xor (get_or bytes (from + k) 0) (taps_of_place folded (from + k))) → (k : ℕ) → (k < n) ⊎ (n ≤ k) → k < n + 1 → get_or (set next n (bit_xor (get_or bytes (from + n) 0) v)) k 0 ≡ bit_xor (get_or bytes (from + k) 0) (taps_of_place folded (from + k))
one_more_at bytes folded next from n v within e below k (inl low) small =
    get_or-set_other next n k (bit_xor (get_or bytes (from + n) 0) v) 0 (omega arith) ∙ below k low
one_more_at bytes folded next from n v within e below k (inr high) small =
    let same : n ≡ k = omega arith in
    get_or-set_at next n k (bit_xor (get_or bytes (from + n) 0) v) 0 (sym same) within
    ∙ ap (bit_xor (get_or bytes (from + n) 0)) e
    ∙ ap (λ j. bit_xor (get_or bytes (from + j) 0) (taps_of_place folded (from + j))) same

-- one byte more of what is left, or of 32 bytes that are folded at once
pub one_more : (bytes folded next : List ℕ) (from n v : ℕ) → n < length next → v ≡ taps_of_place folded (from + n) → ((k : ℕ) → k < n → get_or next k 0 ≡ bit_xor (get_or bytes (from + k) 0) (taps_of_place folded (from + k))) → (k : ℕ) → k < n + 1 → get_or (set next n (bit_xor (get_or bytes (from + n) 0) v)) k 0 ≡ bit_xor (get_or bytes (from + k) 0) (taps_of_place folded (from + k))
one_more bytes folded next from n v within e below k small = one_more_at bytes folded next from n v within e below k (cases_lt k n) small

of_zeros : (n k : ℕ) → get_or {A = ℕ} (replicate n 0) k 0 ≡ 0
of_zeros zero k = refl
of_zeros (suc n) zero = refl
of_zeros (suc n) (suc k) = of_zeros n k

pub nothing_folded : (c : ℕ) (bytes folded : List ℕ) → folded ≡ replicate 1392 0 → IsFolded c bytes folded 0
nothing_folded c bytes folded e = record {
  front = λ k within. ap (λ l. get_or l k 0) e ∙ of_zeros 1392 k;
  read = λ k within. absurd (omega arith);
  behind = λ k past. ap (λ l. get_or l k 0) e ∙ of_zeros 1392 k;
}

-- ---- what is left
with_first_four : (c : ℕ) (bytes : List ℕ) (end : ℕ) → c < 2 ^ 32 → after_bytes c (λ k. get_or bytes k 0) (end + 224) ≡ after_bytes 0 (byte_with c bytes) (end + 224)
unfolding byte_with
with_first_four c bytes end small =
    let n = end + 224 in
    let many : n ≡ suc (suc (suc (suc (end + 220)))) = omega arith in
    let g : ℕ → ℕ = λ k. bit_xor (get_or bytes k 0) (high k c % 256) in
    with_register c n (λ k. get_or bytes k 0)
    ∙ ap (bit_xor (after_bytes 0 g n)) (ap (λ m. high m c) many ∙ high_gone c (end + 220) small)
    ∙ xor_zero_r (after_bytes 0 g n)
    ∙ same_bytes 0 n g (byte_with c bytes) (λ k within. ap (bit_xor (get_or bytes k 0)) (sym (byte_of_register c k small)))

byte_with_small : (c k : ℕ) (bytes : List ℕ) → c < 2 ^ 32 → get_or bytes k 0 < 256 → byte_with c bytes k < 256
unfolding byte_with
byte_with_small c k bytes small bytewise = xor_of_8 (get_or bytes k 0) (get_or (to_le_bytes w32 c) k 0) bytewise (omega (arith, byte_of_register c k small))

taps_small : (folded : List ℕ) (k : ℕ) → ((i : ℕ) → i < k + 209 → get_or folded i 0 < 256) → taps_of_place folded k < 256
unfolding taps_of_place
taps_small folded k below =
    let a = get_or folded (k + 144) 0 in
    let b = get_or folded (k + 54) 0 in
    let c = get_or folded (k + 39) 0 in
    let d = get_or folded (k + 14) 0 in
    let ab = xor_of_8 a b (below (k + 144) (omega arith)) (below (k + 54) (omega arith)) in
    let abc = xor_of_8 (bit_xor a b) c ab (below (k + 39) (omega arith)) in
    let abcd = xor_of_8 (bit_xor (bit_xor a b) c) d abc (below (k + 14) (omega arith)) in
    xor_of_8 (bit_xor (bit_xor (bit_xor a b) c) d) (get_or folded k 0) abcd (below k (omega arith))

folded_small_at : (c : ℕ) (bytes folded : List ℕ) (end m : ℕ) → IsFolded c bytes folded end → ((k : ℕ) → byte_with c bytes k < 256) → ((i : ℕ) → i < m → get_or folded i 0 < 256) → (m < 209) ⊎ (209 ≤ m) → (m < end + 209) ⊎ (end + 209 ≤ m) → get_or folded m 0 < 256
folded_small_at c bytes folded end m f small below (inl front) last = omega (arith, f.front m front)
folded_small_at c bytes folded end m f small below (inr high) (inr past) = omega (arith, f.behind m past)
folded_small_at c bytes folded end m f small below (inr high) (inl within) =
    let k = m - 209 in
    let there : m ≡ k + 209 = omega arith in
    let b = get_or folded (k + 209) 0 in
    let t = taps_of_place folded k in
    let taken : b ≡ bit_xor (byte_with c bytes k) t = sym (xor_zero_r b) ∙ ap (bit_xor b) (sym (xor_self t)) ∙ sym (xor_assoc b t t) ∙ ap (λ w. bit_xor w t) (f.read k (omega arith)) in
    let here : get_or folded m 0 ≡ bit_xor (byte_with c bytes k) t = ap (λ i. get_or folded i 0) there ∙ taken in
    omega (arith, here, xor_of_8 (byte_with c bytes k) t (small k) (taps_small folded k (λ i low. below i (omega arith))))

-- what is folded is bytes
folded_small : (c : ℕ) (bytes folded : List ℕ) (end m i : ℕ) → IsFolded c bytes folded end → ((k : ℕ) → byte_with c bytes k < 256) → i < m → get_or folded i 0 < 256
folded_small c bytes folded end zero i f small within = absurd (omega arith)
folded_small c bytes folded end (suc m) i f small within =
    folded_small_at c bytes folded end i f small (λ j low. folded_small c bytes folded end m j f small (omega arith)) (cases_lt i 209) (cases_lt i (end + 209))

pub left_by_folding : (c : ℕ) (bytes folded rest : List ℕ) (end : ℕ) → c < 2 ^ 32 → length bytes ≡ end + 224 → 4 ≤ end → length rest ≡ 224 → ((k : ℕ) → Fits w8 (get_or bytes k 0)) → IsFolded c bytes folded end → ((k : ℕ) → k < 224 → get_or rest k 0 ≡ bit_xor (get_or bytes (end + k) 0) (taps_of_place folded (end + k))) → register_after 0 rest ≡ register_after c bytes
left_by_folding c bytes folded rest end small long later short bytewise f e =
    let n = end + 224 in
    let small_folded : (k : ℕ) → get_or folded k 0 < 256 = λ k. folded_small c bytes folded end (suc k) k f (λ j. byte_with_small c j bytes small (omega (arith, bytewise j))) (omega arith) in
    let p : ℕ → ℕ = λ k. bit_xor (get_or folded (k + 209) 0) (taps_of_place folded k) in
    let d : ℕ → ℕ = λ k. bit_xor (byte_with c bytes k) (p k) in
    let whole : register_after c bytes ≡ after_bytes 0 (byte_with c bytes) n = register_of_list c bytes ∙ ap (after_bytes c (λ k. get_or bytes k 0)) long ∙ with_first_four c bytes end small in
    let both : after_bytes 0 d n ≡ after_bytes 0 (byte_with c bytes) n = bytes_xor n (byte_with c bytes) p ∙ ap (bit_xor (after_bytes 0 (byte_with c bytes) n)) (with_copies_gone folded end f.front f.behind small_folded) ∙ xor_zero_r (after_bytes 0 (byte_with c bytes) n) in
    let turned : n ≡ 224 + end = omega arith in
    let skipped : after_bytes 0 d n ≡ after_bytes 0 (λ k. d (k + end)) 224 = ap (after_bytes 0 d) turned ∙ skip_zeros end 224 d (λ k within. ap (bit_xor (byte_with c bytes k)) (f.read k within) ∙ xor_self (byte_with c bytes k)) in
    let last : after_bytes 0 (λ k. get_or rest k 0) 224 ≡ after_bytes 0 (λ k. d (k + end)) 224 = same_bytes 0 224 (λ k. get_or rest k 0) (λ k. d (k + end)) (λ k within.
    let there : end + k ≡ k + end = omega arith in
    e k within
    ∙ ap (λ j. bit_xor (get_or bytes j 0) (taps_of_place folded j)) there
    ∙ ap (λ w. bit_xor w (taps_of_place folded (k + end))) (sym (byte_with_later c (k + end) bytes (omega arith)))
    ∙ ap (λ w. bit_xor (byte_with c bytes (k + end)) (bit_xor w (taps_of_place folded (k + end)))) (sym (f.behind (k + end + 209) (omega arith)))) in
    register_of_list 0 rest ∙ ap (after_bytes 0 (λ k. get_or rest k 0)) short ∙ last ∙ sym skipped ∙ both ∙ sym whole
