-- The register after the bytes of a stream: leading zeros do nothing, and a byte followed by its five
-- copies leaves nothing. That these are a multiple of the polynomial the checker computes for each of
-- the eight bits.
use Rattle.std.proofs.Common.{◌≡◌, ℕ, zero, suc, ◌+◌, ◌-◌, ◌*◌, ◌/◌, ◌%◌, ◌^◌, ◌<◌, ◌≤◌, ◌⊎◌, List, [], ◌∷◌, length, get_or, refl, sym, ap, ◌∙◌, inl, inr, arith, zero-add}
use Rattle.std.specs.Int.Bits.{bit_xor, xor_zero_r, xor_assoc, xor_shifted}
use Rattle.std.specs.Int.{w32, to_le_bytes}
use Rattle.std.proofs.Math.Nat.{pow-suc}
use Rattle.std.proofs.lemmas.Bool.{cases_lt}
use Rattle.dcsctp_wire_checksum.specs.Crc32c.{bit_step, eight_bit_steps, byte_step, register_after}
use Rattle.dcsctp_wire_checksum.specs.Folds.{taps_of_place}
use Rattle.dcsctp_wire_checksum.proofs.Crc32cLemmas.{xor_pairs, eight_bit_steps_xor, byte_step_low, register_after_next, register_after_none}

-- ---- the register after the first n of the bytes f, and after n zeros
pub after_bytes : ℕ → (ℕ → ℕ) → ℕ → ℕ
after_bytes c f zero = c
after_bytes c f (suc n) = byte_step (after_bytes c f n) (f n)

after_zeros : ℕ → ℕ → ℕ
after_zeros zero c = c
after_zeros (suc n) c = eight_bit_steps (after_zeros n c)

byte_step_xor : (a b x y : ℕ) → byte_step (bit_xor a b) (bit_xor x y) ≡ bit_xor (byte_step a x) (byte_step b y)
unfolding byte_step
byte_step_xor a b x y = ap eight_bit_steps (xor_pairs a b x y) ∙ eight_bit_steps_xor (bit_xor a x) (bit_xor b y)

byte_step_zero : (c : ℕ) → byte_step c 0 ≡ eight_bit_steps c
unfolding byte_step
byte_step_zero c = ap eight_bit_steps (xor_zero_r c)

byte_step_from_zero : (b : ℕ) → byte_step 0 b ≡ eight_bit_steps b
unfolding byte_step
byte_step_from_zero b = refl

step_of_zeros : byte_step 0 0 ≡ 0
unfolding byte_step eight_bit_steps bit_step
step_of_zeros = refl

pub same_bytes : (c n : ℕ) (f g : ℕ → ℕ) → ((k : ℕ) → k < n → f k ≡ g k) → after_bytes c f n ≡ after_bytes c g n
unfolding after_bytes
same_bytes c zero f g e = refl
same_bytes c (suc n) f g e =
    ap (λ w. byte_step w (f n)) (same_bytes c n f g (λ k within. e k (omega arith)))
    ∙ ap (byte_step (after_bytes c g n)) (e n (omega arith))

pub bytes_xor : (n : ℕ) (f g : ℕ → ℕ) → after_bytes 0 (λ k. bit_xor (f k) (g k)) n ≡ bit_xor (after_bytes 0 f n) (after_bytes 0 g n)
unfolding after_bytes
bytes_xor zero f g = refl
bytes_xor (suc n) f g =
    ap (λ w. byte_step w (bit_xor (f n) (g n))) (bytes_xor n f g)
    ∙ byte_step_xor (after_bytes 0 f n) (after_bytes 0 g n) (f n) (g n)

nothing_read : (n : ℕ) (f : ℕ → ℕ) → ((k : ℕ) → k < n → f k ≡ 0) → after_bytes 0 f n ≡ 0
unfolding after_bytes
nothing_read zero f e = refl
nothing_read (suc n) f e =
    ap (λ w. byte_step w (f n)) (nothing_read n f (λ k within. e k (omega arith)))
    ∙ ap (byte_step 0) (e n (omega arith)) ∙ step_of_zeros

-- zeros at the front do nothing
pub skip_zeros : (d n : ℕ) (f : ℕ → ℕ) → ((k : ℕ) → k < d → f k ≡ 0) → after_bytes 0 f (n + d) ≡ after_bytes 0 (λ k. f (k + d)) n
unfolding after_bytes
skip_zeros d zero f e = ap (after_bytes 0 f) (zero-add d) ∙ nothing_read d f e
skip_zeros d (suc n) f e =
    let next : suc n + d ≡ suc (n + d) = omega arith in
    ap (after_bytes 0 f) next ∙ ap (λ w. byte_step w (f (n + d))) (skip_zeros d n f e)

zeros_behind : (m j : ℕ) (f : ℕ → ℕ) → ((k : ℕ) → m ≤ k → f k ≡ 0) → after_bytes 0 f (j + m) ≡ after_zeros j (after_bytes 0 f m)
unfolding after_bytes after_zeros
zeros_behind m zero f e = ap (after_bytes 0 f) (zero-add m)
zeros_behind m (suc j) f e =
    let next : suc j + m ≡ suc (j + m) = omega arith in
    ap (after_bytes 0 f) next
    ∙ ap (byte_step (after_bytes 0 f (j + m))) (e (j + m) (omega arith))
    ∙ byte_step_zero (after_bytes 0 f (j + m))
    ∙ ap eight_bit_steps (zeros_behind m j f e)

from_first : (c n : ℕ) (f : ℕ → ℕ) → after_bytes c f (suc n) ≡ after_bytes (byte_step c (f 0)) (λ k. f (suc k)) n
unfolding after_bytes
from_first c zero f = refl
from_first c (suc n) f = ap (λ w. byte_step w (f (suc n))) (from_first c n f)

pub register_of_list : (c : ℕ) (bs : List ℕ) → register_after c bs ≡ after_bytes c (λ k. get_or bs k 0) (length bs)
unfolding after_bytes
register_of_list c [] = register_after_none c
register_of_list c (b ∷ bs) =
    register_after_next c b bs ∙ register_of_list (byte_step c b) bs
    ∙ sym (from_first c (length bs) (λ k. get_or (b ∷ bs) k 0))

-- ---- the register goes into the first four bytes
pub high : ℕ → ℕ → ℕ
high zero c = c
high (suc n) c = high n c / 256

pub with_register : (c n : ℕ) (f : ℕ → ℕ) → after_bytes c f n ≡ bit_xor (after_bytes 0 (λ k. bit_xor (f k) (high k c % 256)) n) (high n c)
unfolding after_bytes high
with_register c zero f = refl
with_register c (suc n) f =
    let g : ℕ → ℕ = λ k. bit_xor (f k) (high k c % 256) in
    let a = after_bytes 0 g n in
    let d = high n c in
    let low = d % 256 in
    let one : byte_step 0 low ≡ eight_bit_steps low = byte_step_from_zero low in
    let two : byte_step d 0 ≡ bit_xor (eight_bit_steps low) (d / 256) = byte_step_low d 0 ∙ ap (λ w. bit_xor (eight_bit_steps w) (d / 256)) (xor_zero_r low) in
    ap (λ w. byte_step w (f n)) (with_register c n f)
    ∙ ap (byte_step (bit_xor a d)) (sym (xor_zero_r (f n)))
    ∙ byte_step_xor a d (f n) 0
    ∙ ap (bit_xor (byte_step a (f n))) (two ∙ ap (λ w. bit_xor w (d / 256)) (sym one))
    ∙ sym (xor_assoc (byte_step a (f n)) (byte_step 0 low) (d / 256))
    ∙ ap (λ w. bit_xor w (d / 256)) (sym (byte_step_xor a 0 (f n) low) ∙ ap (λ w. byte_step w (bit_xor (f n) low)) (xor_zero_r a))

pub high_gone : (c k : ℕ) → c < 2 ^ 32 → high (suc (suc (suc (suc k)))) c ≡ 0
unfolding high
high_gone c zero small = omega arith
high_gone c (suc k) small = ap (λ w. w / 256) (high_gone c k small)

pub byte_of_register : (c k : ℕ) → c < 2 ^ 32 → get_or (to_le_bytes w32 c) k 0 ≡ high k c % 256
unfolding high
byte_of_register c zero small = omega arith
byte_of_register c (suc zero) small = omega arith
byte_of_register c (suc (suc zero)) small = omega arith
byte_of_register c (suc (suc (suc zero))) small = omega arith
byte_of_register c (suc (suc (suc (suc k)))) small = sym (ap (λ w. w % 256) (high_gone c k small))

-- ---- a byte and its five copies
of_six : ℕ → ℕ → ℕ → ℕ → ℕ → ℕ → ℕ
of_six a b c d e f = bit_xor a (bit_xor (bit_xor (bit_xor (bit_xor b c) d) e) f)

of_six_xor : (a b c d e f s t u v w x : ℕ) → of_six (bit_xor a s) (bit_xor b t) (bit_xor c u) (bit_xor d v) (bit_xor e w) (bit_xor f x) ≡ bit_xor (of_six a b c d e f) (of_six s t u v w x)
unfolding of_six
of_six_xor a b c d e f s t u v w x =
    let bc = bit_xor b c in
    let tu = bit_xor t u in
    let two : bit_xor (bit_xor b t) (bit_xor c u) ≡ bit_xor bc tu = xor_pairs b t c u in
    let three = ap (λ y. bit_xor y (bit_xor d v)) two ∙ xor_pairs bc tu d v in
    let four = ap (λ y. bit_xor y (bit_xor e w)) three ∙ xor_pairs (bit_xor bc d) (bit_xor tu v) e w in
    let five = ap (λ y. bit_xor y (bit_xor f x)) four ∙ xor_pairs (bit_xor (bit_xor bc d) e) (bit_xor (bit_xor tu v) w) f x in
    ap (bit_xor (bit_xor a s)) five ∙ xor_pairs a s (bit_xor (bit_xor (bit_xor bc d) e) f) (bit_xor (bit_xor (bit_xor tu v) w) x)

zeros_xor : (n a b : ℕ) → after_zeros n (bit_xor a b) ≡ bit_xor (after_zeros n a) (after_zeros n b)
unfolding after_zeros
zeros_xor zero a b = refl
zeros_xor (suc n) a b = ap eight_bit_steps (zeros_xor n a b) ∙ eight_bit_steps_xor (after_zeros n a) (after_zeros n b)

zeros_eight : (n c : ℕ) → after_zeros n (eight_bit_steps c) ≡ eight_bit_steps (after_zeros n c)
unfolding after_zeros
zeros_eight zero c = refl
zeros_eight (suc n) c = ap eight_bit_steps (zeros_eight n c)

-- what a register and its five copies have become, 15 places after the last
with_copies : ℕ → ℕ
with_copies c = of_six (after_zeros 224 c) (after_zeros 159 c) (after_zeros 69 c) (after_zeros 54 c) (after_zeros 29 c) (after_zeros 15 c)

with_copies_xor : (a b : ℕ) → with_copies (bit_xor a b) ≡ bit_xor (with_copies a) (with_copies b)
unfolding with_copies
with_copies_xor a b = rw (zeros_xor 224 a b, zeros_xor 159 a b, zeros_xor 69 a b, zeros_xor 54 a b, zeros_xor 29 a b, zeros_xor 15 a b) (of_six_xor _ _ _ _ _ _ _ _ _ _ _ _)

with_copies_eight : (c : ℕ) → with_copies (eight_bit_steps c) ≡ eight_bit_steps (with_copies c)
unfolding with_copies of_six
with_copies_eight c = rw (zeros_eight 224 c, zeros_eight 159 c, zeros_eight 69 c, zeros_eight 54 c, zeros_eight 29 c, zeros_eight 15 c) (sym (simp eight_bit_steps_xor))

copies_of_zero : with_copies 0 ≡ 0
unfolding with_copies of_six after_zeros eight_bit_steps bit_step
copies_of_zero = refl

copies_of_bit : (k : ℕ) → k < 8 → with_copies (2 ^ k) ≡ 0
unfolding with_copies of_six after_zeros eight_bit_steps bit_step
copies_of_bit zero small = refl
copies_of_bit (suc zero) small = refl
copies_of_bit (suc (suc zero)) small = refl
copies_of_bit (suc (suc (suc zero))) small = refl
copies_of_bit (suc (suc (suc (suc zero)))) small = refl
copies_of_bit (suc (suc (suc (suc (suc zero))))) small = refl
copies_of_bit (suc (suc (suc (suc (suc (suc zero)))))) small = refl
copies_of_bit (suc (suc (suc (suc (suc (suc (suc zero))))))) small = refl
copies_of_bit (suc (suc (suc (suc (suc (suc (suc (suc k)))))))) small = absurd (omega arith)

copies_of_half : (k b : ℕ) → suc k ≤ 8 → b < 2 ^ k + 2 ^ k → ((r : ℕ) → k ≤ 8 → r < 2 ^ k → with_copies r ≡ 0) → (b < 2 ^ k) ⊎ (2 ^ k ≤ b) → with_copies b ≡ 0
copies_of_half k b le small below (inl low) = below b (omega arith) low
copies_of_half k b le small below (inr high) =
    let rest = b - 2 ^ k in
    let fits : rest < 2 ^ k = omega arith in
    let parts : b ≡ bit_xor (1 * 2 ^ k) rest = omega (arith, xor_shifted 1 k rest fits) in
    let one : 1 * 2 ^ k ≡ 2 ^ k = omega arith in
    ap with_copies (parts ∙ ap (λ w. bit_xor w rest) one)
    ∙ with_copies_xor (2 ^ k) rest
    ∙ ap (λ w. bit_xor w (with_copies rest)) (copies_of_bit k (omega arith))
    ∙ below rest (omega arith) fits

eight_of_zero : eight_bit_steps 0 ≡ 0
unfolding eight_bit_steps bit_step
eight_of_zero = refl

copies_of_byte : (k b : ℕ) → k ≤ 8 → b < 2 ^ k → with_copies b ≡ 0
copies_of_byte zero b le small =
    let none : b ≡ 0 = omega arith in
    ap with_copies none ∙ copies_of_zero
copies_of_byte (suc k) b le small = copies_of_half k b le (omega (arith, pow-suc 2 k)) (copies_of_byte k) (cases_lt b (2 ^ k))

vanishes : (n : ℕ) (f : ℕ → ℕ) → ((k : ℕ) → f k < 256) → with_copies (after_bytes 0 f n) ≡ 0
unfolding after_bytes byte_step
vanishes zero f small = copies_of_zero
vanishes (suc n) f small =
    let c = after_bytes 0 f n in
    with_copies_eight (bit_xor c (f n))
    ∙ ap eight_bit_steps (with_copies_xor c (f n) ∙ ap (λ w. bit_xor w (with_copies (f n))) (vanishes n f small) ∙ copies_of_byte 8 (f n) (omega arith) (small n))
    ∙ eight_of_zero

-- ---- all bytes that are folded, with their copies, leave nothing
shifted : (f : ℕ → ℕ) (d j end : ℕ) → ((k : ℕ) → k < 209 → f k ≡ 0) → ((k : ℕ) → end + 209 ≤ k → f k ≡ 0) → d ≤ 209 → j ≡ d + 15 → after_bytes 0 (λ k. f (k + d)) (end + 224) ≡ after_zeros j (after_bytes 0 f (end + 209))
shifted f d j end front behind le e =
    let all : end + 224 + d ≡ j + (end + 209) = omega arith in
    sym (skip_zeros d (end + 224) f (λ k within. front k (omega arith)))
    ∙ ap (after_bytes 0 f) all
    ∙ zeros_behind (end + 209) j f behind

pub with_copies_gone : (out : List ℕ) (end : ℕ) → ((k : ℕ) → k < 209 → get_or out k 0 ≡ 0) → ((k : ℕ) → end + 209 ≤ k → get_or out k 0 ≡ 0) → ((k : ℕ) → get_or out k 0 < 256) → after_bytes 0 (λ k. bit_xor (get_or out (k + 209) 0) (taps_of_place out k)) (end + 224) ≡ 0
unfolding taps_of_place with_copies of_six
with_copies_gone out end front behind small =
    let n = end + 224 in
    let o : ℕ → ℕ = λ k. get_or out k 0 in
    let a : ℕ → ℕ = λ k. get_or out (k + 209) 0 in
    let b : ℕ → ℕ = λ k. get_or out (k + 144) 0 in
    let c : ℕ → ℕ = λ k. get_or out (k + 54) 0 in
    let d : ℕ → ℕ = λ k. get_or out (k + 39) 0 in
    let e : ℕ → ℕ = λ k. get_or out (k + 14) 0 in
    let bc : ℕ → ℕ = λ k. bit_xor (b k) (c k) in
    let bcd : ℕ → ℕ = λ k. bit_xor (bc k) (d k) in
    let bcde : ℕ → ℕ = λ k. bit_xor (bcd k) (e k) in
    let s1 = bytes_xor n b c in
    let s2 = bytes_xor n bc d ∙ ap (λ w. bit_xor w (after_bytes 0 d n)) s1 in
    let s3 = bytes_xor n bcd e ∙ ap (λ w. bit_xor w (after_bytes 0 e n)) s2 in
    let s4 = bytes_xor n bcde o ∙ ap (λ w. bit_xor w (after_bytes 0 o n)) s3 in
    let s5 = bytes_xor n a (taps_of_place out) ∙ ap (bit_xor (after_bytes 0 a n)) s4 in
    let last : n ≡ 15 + (end + 209) = omega arith in
    let ea = shifted o 209 224 end front behind (omega arith) refl in
    let eb = shifted o 144 159 end front behind (omega arith) refl in
    let ec = shifted o 54 69 end front behind (omega arith) refl in
    let ed = shifted o 39 54 end front behind (omega arith) refl in
    let ee = shifted o 14 29 end front behind (omega arith) refl in
    let ef : after_bytes 0 o n ≡ after_zeros 15 (after_bytes 0 o (end + 209)) = ap (after_bytes 0 o) last ∙ zeros_behind (end + 209) 15 o behind in
    s5 ∙ rw (ea, eb, ec, ed, ee, ef) (vanishes (end + 209) o small)
