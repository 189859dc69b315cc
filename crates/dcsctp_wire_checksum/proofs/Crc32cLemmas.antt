-- Laws of the register of CRC32c: its steps are linear over exclusive or, and its high bytes move down.
use Rattle.std.proofs.Common.{◌≡◌, ℕ, zero, suc, ◌*◌, ◌/◌, ◌%◌, ◌<◌, ◌⊎◌, List, [], ◌∷◌, ◌++◌, length, replicate, refl, sym, ap, ◌∙◌, inl, inr, arith}
use Rattle.std.specs.Int.Bits.{bit_xor, xor_self, xor_zero_r, xor_assoc, xor_shifted}
use Rattle.std.proofs.lemmas.Nat.{xor_comm, xor_shr, xor_mod}
use Rattle.std.proofs.lemmas.List.Sums.{fold-append}
use Rattle.dcsctp_wire_checksum.specs.Crc32c.{polynomial, bit_step, eight_bit_steps, byte_step, register_after}

xor_swap : (x y z : ℕ) → bit_xor (bit_xor x y) z ≡ bit_xor (bit_xor x z) y
xor_swap x y z = xor_assoc x y z ∙ ap (bit_xor x) (xor_comm y z) ∙ sym (xor_assoc x z y)

xor_both : (x y z : ℕ) → bit_xor (bit_xor x z) (bit_xor y z) ≡ bit_xor x y
xor_both x y z =
    sym (xor_assoc (bit_xor x z) y z) ∙ ap (λ w. bit_xor w z) (xor_swap x z y)
    ∙ xor_assoc (bit_xor x y) z z ∙ ap (bit_xor (bit_xor x y)) (xor_self z) ∙ xor_zero_r (bit_xor x y)

pub xor_pairs : (a b x y : ℕ) → bit_xor (bit_xor a b) (bit_xor x y) ≡ bit_xor (bit_xor a x) (bit_xor b y)
xor_pairs a b x y =
    sym (xor_assoc (bit_xor a b) x y) ∙ ap (λ w. bit_xor w y) (xor_swap a b x) ∙ xor_assoc (bit_xor a x) b y

-- ---- a bit step is linear
pub bit_step_even : (c : ℕ) → c % 2 ≡ 0 → bit_step c ≡ c / 2
unfolding bit_step
bit_step_even c even = rw even refl

pub bit_step_odd : (c : ℕ) → c % 2 ≡ 1 → bit_step c ≡ bit_xor (c / 2) polynomial
unfolding bit_step
bit_step_odd c odd = rw odd refl

bit_cases : (bit : ℕ) → bit < 2 → (bit ≡ 0) ⊎ (bit ≡ 1)
bit_cases zero small = inl refl
bit_cases (suc n) small = inr (omega arith)

pub parity : (c : ℕ) → (c % 2 ≡ 0) ⊎ (c % 2 ≡ 1)
parity c = bit_cases (c % 2) (omega arith)

bit_step_both : (a b : ℕ) → (a % 2 ≡ 0) ⊎ (a % 2 ≡ 1) → (b % 2 ≡ 0) ⊎ (b % 2 ≡ 1) → bit_step (bit_xor a b) ≡ bit_xor (bit_step a) (bit_step b)
bit_step_both a b (inl p) (inl q) =
    let low : bit_xor a b % 2 ≡ 0 = rw (xor_mod a b 1, p, q) refl in
    rw (bit_step_even (bit_xor a b) low, bit_step_even a p, bit_step_even b q) (xor_shr a b 1)
bit_step_both a b (inl p) (inr q) =
    let low : bit_xor a b % 2 ≡ 1 = rw (xor_mod a b 1, p, q) refl in
    rw (bit_step_odd (bit_xor a b) low, bit_step_even a p, bit_step_odd b q, xor_shr a b 1)
    (xor_assoc (a / 2) (b / 2) polynomial)
bit_step_both a b (inr p) (inl q) =
    let low : bit_xor a b % 2 ≡ 1 = rw (xor_mod a b 1, p, q) refl in
    rw (bit_step_odd (bit_xor a b) low, bit_step_odd a p, bit_step_even b q, xor_shr a b 1)
    (xor_swap (a / 2) (b / 2) polynomial)
bit_step_both a b (inr p) (inr q) =
    let low : bit_xor a b % 2 ≡ 0 = rw (xor_mod a b 1, p, q) refl in
    rw (bit_step_even (bit_xor a b) low, bit_step_odd a p, bit_step_odd b q, xor_shr a b 1)
    (sym (xor_both (a / 2) (b / 2) polynomial))

bit_step_xor : (a b : ℕ) → bit_step (bit_xor a b) ≡ bit_xor (bit_step a) (bit_step b)
bit_step_xor a b = bit_step_both a b (parity a) (parity b)

pub eight_bit_steps_xor : (a b : ℕ) → eight_bit_steps (bit_xor a b) ≡ bit_xor (eight_bit_steps a) (eight_bit_steps b)
unfolding eight_bit_steps
eight_bit_steps_xor a b = simp bit_step_xor

-- ---- a high byte moves down
bit_step_double : (x : ℕ) → bit_step (x * 2) ≡ x
bit_step_double x = bit_step_even (x * 2) (omega arith) ∙ omega arith

eight_bit_steps_shifted : (x : ℕ) → eight_bit_steps (x * 256) ≡ x
unfolding eight_bit_steps
eight_bit_steps_shifted x =
    let e : x * 256 ≡ x * 2 * 2 * 2 * 2 * 2 * 2 * 2 * 2 = omega arith in
    rw e (simp bit_step_double)

pub byte_step_low : (c b : ℕ) → byte_step c b ≡ bit_xor (eight_bit_steps (bit_xor (c % 256) b)) (c / 256)
unfolding byte_step
byte_step_low c b =
    let whole : bit_xor (c / 256 * 256) (c % 256) ≡ c = xor_shifted (c / 256) 8 (c % 256) (omega arith) ∙ omega arith in
    ap (λ w. eight_bit_steps (bit_xor w b)) (sym whole)
    ∙ ap eight_bit_steps (xor_assoc (c / 256 * 256) (c % 256) b)
    ∙ eight_bit_steps_xor (c / 256 * 256) (bit_xor (c % 256) b)
    ∙ ap (λ w. bit_xor w (eight_bit_steps (bit_xor (c % 256) b))) (eight_bit_steps_shifted (c / 256))
    ∙ xor_comm (c / 256) (eight_bit_steps (bit_xor (c % 256) b))

-- ---- the register after several bytes
pub register_after_next : (c b : ℕ) (bs : List ℕ) → register_after c (b ∷ bs) ≡ register_after (byte_step c b) bs
unfolding register_after
register_after_next c b bs = refl

pub register_after_none : (c : ℕ) → register_after c [] ≡ c
unfolding register_after
register_after_none c = refl

pub register_after_zero : (c n : ℕ) → register_after c (replicate (suc n) 0) ≡ register_after (eight_bit_steps c) (replicate n 0)
unfolding byte_step
register_after_zero c n =
    register_after_next c 0 (replicate n 0)
    ∙ ap (λ w. register_after (eight_bit_steps w) (replicate n 0)) (xor_zero_r c)

pub zeros_keep_zero : (n : ℕ) → register_after 0 (replicate n 0) ≡ 0
unfolding register_after byte_step eight_bit_steps bit_step
zeros_keep_zero zero = refl
zeros_keep_zero (suc n) = zeros_keep_zero n

pub register_after-append : (c : ℕ) (xs ys : List ℕ) → register_after c (xs ++ ys) ≡ register_after (register_after c xs) ys
unfolding register_after
register_after-append c xs ys = fold-append byte_step c xs ys

-- the exclusive or of two registers takes in bytes: one of the two takes in zeros in their place
pub register_after_xor : (bs : List ℕ) (a b : ℕ) → register_after (bit_xor a b) bs ≡ bit_xor (register_after a (replicate (length bs) 0)) (register_after b bs)
unfolding register_after byte_step
register_after_xor [] a b = refl
register_after_xor (x ∷ bs) a b =
    register_after_next (bit_xor a b) x bs
    ∙ ap (λ w. register_after (eight_bit_steps w) bs) (xor_assoc a b x)
    ∙ ap (λ w. register_after w bs) (eight_bit_steps_xor a (bit_xor b x))
    ∙ register_after_xor bs (eight_bit_steps a) (eight_bit_steps (bit_xor b x))
    ∙ ap (λ w. bit_xor w (register_after (eight_bit_steps (bit_xor b x)) bs)) (sym (register_after_zero a (length bs)))
    ∙ ap (bit_xor (register_after a (replicate (suc (length bs)) 0))) (sym (register_after_next b x bs))
