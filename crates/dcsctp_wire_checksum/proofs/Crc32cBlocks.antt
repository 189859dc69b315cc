-- The register of CRC32c after a byte, four bytes and sixteen, as the exclusive or of what each byte
-- alone has become by the block's end.
use Rattle.std.proofs.Common.{◌≡◌, ℕ, ◌+◌, ◌-◌, ◌/◌, ◌%◌, ◌^◌, ◌<◌, ◌≤◌, List, [], ◌∷◌, ◌++◌, length, get_or, take, drop, slice_range, replicate, bit_and, refl, sym, ap, ◌∙◌, arith, add-one}
use Rattle.std.specs.Int.Bits.{bit_xor, xor_zero_r, xor_assoc}
use Rattle.std.proofs.Math.Seq.{take-add}
use Rattle.std.specs.Int.{w32, from_le_bytes}
use Rattle.std.proofs.lemmas.Nat.{and_mask, xor_mod, xor_shr}
use Rattle.std.proofs.lemmas.List.{append_assoc, drop_more, drop-drop, at_drop_more, at_drop_all, take_rest, append-nil, length-replicate, length-append}
use Rattle.std.proofs.lemmas.List.Edits.{length-between}
use Rattle.std.proofs.lemmas.List.Folds.{drop_split}
use Rattle.dcsctp_wire_checksum.specs.Crc32c.{eight_bit_steps, register_after}
use Rattle.dcsctp_wire_checksum.proofs.Crc32cLemmas.{byte_step_low, register_after_next, register_after_none, register_after_zero, register_after_xor, register_after-append, zeros_keep_zero}

-- What the byte b, exclusive or the register's byte c, has become after it and n bytes of zero
abbrev part : ℕ → ℕ → ℕ → ℕ
part c b n = register_after (bit_xor c b) (replicate (n + 1) 0)

-- ---- one byte
after_byte : (c b : ℕ) (bs : List ℕ) (n : ℕ) → length bs ≡ n → register_after c (b ∷ bs) ≡ bit_xor (part (c % 256) b n) (register_after (c / 256) bs)
after_byte c b bs n e =
    let low = bit_xor (c % 256) b in
    register_after_next c b bs
    ∙ ap (λ w. register_after w bs) (byte_step_low c b)
    ∙ register_after_xor bs (eight_bit_steps low) (c / 256)
    ∙ ap (λ w. bit_xor w (register_after (c / 256) bs)) (sym (register_after_zero low (length bs)))
    ∙ ap (λ m. bit_xor (register_after low (replicate m 0)) (register_after (c / 256) bs)) (sym (add-one (length bs)) ∙ ap (λ m. m + 1) e)

-- the loop over single bytes keeps what is left from the start
pub left_after_byte : (c x : ℕ) (bs : List ℕ) (i : ℕ) → i < length bs → x ≡ part (bit_and c 255) (get_or bs i 0) 0 → register_after (bit_xor x (c / 256)) (drop (i + 1) bs) ≡ register_after c (drop i bs)
left_after_byte c x bs i within e =
    let b = get_or bs i 0 in
    let low = bit_xor (c % 256) b in
    let entry : x ≡ eight_bit_steps low = e ∙ ap (λ w. part w b 0) (and_mask c 8) ∙ register_after_zero low 0 ∙ register_after_none (eight_bit_steps low) in
    ap (λ w. register_after w (drop (i + 1) bs)) (ap (λ w. bit_xor w (c / 256)) entry ∙ sym (byte_step_low c b))
    ∙ sym (register_after_next c b (drop (i + 1) bs))
    ∙ sym (at_drop_more (register_after c) bs i 0 within)

pub left_at_end : (c : ℕ) (bs : List ℕ) (i : ℕ) → length bs ≤ i → c ≡ register_after c (drop i bs)
left_at_end c bs i past = sym (at_drop_all (register_after c) bs i past ∙ register_after_none c)

-- ---- four bytes
xor_four : (x y z w : ℕ) → bit_xor x (bit_xor y (bit_xor z w)) ≡ bit_xor (bit_xor (bit_xor x y) z) w
xor_four x y z w = sym (xor_assoc x y (bit_xor z w)) ∙ sym (xor_assoc (bit_xor x y) z w)

four_parts : (c b0 b1 b2 b3 n : ℕ) → c < 2 ^ 32 → register_after c (b0 ∷ b1 ∷ b2 ∷ b3 ∷ replicate n 0) ≡ bit_xor (bit_xor (bit_xor (part (c % 256) b0 (n + 3)) (part (c / 256 % 256) b1 (n + 2))) (part (c / 256 / 256 % 256) b2 (n + 1))) (part (c / 256 / 256 / 256 % 256) b3 n)
four_parts c b0 b1 b2 b3 n small =
    let zeros : List ℕ = replicate n 0 in
    let l : length zeros ≡ n = length-replicate n 0 in
    let over : c / 256 / 256 / 256 / 256 ≡ 0 = omega arith in
    let x0 = part (c % 256) b0 (n + 3) in
    let x1 = part (c / 256 % 256) b1 (n + 2) in
    let x2 = part (c / 256 / 256 % 256) b2 (n + 1) in
    let x3 = part (c / 256 / 256 / 256 % 256) b3 n in
    let last : register_after (c / 256 / 256 / 256 / 256) zeros ≡ 0 = ap (λ w. register_after w zeros) over ∙ zeros_keep_zero n in
    let e3 : register_after (c / 256 / 256 / 256) (b3 ∷ zeros) ≡ x3 = after_byte (c / 256 / 256 / 256) b3 zeros n l ∙ ap (bit_xor x3) last ∙ xor_zero_r x3 in
    let e2 = after_byte (c / 256 / 256) b2 (b3 ∷ zeros) (n + 1) (omega arith) in
    let e1 = after_byte (c / 256) b1 (b2 ∷ b3 ∷ zeros) (n + 2) (omega arith) in
    let e0 = after_byte c b0 (b1 ∷ b2 ∷ b3 ∷ zeros) (n + 3) (omega arith) in
    e0 ∙ ap (bit_xor x0) (e1 ∙ ap (bit_xor x1) (e2 ∙ ap (bit_xor x2) e3)) ∙ xor_four x0 x1 x2 x3

-- the bytes of a word of four bytes
byte_0_of_word : (c v b0 b1 b2 b3 : ℕ) → b0 < 256 → v ≡ from_le_bytes w32 (b0 ∷ b1 ∷ b2 ∷ b3 ∷ []) → bit_and (bit_xor c v) 255 ≡ bit_xor (c % 256) b0
byte_0_of_word c v b0 b1 b2 b3 small e =
    let low : v % 256 ≡ b0 = omega arith in
    and_mask (bit_xor c v) 8 ∙ xor_mod c v 8 ∙ ap (bit_xor (c % 256)) low

byte_1_of_word : (c v b0 b1 b2 b3 : ℕ) → b0 < 256 → b1 < 256 → v ≡ from_le_bytes w32 (b0 ∷ b1 ∷ b2 ∷ b3 ∷ []) → bit_and (bit_xor c v / 256) 255 ≡ bit_xor (c / 256 % 256) b1
byte_1_of_word c v b0 b1 b2 b3 s0 s1 e =
    let low : v / 256 % 256 ≡ b1 = omega arith in
    and_mask (bit_xor c v / 256) 8 ∙ ap (λ w. w % 256) (xor_shr c v 8) ∙ xor_mod (c / 256) (v / 256) 8 ∙ ap (bit_xor (c / 256 % 256)) low

byte_2_of_word : (c v b0 b1 b2 b3 : ℕ) → b0 < 256 → b1 < 256 → b2 < 256 → v ≡ from_le_bytes w32 (b0 ∷ b1 ∷ b2 ∷ b3 ∷ []) → bit_and (bit_xor c v / 65536) 255 ≡ bit_xor (c / 256 / 256 % 256) b2
byte_2_of_word c v b0 b1 b2 b3 s0 s1 s2 e =
    let low : v / 65536 % 256 ≡ b2 = omega arith in
    let same : c / 65536 % 256 ≡ c / 256 / 256 % 256 = omega arith in
    and_mask (bit_xor c v / 65536) 8 ∙ ap (λ w. w % 256) (xor_shr c v 16) ∙ xor_mod (c / 65536) (v / 65536) 8
    ∙ ap (bit_xor (c / 65536 % 256)) low ∙ ap (λ w. bit_xor w b2) same

byte_3_of_word : (c v b0 b1 b2 b3 : ℕ) → c < 2 ^ 32 → b0 < 256 → b1 < 256 → b2 < 256 → v ≡ from_le_bytes w32 (b0 ∷ b1 ∷ b2 ∷ b3 ∷ []) → bit_xor c v / 16777216 ≡ bit_xor (c / 256 / 256 / 256 % 256) b3
byte_3_of_word c v b0 b1 b2 b3 small s0 s1 s2 e =
    let low : v / 16777216 ≡ b3 = omega arith in
    let same : c / 16777216 ≡ c / 256 / 256 / 256 % 256 = omega arith in
    xor_shr c v 24 ∙ ap (bit_xor (c / 16777216)) low ∙ ap (λ w. bit_xor w b3) same

-- what the code looks up at a block's first four bytes, whose word is v
pub first_four_by_entries : (c v b0 b1 b2 b3 n x0 x1 x2 x3 : ℕ) → c < 2 ^ 32 → b0 < 256 → b1 < 256 → b2 < 256 → v ≡ from_le_bytes w32 (b0 ∷ b1 ∷ b2 ∷ b3 ∷ []) → x0 ≡ register_after (bit_and (bit_xor c v) 255) (replicate (n + 3 + 1) 0) → x1 ≡ register_after (bit_and (bit_xor c v / 256) 255) (replicate (n + 2 + 1) 0) → x2 ≡ register_after (bit_and (bit_xor c v / 65536) 255) (replicate (n + 1 + 1) 0) → x3 ≡ register_after (bit_xor c v / 16777216) (replicate (n + 1) 0) → bit_xor (bit_xor (bit_xor x0 x1) x2) x3 ≡ register_after c (b0 ∷ b1 ∷ b2 ∷ b3 ∷ replicate n 0)
first_four_by_entries c v b0 b1 b2 b3 n x0 x1 x2 x3 small s0 s1 s2 e e0 e1 e2 e3 =
    let m0 = byte_0_of_word c v b0 b1 b2 b3 s0 e in
    let m1 = byte_1_of_word c v b0 b1 b2 b3 s0 s1 e in
    let m2 = byte_2_of_word c v b0 b1 b2 b3 s0 s1 s2 e in
    let m3 = byte_3_of_word c v b0 b1 b2 b3 small s0 s1 s2 e in
    rw (e0, e1, e2, e3, m0, m1, m2, m3) (sym (four_parts c b0 b1 b2 b3 n small))

-- what it looks up at four bytes alone
pub next_four_by_entries : (b0 b1 b2 b3 n x0 x1 x2 x3 : ℕ) → x0 ≡ register_after b0 (replicate (n + 3 + 1) 0) → x1 ≡ register_after b1 (replicate (n + 2 + 1) 0) → x2 ≡ register_after b2 (replicate (n + 1 + 1) 0) → x3 ≡ register_after b3 (replicate (n + 1) 0) → bit_xor (bit_xor (bit_xor x0 x1) x2) x3 ≡ register_after 0 (b0 ∷ b1 ∷ b2 ∷ b3 ∷ replicate n 0)
next_four_by_entries b0 b1 b2 b3 n x0 x1 x2 x3 e0 e1 e2 e3 = rw (e0, e1, e2, e3) (sym (four_parts 0 b0 b1 b2 b3 n (omega arith)))

drop_next : (bs : List ℕ) (i j : ℕ) → i < length bs → j ≡ i + 1 → drop i bs ≡ get_or bs i 0 ∷ drop j bs
drop_next bs i j within e = drop_more bs i 0 within ∙ ap (λ k. get_or bs i 0 ∷ drop k bs) (sym e)

pub next_four : (bs : List ℕ) (at : ℕ) → at + 4 ≤ length bs → slice_range bs at (at + 4) ≡ get_or bs at 0 ∷ get_or bs (at + 1) 0 ∷ get_or bs (at + 2) 0 ∷ get_or bs (at + 3) 0 ∷ []
next_four bs at within =
    let four : at + 4 - at ≡ 4 = omega arith in
    let e0 = drop_next bs at (at + 1) (omega arith) (omega arith) in
    let e1 = drop_next bs (at + 1) (at + 2) (omega arith) (omega arith) in
    let e2 = drop_next bs (at + 2) (at + 3) (omega arith) (omega arith) in
    let e3 = drop_next bs (at + 3) (at + 4) (omega arith) (omega arith) in
    rw (four, e0, e1, e2, e3) refl

-- ---- sixteen bytes
-- the last bytes may be taken in alone
split_last : (c : ℕ) (xs ys : List ℕ) (n : ℕ) → length ys ≡ n → register_after c (xs ++ ys) ≡ bit_xor (register_after c (xs ++ replicate n 0)) (register_after 0 ys)
split_last c xs ys n e =
    register_after-append c xs ys
    ∙ ap (λ w. register_after w ys) (sym (xor_zero_r (register_after c xs)))
    ∙ register_after_xor ys (register_after c xs) 0
    ∙ ap (λ m. bit_xor (register_after (register_after c xs) (replicate m 0)) (register_after 0 ys)) e
    ∙ ap (λ w. bit_xor w (register_after 0 ys)) (sym (register_after-append c xs (replicate n 0)))

sixteen_parts : (c : ℕ) (w0 w1 w2 w3 : List ℕ) → length w1 ≡ 4 → length w2 ≡ 4 → length w3 ≡ 4 → register_after c (w0 ++ (w1 ++ (w2 ++ w3))) ≡ bit_xor (bit_xor (bit_xor (register_after c (w0 ++ replicate 12 0)) (register_after 0 (w1 ++ replicate 8 0))) (register_after 0 (w2 ++ replicate 4 0))) (register_after 0 (w3 ++ []))
sixteen_parts c w0 w1 w2 w3 l1 l2 l3 =
    let x0 = register_after c (w0 ++ replicate 12 0) in
    let x1 = register_after 0 (w1 ++ replicate 8 0) in
    let x2 = register_after 0 (w2 ++ replicate 4 0) in
    let n2 : length (w2 ++ w3) ≡ 8 = omega (arith, length-append w2 w3) in
    let n1 : length (w1 ++ (w2 ++ w3)) ≡ 12 = omega (arith, length-append w1 (w2 ++ w3), n2) in
    let e2 : register_after 0 (w2 ++ w3) ≡ bit_xor x2 (register_after 0 (w3 ++ [])) = split_last 0 w2 w3 4 l3 ∙ ap (λ w. bit_xor x2 (register_after 0 w)) (sym (append-nil w3)) in
    let e1 = split_last 0 w1 (w2 ++ w3) 8 n2 in
    let e0 = split_last c w0 (w1 ++ (w2 ++ w3)) 12 n1 in
    e0 ∙ ap (bit_xor x0) (e1 ∙ ap (bit_xor x1) e2) ∙ xor_four x0 x1 x2 (register_after 0 (w3 ++ []))

slice_parts : (bs : List ℕ) (i j k : ℕ) → i ≤ j → j ≤ k → slice_range bs i k ≡ slice_range bs i j ++ slice_range bs j k
slice_parts bs i j k low high =
    let whole : k - i ≡ j - i + (k - j) = omega arith in
    let there : i + (j - i) ≡ j = omega arith in
    ap (λ n. take n (drop i bs)) whole
    ∙ take-add (j - i) (k - j) (drop i bs)
    ∙ ap (λ ds. take (j - i) (drop i bs) ++ take (k - j) ds) (drop-drop (j - i) i bs ∙ ap (λ n. drop n bs) there)

pub block_by_fours : (c : ℕ) (bs : List ℕ) (at x0 x1 x2 x3 : ℕ) → at + 16 ≤ length bs → x0 ≡ register_after c (slice_range bs at (at + 4) ++ replicate 12 0) → x1 ≡ register_after 0 (slice_range bs (at + 4) (at + 4 + 4) ++ replicate 8 0) → x2 ≡ register_after 0 (slice_range bs (at + 8) (at + 8 + 4) ++ replicate 4 0) → x3 ≡ register_after 0 (slice_range bs (at + 12) (at + 12 + 4) ++ []) → bit_xor (bit_xor (bit_xor x0 x1) x2) x3 ≡ register_after c (slice_range bs at (at + 16))
block_by_fours c bs at x0 x1 x2 x3 within e0 e1 e2 e3 =
    let w0 = slice_range bs at (at + 4) in
    let w1 = slice_range bs (at + 4) (at + 4 + 4) in
    let w2 = slice_range bs (at + 8) (at + 8 + 4) in
    let w3 = slice_range bs (at + 12) (at + 12 + 4) in
    let n1 : length w1 ≡ 4 = length-between bs (at + 4) (at + 4 + 4) (omega arith) ∙ omega arith in
    let n2 : length w2 ≡ 4 = length-between bs (at + 8) (at + 8 + 4) (omega arith) ∙ omega arith in
    let n3 : length w3 ≡ 4 = length-between bs (at + 12) (at + 12 + 4) (omega arith) ∙ omega arith in
    let a8 : at + 4 + 4 ≡ at + 8 = omega arith in
    let a12 : at + 8 + 4 ≡ at + 12 = omega arith in
    let a16 : at + 12 + 4 ≡ at + 16 = omega arith in
    let s0 = slice_parts bs at (at + 4) (at + 16) (omega arith) (omega arith) in
    let s1 : slice_range bs (at + 4) (at + 16) ≡ w1 ++ slice_range bs (at + 8) (at + 16) = slice_parts bs (at + 4) (at + 4 + 4) (at + 16) (omega arith) (omega arith) ∙ ap (λ i. w1 ++ slice_range bs i (at + 16)) a8 in
    let s2 : slice_range bs (at + 8) (at + 16) ≡ w2 ++ slice_range bs (at + 12) (at + 16) = slice_parts bs (at + 8) (at + 8 + 4) (at + 16) (omega arith) (omega arith) ∙ ap (λ i. w2 ++ slice_range bs i (at + 16)) a12 in
    let s3 : slice_range bs (at + 12) (at + 16) ≡ w3 = ap (slice_range bs (at + 12)) (sym a16) in
    let whole : slice_range bs at (at + 16) ≡ w0 ++ (w1 ++ (w2 ++ w3)) = s0 ∙ ap (λ w. w0 ++ w) (s1 ∙ ap (λ w. w1 ++ w) (s2 ∙ ap (λ w. w2 ++ w) s3)) in
    rw (e0, e1, e2, e3) (sym (ap (register_after c) whole ∙ sixteen_parts c w0 w1 w2 w3 n1 n2 n3))

-- the loops over blocks and over pieces keep what is left from the start
pub left_after_part : (c x : ℕ) (bs : List ℕ) (at end : ℕ) → at ≤ end → x ≡ register_after c (slice_range bs at end) → register_after x (drop end bs) ≡ register_after c (drop at bs)
left_after_part c x bs at end forward e =
    ap (λ w. register_after w (drop end bs)) e
    ∙ sym (register_after-append c (slice_range bs at end) (drop end bs))
    ∙ sym (ap (register_after c) (drop_split bs at end forward))

-- ---- a packet, whose checksum field counts as zeros
-- the code takes in its first eight bytes and four zeros at once
eight_parts : (c : ℕ) (w0 w1 : List ℕ) → length w1 ≡ 4 → register_after c ((w0 ++ w1) ++ replicate 4 0) ≡ bit_xor (register_after c (w0 ++ replicate 8 0)) (register_after 0 (w1 ++ replicate 4 0))
eight_parts c w0 w1 l1 =
    let n1 : length (w1 ++ replicate 4 0) ≡ 8 = omega (arith, length-append w1 (replicate 4 0)) in
    ap (register_after c) (append_assoc w0 w1 (replicate 4 0))
    ∙ split_last c w0 (w1 ++ replicate 4 0) 8 n1

pub packet_by_parts : (c : ℕ) (packet : List ℕ) (x0 x1 z : ℕ) → 12 ≤ length packet → x0 ≡ register_after c (slice_range packet 0 4 ++ replicate 8 0) → x1 ≡ register_after 0 (slice_range packet 4 8 ++ replicate 4 0) → z ≡ register_after (bit_xor x0 x1) (take (length packet - 12) (drop 12 packet)) → z ≡ register_after c (take 8 packet ++ replicate 4 0 ++ drop 12 packet)
packet_by_parts c packet x0 x1 z long e0 e1 e2 =
    let w0 = slice_range packet 0 4 in
    let w1 = slice_range packet 4 8 in
    let n1 : length w1 ≡ 4 = length-between packet 4 8 (omega arith) ∙ omega arith in
    let first : take 8 packet ≡ w0 ++ w1 = slice_parts packet 0 4 8 (omega arith) (omega arith) in
    let header : bit_xor x0 x1 ≡ register_after c (take 8 packet ++ replicate 4 0) = ap (λ w. bit_xor w x1) e0 ∙ ap (bit_xor (register_after c (w0 ++ replicate 8 0))) e1 ∙ sym (eight_parts c w0 w1 n1) ∙ ap (λ w. register_after c (w ++ replicate 4 0)) (sym first) in
    e2
    ∙ ap (register_after (bit_xor x0 x1)) (take_rest packet 12)
    ∙ ap (λ w. register_after w (drop 12 packet)) header
    ∙ sym (register_after-append c (take 8 packet ++ replicate 4 0) (drop 12 packet))
