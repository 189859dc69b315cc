-- The gap ack blocks of a SACK, read back, are the first ranges that were received.
use Rattle.std.proofs.Common.{◌≡◌, ◌⊎◌, inl, inr, ℕ, zero, suc, ◌+◌, ◌-◌, ◌*◌, ◌/◌, ◌^◌, ◌<◌, ◌≤◌, nat_le, Bool, true, false, ◌&&◌, ◌||◌, List, [], ◌∷◌, ◌++◌, map, length, take, drop, min, max, if◌then◌else◌, refl, sym, ◌∙◌, ap, arith}
use Rattle.std.specs.List.{flat_map, list_any, range_with_len, AllByRecursion}
use Rattle.std.specs.Int.{w16, w32, to_be_bytes, from_be_bytes}
use Rattle.std.proofs.lemmas.Bool.Decides.{nat_tests}
use Rattle.std.proofs.lemmas.List.{length-take, length-map}
use Rattle.std.proofs.lemmas.Nat.{from_be_bytes-to_be_bytes_2}
use Rattle.dcsctp_spec_lemmas.specs.wire.CleanBlocks.{blocks_of_bytes, names, AreApart}
use Rattle.dcsctp_spec_lemmas.specs.wire.Fields.{numbered_gap_ack_block}
use Rattle.dcsctp_spec_lemmas.specs.wire.declared.chunk.sack.GapAckBlock.{GapAckBlock}
use Rattle.dcsctp_spec_lemmas.specs.types.declared.tracking.TsnRange.{TsnRange}
use Rattle.dcsctp_spec_lemmas.specs.spec.queues.Ranges.{IsBeyond, is_number_covered}
use Rattle.dcsctp_spec_lemmas.specs.spec.queues.Tracker.{block_bytes, most_blocks, most_duplicates, blocks_that_fit, duplicates_left, sack_of, sack_header_size, forward_tsn_room, greatest_distance}
use Rattle.dcsctp_spec_laws.specs.SackLaws.{sack_blocks, sack_size, SacksCoverReceived, SacksFit}

-- ---- reading back

abbrev block : ℕ → ℕ → GapAckBlock
block start end = record { start = start; end = end }

abbrev block_of : ℕ → TsnRange → GapAckBlock
block_of cumulative range = block (range.first - cumulative) (range.last - cumulative)

-- No range is too far ahead of the cumulative number.
abbrev AreNear : ℕ → List TsnRange → Type 0
AreNear cumulative [] = Unit {0}
AreNear cumulative (range ∷ ranges) = (range.first ≤ range.last) × (range.last ≤ cumulative + greatest_distance) × AreNear cumulative ranges

pub blocks_len : (cumulative : ℕ) (ranges : List TsnRange) → length (flat_map (block_bytes cumulative) ranges) ≡ 4 * length ranges
blocks_len cumulative [] = refl
blocks_len cumulative (range ∷ ranges) = let rest = blocks_len cumulative ranges in omega (arith, rest)

same_block : (start end start' end' : ℕ) → start ≡ start' → end ≡ end' → block start end ≡ block start' end'
same_block start end start' end' first last = cc

-- Each block has four bytes.
four_on : (n m cumulative : ℕ) (range : TsnRange) (rest : List ℕ) → n ≡ m + 4 → drop n (block_bytes cumulative range ++ rest) ≡ drop m rest
four_on n m cumulative range rest is =
    let same : n ≡ suc (suc (suc (suc m))) = omega (arith, is) in
    ap (λ (k : ℕ). drop k (block_bytes cumulative range ++ rest)) same

block_later : (index cumulative : ℕ) (range : TsnRange) (rest : List ℕ)
    → numbered_gap_ack_block (index + 1) (block_bytes cumulative range ++ rest) ≡ numbered_gap_ack_block index rest
block_later index cumulative range rest =
    same_block _ _ _ _
    (ap (λ (bytes : List ℕ). from_be_bytes w16 (take 2 bytes)) (four_on (4 * (index + 1)) (4 * index) cumulative range rest (omega arith)))
    (ap (λ (bytes : List ℕ). from_be_bytes w16 (take 2 bytes)) (four_on (4 * (index + 1) + 2) (4 * index + 2) cumulative range rest (omega arith)))

block_first : (cumulative : ℕ) (range : TsnRange) (rest : List ℕ) → range.first ≤ range.last → range.last ≤ cumulative + greatest_distance
    → numbered_gap_ack_block 0 (block_bytes cumulative range ++ rest) ≡ block_of cumulative range
block_first cumulative range rest filled near =
    same_block _ _ _ _ (from_be_bytes-to_be_bytes_2 (range.first - cumulative) (omega (arith, filled, near)))
    (from_be_bytes-to_be_bytes_2 (range.last - cumulative) (omega (arith, near)))

shifted : {X : Type 0} (f : ℕ → X) (from n : ℕ) → map f (range_with_len (from + 1) n) ≡ map (λ index. f (index + 1)) (range_with_len from n)
shifted f from zero = refl
shifted f from (suc n) = ap (λ rest. f (from + 1) ∷ rest) (shifted f (from + 1) n)

map_same : {X : Type 0} (f g : ℕ → X) → ((index : ℕ) → f index ≡ g index) → (indices : List ℕ) → map f indices ≡ map g indices
map_same f g same [] = refl
map_same f g same (index ∷ indices) = ap (λ first. first ∷ map f indices) (same index) ∙ ap (λ rest. g index ∷ rest) (map_same f g same indices)

blocks_at : (cumulative : ℕ) (ranges : List TsnRange) → AreNear cumulative ranges
    → map (λ index. numbered_gap_ack_block index (flat_map (block_bytes cumulative) ranges)) (range_with_len 0 (length ranges))
    ≡ map (block_of cumulative) ranges
blocks_at cumulative [] near = refl
blocks_at cumulative (range ∷ ranges) near =
    let rest : List ℕ = flat_map (block_bytes cumulative) ranges in
    let bytes : List ℕ = block_bytes cumulative range ++ rest in
    ap (λ first. first ∷ map (λ index. numbered_gap_ack_block index bytes) (range_with_len 1 (length ranges)))
    (block_first cumulative range rest near.0 near.1)
    ∙ ap (λ later. block_of cumulative range ∷ later)
    (shifted (λ index. numbered_gap_ack_block index bytes) 0 (length ranges)
    ∙ map_same (λ index. numbered_gap_ack_block (index + 1) bytes) (λ index. numbered_gap_ack_block index rest)
    (λ index. block_later index cumulative range rest) (range_with_len 0 (length ranges))
    ∙ blocks_at cumulative ranges near.2)

blocks_read : (cumulative : ℕ) (ranges : List TsnRange) → AreNear cumulative ranges
    → blocks_of_bytes (flat_map (block_bytes cumulative) ranges) ≡ map (block_of cumulative) ranges
blocks_read cumulative ranges near =
    let count : length (flat_map (block_bytes cumulative) ranges) / 4 ≡ length ranges = omega (arith, blocks_len cumulative ranges) in
    ap (λ n. map (λ index. numbered_gap_ack_block index (flat_map (block_bytes cumulative) ranges)) (range_with_len 0 n)) count
    ∙ blocks_at cumulative ranges near

-- ---- ranges

either : (a b : Bool) → (a || b) ≡ true → (a ≡ true) ⊎ ((a ≡ false) × (b ≡ true))
either true b is = inl refl
either false b is = inr (refl, is)

neither : (a b : Bool) → (a || b) ≡ false → (a ≡ false) × (b ≡ false)
neither true b is = absurd (cc)
neither false b is = (refl, is)

or_true : (a b : Bool) → b ≡ true → (a || b) ≡ true
or_true true b is = refl
or_true false b is = is

true_or : (a b : Bool) → a ≡ true → (a || b) ≡ true
true_or true b is = refl
true_or false b is = absurd (cc)

-- Is it in this one range?
abbrev within : ℕ → TsnRange → Bool
within number range = nat_le range.first number && nat_le number range.last

within_above : (number : ℕ) (range : TsnRange) → within number range ≡ true → (range.first ≤ number) × (number ≤ range.last)
within_above number range is = (grind (arith, nat_tests, is), grind (arith, nat_tests, is))

-- What is in ranges beyond a number is beyond it.
above : (from number : ℕ) (ranges : List TsnRange) → IsBeyond from ranges → is_number_covered number ranges ≡ true → from + 1 < number
above from number [] beyond is = absurd (cc)
above from number (range ∷ ranges) beyond is = elim (either (within number range) (is_number_covered number ranges) is) [
  | inl here ↦ omega (arith, within_above number range here, beyond.0)
  | inr (not_here, later) ↦ omega (arith, above range.last number ranges beyond.2 later, beyond.0, beyond.1)
]

last_within : (range : TsnRange) → range.first ≤ range.last → within range.last range ≡ true
last_within range filled = grind (arith, nat_tests)

near_of : (cumulative from : ℕ) (ranges : List TsnRange) → IsBeyond from ranges
    → ((number : ℕ) → is_number_covered number ranges ≡ true → number ≤ cumulative + greatest_distance) → AreNear cumulative ranges
near_of cumulative from [] beyond near = tt
near_of cumulative from (range ∷ ranges) beyond near = (
  beyond.1,
  near range.last (true_or (within range.last range) (is_number_covered range.last ranges) (last_within range beyond.1)),
  near_of cumulative range.last ranges beyond.2 (λ number is. near number (or_true (within number range) (is_number_covered number ranges) is)),
)

-- ---- the first ranges

beyond_take : (k from : ℕ) (ranges : List TsnRange) → IsBeyond from ranges → IsBeyond from (take k ranges)
beyond_take zero from ranges beyond = tt
beyond_take (suc k) from [] beyond = tt
beyond_take (suc k) from (range ∷ ranges) beyond = (beyond.0, beyond.1, beyond_take k range.last ranges beyond.2)

in_take : (k number : ℕ) (ranges : List TsnRange) → is_number_covered number (take k ranges) ≡ true → is_number_covered number ranges ≡ true
in_take zero number ranges is = absurd (cc)
in_take (suc k) number [] is = absurd (cc)
in_take (suc k) number (range ∷ ranges) is = elim (either (within number range) (is_number_covered number (take k ranges)) is) [
  | inl here ↦ true_or (within number range) (is_number_covered number ranges) here
  | inr (not_here, later) ↦ or_true (within number range) (is_number_covered number ranges) (in_take k number ranges later)
]

take_all : (k : ℕ) (ranges : List TsnRange) → length ranges ≤ k → take k ranges ≡ ranges
take_all zero [] few = refl
take_all zero (range ∷ ranges) few = absurd (omega (arith, few))
take_all (suc k) [] few = refl
take_all (suc k) (range ∷ ranges) few = ap (λ rest. range ∷ rest) (take_all k ranges (omega (arith, few)))

-- What isn't in the first ranges is after them.
after_first : (k from number other : ℕ) (ranges : List TsnRange) → IsBeyond from ranges → is_number_covered number (take k ranges) ≡ true
    → is_number_covered other ranges ≡ true → is_number_covered other (take k ranges) ≡ false → number < other
after_first zero from number other ranges beyond first is not_first = absurd (cc)
after_first (suc k) from number other [] beyond first is not_first = absurd (cc)
after_first (suc k) from number other (range ∷ ranges) beyond first is not_first =
    let absent = neither (within other range) (is_number_covered other (take k ranges)) not_first in
    let later : is_number_covered other ranges ≡ true = go (within other range) (is_number_covered other ranges) absent.0 is in
    elim (either (within number range) (is_number_covered number (take k ranges)) first) [
      | inl here ↦ omega (arith, within_above number range here, above range.last other ranges beyond.2 later)
      | inr (not_here, behind) ↦ after_first k range.last number other ranges beyond.2 behind later absent.1
    ]
  where
    go : (a b : Bool) → a ≡ false → (a || b) ≡ true → b ≡ true
    go true b not_here is = absurd (cc)
    go false b not_here is = is

-- ---- what blocks of ranges cover

names_one : (cumulative offset : ℕ) (range : TsnRange) → cumulative < range.first → range.first ≤ range.last
    → names offset (block_of cumulative range) ≡ within (cumulative + offset) range
names_one cumulative offset range ahead filled = grind (arith, nat_tests)

names_in : (cumulative from offset : ℕ) (ranges : List TsnRange) → cumulative ≤ from → IsBeyond from ranges
    → list_any (names offset) (map (block_of cumulative) ranges) ≡ is_number_covered (cumulative + offset) ranges
names_in cumulative from offset [] later beyond = refl
names_in cumulative from offset (range ∷ ranges) later beyond =
    ap (λ here. here || list_any (names offset) (map (block_of cumulative) ranges))
    (names_one cumulative offset range (omega (arith, later, beyond.0)) beyond.1)
    ∙ ap (λ rest. within (cumulative + offset) range || rest)
    (names_in cumulative range.last offset ranges (omega (arith, later, beyond.0, beyond.1)) beyond.2)

blocks_apart : (cumulative from : ℕ) (ranges : List TsnRange) → cumulative ≤ from → IsBeyond from ranges → AreApart (map (block_of cumulative) ranges)
blocks_apart cumulative from [] later beyond = tt
blocks_apart cumulative from (range ∷ []) later beyond = (omega (arith, later, beyond.0), omega (arith, beyond.1))
blocks_apart cumulative from (range ∷ (next ∷ ranges)) later beyond = (
  (omega (arith, later, beyond.0), omega (arith, beyond.1)),
  (
    omega (arith, later, beyond.0, beyond.1, beyond.2.0),
    blocks_apart cumulative range.last (next ∷ ranges) (omega (arith, later, beyond.0, beyond.1)) beyond.2,
  ),
)

blocks_short : (cumulative : ℕ) (ranges : List TsnRange) → AreNear cumulative ranges
    → AllByRecursion (λ b. b.end < 2 ^ 16) (map (block_of cumulative) ranges)
blocks_short cumulative [] near = tt
blocks_short cumulative (range ∷ ranges) near = (omega (arith, near.1), blocks_short cumulative ranges near.2)

-- ---- the SACK

pub sacks_cover_received : SacksCoverReceived
sacks_cover_received room tracker window tracked =
    let c : ℕ = tracker.cumulative in
    let most : ℕ = most_blocks tracker.follows_rfc room in
    let first : List TsnRange = take most tracker.ranges in
    let beyond : IsBeyond c first = beyond_take most c tracker.ranges tracked.beyond in
    let near : AreNear c first = near_of c c first beyond (λ number is. tracked.near number (in_take most number tracker.ranges is)) in
    let read : sack_blocks room tracker window ≡ map (block_of c) first = blocks_read c first near in
    let same = λ (offset : ℕ). ap (λ (blocks : List GapAckBlock). list_any (names offset) blocks) read ∙ names_in c c offset first
    (omega arith) beyond in
    record {
      apart = rw read (blocks_apart c c first (omega arith) beyond);
      gap = same 1 ∙ none_next c first beyond;
      short = rw read (blocks_short c first near);
      many = ap (λ (blocks : List GapAckBlock). length blocks) read ∙ length-map first (block_of c) ∙ omega
          (arith, length-take most tracker.ranges);
      received = λ offset covered. in_take most (c + offset) tracker.ranges (sym (same offset) ∙ covered);
      all = λ few offset is. same offset ∙ ap (λ (ranges : List TsnRange). is_number_covered (c + offset) ranges) (take_all most tracker.ranges few) ∙ is;
      lowest = λ offset other covered is not_covered.
          let less : c + offset < c + other = after_first most c (c + offset) (c + other) tracker.ranges tracked.beyond
          (sym (same offset) ∙ covered) is (sym (same other) ∙ not_covered) in
          omega (arith, less);
    }
  where
    none_next : (cumulative : ℕ) (ranges : List TsnRange) → IsBeyond cumulative ranges → is_number_covered (cumulative + 1) ranges ≡ false
    none_next cumulative ranges beyond = go (is_number_covered (cumulative + 1) ranges) refl
      where
        go : (b : Bool) → is_number_covered (cumulative + 1) ranges ≡ b → is_number_covered (cumulative + 1) ranges ≡ false
        go true is = absurd (omega (arith, above cumulative (cumulative + 1) ranges beyond is))
        go false is = is

-- ---- its size

pub tsns_len : (tsns : List ℕ) → length (flat_map (to_be_bytes w32) tsns) ≡ 4 * length tsns
tsns_len [] = refl
tsns_len (tsn ∷ tsns) = let rest = tsns_len tsns in omega (arith, rest)

pub sacks_fit : SacksFit
sacks_fit room tracker window follows = go tracker.follows_rfc refl follows
  where
    go : (b : Bool) → tracker.follows_rfc ≡ b → b ≡ true
        → sack_header_size + sack_size (sack_of room tracker window) ≤ max sack_header_size (min room 65535 - forward_tsn_room)
    go false is clash = absurd (cc)
    go true is same =
        let most : ℕ = most_blocks tracker.follows_rfc room in
        let left : ℕ = duplicates_left tracker room in
        let blocks = blocks_len tracker.cumulative (take most tracker.ranges) in
        let tsns = tsns_len (take left tracker.duplicates) in
        let fewer : most ≡ blocks_that_fit room = ap (λ (b : Bool). most_blocks b room) is in
        let few : left ≡ min most_duplicates (blocks_that_fit room - length tracker.ranges) = ap
        (λ (b : Bool). if b then min most_duplicates (blocks_that_fit room - length tracker.ranges) else most_duplicates) is in
        omega (arith, blocks, tsns, fewer, few, length-take most tracker.ranges, length-take left tracker.duplicates)
