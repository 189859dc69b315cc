-- Lemmas on gap ack blocks, which are written one after another, and on their distances.
use Rattle.std.proofs.Common.{◌≡◌, ℕ, zero, suc, ◌+◌, ◌-◌, ◌<◌, ◌≤◌, nat_le, ◌&&◌, ◌||◌, List, [], ◌∷◌, ◌++◌, map, take, arith, sym, ◌∙◌, ap, append_assoc}
use Rattle.std.specs.List.{flat_map}
use Rattle.std.specs.Int.{w16, to_be_bytes}
use Rattle.std.proofs.lemmas.List.{append-nil}
use Rattle.dcsctp_spec_lemmas.specs.types.declared.tracking.TsnRange.{TsnRange}
use Rattle.dcsctp_receive_tracker.specs.Received.{range_of}
use Rattle.dcsctp_spec_lemmas.specs.spec.queues.Ranges.{IsBeyond, is_number_covered}
use Rattle.dcsctp_receive_tracker.specs.Acknowledging.{IsWithinReach}
use Rattle.dcsctp_spec_lemmas.specs.spec.queues.Tracker.{block_bytes}
use Rattle.dcsctp_receive_tracker.proofs.ReceivedLemmas.{inside_test, or_true}

-- ---- bytes

-- one more block
pub block_more : (cumulative n m : ℕ) (blocks new whole : List ℕ) (e : ℕ × ℕ) (left rest : List (ℕ × ℕ)) → left ≡ e ∷ rest → n + 1 ≡ m → new ≡ (blocks ++ to_be_bytes w16 (e.0 - cumulative)) ++ to_be_bytes w16 (e.1 - cumulative) → blocks ++ flat_map (block_bytes cumulative) (take m (map range_of left)) ≡ whole → new ++ flat_map (block_bytes cumulative) (take n (map range_of rest)) ≡ whole
block_more cumulative n m blocks new whole e left rest is more added so_far =
    let next : m ≡ suc n = omega arith in
    let taken : take m (map range_of left) ≡ range_of e ∷ take n (map range_of rest) =
    ap (λ (fs : List (ℕ × ℕ)). take m (map range_of fs)) is ∙ ap (λ (count : ℕ). take count (range_of e ∷ map range_of rest)) next in
    ap (λ (bs : List ℕ). bs ++ flat_map (block_bytes cumulative) (take n (map range_of rest))) added
    ∙ append_assoc (blocks ++ to_be_bytes w16 (e.0 - cumulative)) (to_be_bytes w16 (e.1 - cumulative)) (flat_map (block_bytes cumulative) (take n (map range_of rest)))
    ∙ append_assoc blocks (to_be_bytes w16 (e.0 - cumulative)) (to_be_bytes w16 (e.1 - cumulative) ++ flat_map (block_bytes cumulative) (take n (map range_of rest)))
    ∙ ap (λ (bs : List ℕ). blocks ++ bs) (sym (append_assoc (to_be_bytes w16 (e.0 - cumulative)) (to_be_bytes w16 (e.1 - cumulative)) (flat_map (block_bytes cumulative) (take n (map range_of rest)))))
    ∙ sym (ap (λ (ranges : List TsnRange). blocks ++ flat_map (block_bytes cumulative) ranges) taken)
    ∙ so_far

-- the last one was written
pub blocks_whole : (cumulative m : ℕ) (blocks whole : List ℕ) (left : List (ℕ × ℕ)) → (0 < m → left ≡ []) → blocks ++ flat_map (block_bytes cumulative) (take m (map range_of left)) ≡ whole → blocks ≡ whole
blocks_whole cumulative zero blocks whole left none so_far = sym (append-nil blocks) ∙ so_far
blocks_whole cumulative (suc m) blocks whole left none so_far =
    sym (append-nil blocks) ∙ (ap (λ (fs : List (ℕ × ℕ)). blocks ++ flat_map (block_bytes cumulative) (take (suc m) (map range_of fs))) (sym (none (omega arith))) ∙ so_far)

-- ---- distances

-- No range is more than 65,535 beyond the cumulative number.
abbrev pub AreNear : ℕ → List TsnRange → Type 0
AreNear cumulative [] = Unit {0}
AreNear cumulative (range ∷ ranges) = (cumulative < range.first) × (range.first ≤ range.last) × (range.last ≤ cumulative + 65535) × AreNear cumulative ranges

near_from : (cumulative from : ℕ) (ranges : List TsnRange) → cumulative ≤ from → IsBeyond from ranges → IsWithinReach cumulative ranges → AreNear cumulative ranges
near_from cumulative from [] later beyond near = tt
near_from cumulative from (range ∷ ranges) later beyond near =
    let gap : from + 1 < range.first = beyond.0 in
    let filled : range.first ≤ range.last = beyond.1 in (
      omega arith,
      filled,
      near range.last (ap (λ test. test || is_number_covered range.last ranges) (inside_test range.first range.last range.last filled (omega arith))),
      near_from cumulative range.last ranges (omega arith) beyond.2 (λ number is. near number (ap (λ test. (nat_le range.first number && nat_le number range.last) || test) is ∙ or_true (nat_le range.first number && nat_le number range.last))),
    )

pub all_near : (cumulative : ℕ) (ranges : List TsnRange) → IsBeyond cumulative ranges → IsWithinReach cumulative ranges → AreNear cumulative ranges
all_near cumulative ranges beyond near = near_from cumulative cumulative ranges (omega arith) beyond near
