-- A SACK of what was received fits its chunk.
use Rattle.std.proofs.Common.{◌≡◌, ◌+◌, ◌-◌, ◌^◌, ◌<◌, min, if◌then◌else◌, ℕ, Bool, true, false, List, [], ◌∷◌, length, take, ap, arith, refl}
use Rattle.std.specs.List.{flat_map, AllByRecursion}
use Rattle.std.specs.Int.{w32, to_be_bytes}
use Rattle.std.proofs.lemmas.List.{length-take}
use Rattle.dcsctp_spec_lemmas.specs.wire.ReadsBack.{IsByte, FitsSack}
use Rattle.dcsctp_spec_lemmas.specs.types.declared.tracking.TsnRange.{TsnRange}
use Rattle.dcsctp_spec_lemmas.specs.spec.queues.Tracker.{TrackerState, block_bytes, sack_of, sack_header_size, most_blocks, most_duplicates, blocks_that_fit, duplicates_left}
use Rattle.dcsctp_spec_laws.specs.SackLaws.{sack_size}
use Rattle.dcsctp_spec_laws.proofs.SackBlockLemmas.{blocks_len, tsns_len, sacks_fit}

blocks_in_bytes : (cumulative : ℕ) (ranges : List TsnRange) → AllByRecursion IsByte (flat_map (block_bytes cumulative) ranges)
blocks_in_bytes cumulative [] = tt
blocks_in_bytes cumulative (range ∷ ranges) = (omega arith, (omega arith, (omega arith, (omega arith, blocks_in_bytes cumulative ranges))))

tsns_in_bytes : (tsns : List ℕ) → AllByRecursion IsByte (flat_map (to_be_bytes w32) tsns)
tsns_in_bytes [] = tt
tsns_in_bytes (tsn ∷ tsns) = (omega arith, (omega arith, (omega arith, (omega arith, tsns_in_bytes tsns))))

-- Its length has 16 bits.
len_fits : (b : Bool) (room : ℕ) (tracker : TrackerState) (window : ℕ) → tracker.follows_rfc ≡ b → sack_header_size + sack_size (sack_of room tracker window) < 2 ^ 16
len_fits true room tracker window is = let cut = sacks_fit room tracker window is in omega (arith, cut)
len_fits false room tracker window is =
    let most : ℕ = most_blocks tracker.follows_rfc room in
    let left : ℕ = duplicates_left tracker room in
    let blocks = blocks_len tracker.cumulative (take most tracker.ranges) in
    let tsns = tsns_len (take left tracker.duplicates) in
    let few : most ≡ 20 = ap (λ (b : Bool). most_blocks b room) is in
    let fewer : left ≡ 20 = ap
    (λ (b : Bool). if b then min most_duplicates (blocks_that_fit room - length tracker.ranges) else most_duplicates) is in
    omega (arith, blocks, tsns, few, fewer, length-take most tracker.ranges, length-take left tracker.duplicates)

pub sack_fits : (room : ℕ) (tracker : TrackerState) (window : ℕ) → FitsSack (sack_of room tracker window)
sack_fits room tracker window =
    let most : ℕ = most_blocks tracker.follows_rfc room in
    let left : ℕ = duplicates_left tracker room in
    let len = len_fits tracker.follows_rfc room tracker window refl in
    record {
      cumulative_tsn_ack = omega arith;
      a_rwnd = omega arith;
      len_fits = omega (arith, len);
      blocks = record {
        whole = omega (arith, blocks_len tracker.cumulative (take most tracker.ranges));
        entries_in_bytes = blocks_in_bytes tracker.cumulative (take most tracker.ranges);
      };
      duplicates = record {
        whole = omega (arith, tsns_len (take left tracker.duplicates));
        entries_in_bytes = tsns_in_bytes (take left tracker.duplicates);
      };
    }
