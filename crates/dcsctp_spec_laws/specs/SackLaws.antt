-- Which TSNs a SACK's gap ack blocks cover (RFC 9260, section 3.3.4).
use Rattle.std.specs.Prelude.{◌≡◌, ℕ, ◌+◌, ◌-◌, ◌^◌, ◌<◌, ◌≤◌, Bool, true, false, min, max, List, length}
use Rattle.std.specs.List.{list_any, AllByRecursion}
use Rattle.dcsctp_spec_lemmas.specs.wire.Content.{SackContent}
use Rattle.dcsctp_spec_lemmas.specs.wire.CleanBlocks.{blocks_of_bytes, names, AreApart}
use Rattle.dcsctp_spec_lemmas.specs.wire.declared.chunk.sack.GapAckBlock.{GapAckBlock}
use Rattle.dcsctp_spec_lemmas.specs.spec.queues.Ranges.{IsBeyond, is_number_covered}
use Rattle.dcsctp_spec_lemmas.specs.types.declared.options.Options.{Options}
use Rattle.dcsctp_spec_lemmas.specs.spec.queues.Tracker.{TrackerState, new_tracker, tracker_after_data, after_forward, is_valid_tsn, sack_of, sack_header_size, forward_tsn_room, most_blocks, greatest_distance}

-- the blocks of a tracker's SACK for that much room, as its receiver reads them
abbrev pub sack_blocks : ℕ → TrackerState → ℕ → List GapAckBlock
sack_blocks room tracker window = blocks_of_bytes (sack_of room tracker window).gap_ack_blocks

-- how many bytes a SACK has after its header
abbrev pub sack_size : SackContent → ℕ
sack_size sack = length sack.gap_ack_blocks + length sack.duplicate_tsns

-- Does one of them cover the TSN that is so far after the cumulative one?
abbrev pub covers : List GapAckBlock → ℕ → Type 0
covers blocks offset = list_any (names offset) blocks ≡ true

-- Its ranges are those of a set, and none is too far ahead.
pub record IsTracked (tracker : TrackerState) : Type 0 where
  pub beyond : IsBeyond tracker.cumulative tracker.ranges
  pub near : (number : ℕ) → is_number_covered number tracker.ranges ≡ true → number ≤ tracker.cumulative + greatest_distance

-- What the blocks of such a tracker's SACK cover:
pub record CoversReceived (room : ℕ) (tracker : TrackerState) (window : ℕ) : Type 0 where
  -- They ascend, with at least one TSN missing between each two. None covers the TSN right after the cumulative one.
  pub apart : AreApart (sack_blocks room tracker window)
  pub gap : list_any (names 1) (sack_blocks room tracker window) ≡ false
  -- Their offsets have 16 bits.
  pub short : AllByRecursion (λ block. block.end < 2 ^ 16) (sack_blocks room tracker window)
  -- There is one for each range, up to the most that a SACK lists.
  pub many : length (sack_blocks room tracker window) ≡ min (most_blocks tracker.follows_rfc room) (length tracker.ranges)
  -- What they cover was received,
  pub received : (offset : ℕ) → covers (sack_blocks room tracker window) offset → is_number_covered (tracker.cumulative + offset) tracker.ranges ≡ true
  -- and they cover all that was received beyond the cumulative TSN, if there are no more ranges than a SACK lists.
  pub all : length tracker.ranges ≤ most_blocks tracker.follows_rfc room → (offset : ℕ) → is_number_covered (tracker.cumulative + offset) tracker.ranges ≡ true
      → covers (sack_blocks room tracker window) offset
  -- If there are more, what they don't cover comes after all that they cover.
  pub lowest : (offset other : ℕ) → covers (sack_blocks room tracker window) offset → is_number_covered (tracker.cumulative + other) tracker.ranges ≡ true
      → list_any (names other) (sack_blocks room tracker window) ≡ false → offset < other

abbrev pub SacksCoverReceived : Type 0
SacksCoverReceived = (room : ℕ) (tracker : TrackerState) (window : ℕ) → IsTracked tracker → CoversReceived room tracker window

-- By the RFC a SACK fits into its room, with its header and what it leaves free; a chunk has 65,535 bytes at most. If even these don't
-- fit, it is the header alone.
abbrev pub SacksFit : Type 0
SacksFit = (room : ℕ) (tracker : TrackerState) (window : ℕ) → tracker.follows_rfc ≡ true
    → sack_header_size + sack_size (sack_of room tracker window) ≤ max sack_header_size (min room 65535 - forward_tsn_room)

-- A tracker begins so. Data with a valid TSN leaves it so, and so does each FORWARD-TSN.
pub record TrackersStayTracked : Type 0 where
  pub begins : (options : Options) (peer_first_tsn : ℕ) → IsTracked (new_tracker options peer_first_tsn)
  pub observes : (tsn : ℕ) (immediate : Bool) (tracker : TrackerState) → is_valid_tsn tracker.cumulative tsn ≡ true → IsTracked tracker
      → IsTracked (tracker_after_data tsn immediate tracker)
  pub forwards : (tsn : ℕ) (tracker : TrackerState) → IsTracked tracker → IsTracked (after_forward tsn tracker)
