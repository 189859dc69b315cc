-- What is outstanding: the items of consecutive TSNs (RFC 9260, section 6.1).
use Rattle.std.specs.Prelude.{ℕ, ◌+◌, ◌-◌, ◌%◌, ◌^◌, ◌==◌, ◌&&◌, Bool, List, [], ◌∷◌, length, if◌then◌else◌}
use Rattle.dcsctp_types.specs.wire.declared.chunk.sack.GapAckBlock.{GapAckBlock}
use Rattle.dcsctp_types.specs.declared.progress.Change.TheVariants.{Acknowledge}
use Rattle.dcsctp_types.specs.Sizes.{data_header_size, i_data_header_size}
use Rattle.dcsctp_spec.specs.queues.Items.{Item, never_acknowledged_items, changed_between}

pub record OutstandingState : Type 0 where
  -- the TSN of the first item; the one before is the last that was acknowledged cumulatively
  pub first_tsn : ℕ
  -- Are they sent as I-DATA (RFC 8260)?
  pub is_interleaved : Bool
  pub items : List Item

-- the header of a DATA chunk (RFC 9260, section 3.3.1), or of an I-DATA chunk (RFC 8260, section 2.1)
abbrev pub header_of : Bool → ℕ
header_of is_interleaved = if is_interleaved then i_data_header_size else data_header_size

-- the size of a chunk's header
abbrev pub header : OutstandingState → ℕ
header outstanding = header_of outstanding.is_interleaved

-- the TSN that many places after the first
abbrev pub tsn_at : OutstandingState → ℕ → ℕ
tsn_at outstanding place = (outstanding.first_tsn + place) % 2 ^ 32

-- the TSN of the next item
abbrev pub next_tsn : OutstandingState → ℕ
next_tsn outstanding = tsn_at outstanding (length outstanding.items)

-- Is this the first TSN, and was nothing acknowledged yet?
abbrev pub is_untouched : ℕ → OutstandingState → Bool
is_untouched first outstanding =
    (outstanding.first_tsn == first) && (never_acknowledged_items outstanding.items == length outstanding.items)

-- how far a TSN is after the first
abbrev pub distance_to : OutstandingState → ℕ → ℕ
distance_to outstanding tsn = (tsn + (2 ^ 32 - outstanding.first_tsn)) % 2 ^ 32

-- how many items the cumulative TSN acknowledges: 0 for the one before the first
abbrev pub acknowledged_count : OutstandingState → ℕ → ℕ
acknowledged_count outstanding cumulative = distance_to outstanding ((cumulative + 1) % 2 ^ 32)

-- the items with those acknowledged that the blocks name, from the place `count` on, which is the first TSN after the cumulative
-- one
abbrev pub reported_items : ℕ → List GapAckBlock → List Item → List Item
reported_items count [] items = items
reported_items count (block ∷ blocks) items =
    reported_items count blocks (changed_between Acknowledge (count + block.start - 1) (count + block.end) items)
