-- What a FORWARD-TSN says (RFC 3758, section 3.5), and an I-FORWARD-TSN (RFC 8260, section 2.3.1).
use Rattle.std.specs.Prelude.{◌≡◌, ◌⊎◌, ℕ, ◌+◌, ◌-◌, ◌/◌, ◌%◌, ◌^◌, ◌<◌, ◌≤◌, ◌==◌, ◌&&◌, ◌||◌, not, max, Bool, true, false, Option, None, Some, List, [], ◌∷◌, ◌++◌, length, take, slice_get, if◌then◌else◌}
use Rattle.std.specs.List.{flat_map}
use Rattle.std.specs.Int.{w16, w32, to_be_bytes}
use Rattle.std.specs.Option.{option_map, option_or}
use Rattle.dcsctp_types.specs.wire.Content.{ChunkContent, forward_tsn_chunk, i_forward_tsn_chunk}
use Rattle.dcsctp_types.specs.wire.Spelling.{t_bit}
use Rattle.dcsctp_spec.specs.queues.Items.{Item}
use Rattle.dcsctp_types.specs.queues.Progress.{is_abandoned}
use Rattle.dcsctp_types.specs.Sizes.{common_header_size, chunk_header_size, word_size}
use Rattle.dcsctp_spec.specs.queues.Retransmission.{RetransmissionState}

-- ---- the row of items that is skipped

-- Was the item at this place abandoned, so that the row continues? It ends where streams were reset.
abbrev pub is_row_continued : ℕ → Item → Bool
is_row_continued place item = is_abandoned item.progress.state && ((place == 0) || not item.begins_after_reset)

-- Is the item's message listed? A FORWARD-TSN lists ordered messages alone.
abbrev pub is_listed : Bool → Item → Bool
is_listed interleaving item = interleaving || not item.fragment.is_unordered

-- what precedes the entries in a packet: both headers and the cumulative TSN
abbrev pub entries_offset : ℕ
entries_offset = common_header_size + chunk_header_size + word_size

-- the size of an entry: the stream and a number of 16 bits, or with interleaving the stream, the flags and a number of 32 bits
abbrev pub entry_size : Bool → ℕ
entry_size interleaving = if interleaving then 8 else 4

-- how many entries fit into a packet, of which there is one at least
abbrev pub entry_limit : Bool → ℕ → ℕ
entry_limit interleaving mtu = max ((mtu - entries_offset) / entry_size interleaving) 1

-- ---- streams

-- Is the one stream the other, among ordered or unordered messages?
abbrev pub is_same_stream : ℕ → Bool → ℕ → Bool → Bool
is_same_stream stream unordered other is_unordered = (stream == other) && (if unordered then is_unordered else not is_unordered)

-- the last of the items on a stream, among ordered or unordered messages
abbrev pub last_on : ℕ → Bool → List Item → Option Item
last_on stream unordered [] = None
last_on stream unordered (item ∷ items) =
    option_or (last_on stream unordered items) (if is_same_stream stream unordered item.fragment.stream item.fragment.is_unordered then Some item else None)

-- the last of those that are listed
abbrev pub last_listed : Bool → ℕ → Bool → List Item → Option Item
last_listed interleaving stream unordered row = if interleaving || not unordered then last_on stream unordered row else None

-- what a list of entries has for a stream
abbrev pub entry_for : {V : Type 0} → ℕ → Bool → List ((ℕ × Bool) × V) → Option V
entry_for stream unordered [] = None
entry_for stream unordered (entry ∷ entries) = if is_same_stream stream unordered entry.0.0 entry.0.1 then Some entry.1 else entry_for stream unordered entries

-- No stream has two entries.
abbrev pub NoneTwice : {V : Type 0} → List ((ℕ × Bool) × V) → Type 0
NoneTwice [] = Unit {0}
NoneTwice (entry ∷ entries) = (entry_for entry.0.0 entry.0.1 entries ≡ None) × NoneTwice entries

-- ---- which row it is, and its entries

-- the number up to which messages are skipped
abbrev pub skipped_number : Bool → Item → ℕ
skipped_number interleaving item = if interleaving then item.fragment.mid else item.fragment.ssn

-- For each stream on which messages of the row are listed there is one entry, with the number of the last, and no other entry.
pub record ListsEntries (interleaving : Bool) (row : List Item) (entries : List ((ℕ × Bool) × ℕ)) : Type 0 where
  pub numbers : (stream : ℕ) (unordered : Bool) → entry_for stream unordered entries ≡ option_map (skipped_number interleaving) (last_listed interleaving stream unordered row)
  pub none_twice : NoneTwice entries

-- There is no room for the item's message after this row, which has that many entries.
pub record LacksRoom (interleaving : Bool) (limit entries : ℕ) (row : List Item) (item : Item) : Type 0 where
  pub listed : is_listed interleaving item ≡ true
  pub full : limit ≤ entries
  pub is_new : last_on item.fragment.stream item.fragment.is_unordered row ≡ None

-- why the row ends before this item
pub record StopsBefore (interleaving : Bool) (limit entries place : ℕ) (items : List Item) : Type 0 where
  pub item : Item
  pub at : slice_get items place ≡ Some item
  pub why : (is_row_continued place item ≡ false) ⊎ LacksRoom interleaving limit entries (take place items) item

-- that many first items, all of which are skipped; no more can be
pub record IsSkippedRow (interleaving : Bool) (limit entries count : ℕ) (items : List Item) : Type 0 where
  pub within : count ≤ length items
  pub each : (place : ℕ) (item : Item) → place < count → slice_get items place ≡ Some item → is_row_continued place item ≡ true
  pub fits : entries ≤ limit
  pub ends : (count ≡ length items) ⊎ StopsBefore interleaving limit entries count items

-- ---- the chunk

-- An entry: the stream, with interleaving the flags, of which U is the lowest and the others are reserved, and the last number that
-- is skipped.
abbrev pub entry_bytes : Bool → (ℕ × Bool) × ℕ → List ℕ
entry_bytes false entry = to_be_bytes w16 entry.0.0 ++ to_be_bytes w16 entry.1
entry_bytes true entry = to_be_bytes w16 entry.0.0 ++ to_be_bytes w16 (t_bit entry.0.1) ++ to_be_bytes w32 entry.1

-- the chunk with this new cumulative TSN and these entries
abbrev pub forward_chunk : Bool → ℕ → List ((ℕ × Bool) × ℕ) → ChunkContent
forward_chunk false tsn entries = forward_tsn_chunk tsn (flat_map (entry_bytes false) entries)
forward_chunk true tsn entries = i_forward_tsn_chunk tsn (flat_map (entry_bytes true) entries)

-- The chunk skips the first items which were abandoned, as far as it has room, and no other.
pub record SaysForward (state : RetransmissionState) (chunk : ChunkContent) : Type 0 where
  pub count : ℕ
  pub entries : List ((ℕ × Bool) × ℕ)
  pub row : IsSkippedRow state.outstanding.is_interleaved (entry_limit state.outstanding.is_interleaved state.congestion.mtu) (length entries) count state.outstanding.items
  pub lists : ListsEntries state.outstanding.is_interleaved (take count state.outstanding.items) entries
  pub is : chunk ≡ forward_chunk state.outstanding.is_interleaved ((state.outstanding.first_tsn + count + (2 ^ 32 - 1)) % 2 ^ 32) entries
