-- Chunks of what is outstanding, as they go into a packet.
use Rattle.std.specs.Prelude.{◌≡◌, ℕ, ◌+◌, ◌≤◌, Some, List, [], ◌∷◌, ◌++◌, map, drop, length, slice_get}
use Rattle.std.specs.List.{AllByRecursion, flat_map}
use Rattle.dcsctp_send_retransmission.specs.wire.Content.{SackContent, ChunkContent}
use Rattle.dcsctp_send_retransmission.specs.wire.ReadsBack.{FitsChunk}
use Rattle.dcsctp_send_retransmission.specs.wire.Spelling.{chunk_bytes}
use Rattle.dcsctp_wire_build.specs.Building.{Building, bytes_remaining}
use Rattle.dcsctp_receive_tracker.specs.declared.data_tracker.SelectiveAck.{SelectiveAck}
use Rattle.dcsctp_send_retransmission.specs.spec.Packet.{unworked}
use Rattle.dcsctp_send_retransmission.specs.spec.queues.Chunks.{IsChunkOfItem, AreChunksOfTsns}
use Rattle.dcsctp_send_retransmission.specs.spec.queues.Items.{Item, item_size}
use Rattle.dcsctp_send_retransmission.specs.spec.queues.Outstanding.{OutstandingState, header, tsn_at}

-- The TSN is that of an item, whose chunk is that long.
pub record HasChunk (outstanding : OutstandingState) (tsn size : ℕ) : Type 0 where
  pub place : ℕ
  pub item : Item
  pub at : slice_get outstanding.items place ≡ Some item
  pub is : tsn ≡ tsn_at outstanding place
  pub size_is : size ≡ item_size (header outstanding) item

-- The TSNs are those of items, whose chunks are that long together.
pub data HaveChunks (outstanding : OutstandingState) : List ℕ → ℕ → Type 0 where
  none : HaveChunks outstanding [] 0
  more : (tsn size : ℕ) (tsns : List ℕ) (sizes : ℕ) → HasChunk outstanding tsn size → HaveChunks outstanding tsns sizes → HaveChunks outstanding (tsn ∷ tsns) (size + sizes)

-- The chunk of this TSN fits into that much room.
pub record HasChunkWithin (room : ℕ) (outstanding : OutstandingState) (tsn : ℕ) : Type 0 where
  pub size : ℕ
  pub chunk : HasChunk outstanding tsn size
  pub within : size ≤ room

-- The chunk of this TSN was put into a packet, and is that long.
pub record AddsChunk (outstanding : OutstandingState) (tsn : ℕ) (old : Building) (size : ℕ) (new : Building) : Type 0 where
  pub chunk : ChunkContent
  pub of : IsChunkOfItem outstanding tsn (unworked chunk)
  pub is : new ≡ record old { body = old.body ++ chunk_bytes chunk }
  pub fits : FitsChunk chunk
  pub size_is : length (chunk_bytes chunk) ≡ size

-- the chunk of a TSN, by how long it is
abbrev pub AddsChunkOf : OutstandingState → ℕ → Building → Building → Type 0
AddsChunkOf outstanding tsn old new = (size : ℕ) → HasChunk outstanding tsn size → AddsChunk outstanding tsn old size new

-- The chunks of these TSNs were put into a packet.
pub record AddsChunks (outstanding : OutstandingState) (tsns : List ℕ) (old new : Building) : Type 0 where
  pub chunks : List ChunkContent
  pub are : AreChunksOfTsns outstanding tsns (map unworked chunks)
  pub is : new ≡ record old { body = old.body ++ flat_map chunk_bytes chunks }
  pub fits : AllByRecursion FitsChunk chunks

-- The chunks of the TSNs from this place on fit into what is left of the packet.
pub record HasRoomForRest (outstanding : OutstandingState) (place : ℕ) (tsns : List ℕ) (packet : Building) : Type 0 where
  pub sizes : ℕ
  pub chunks : HaveChunks outstanding (drop place tsns) sizes
  pub within : sizes ≤ bytes_remaining packet

-- what a SACK in memory says
abbrev pub sack_said : SelectiveAck → SackContent
sack_said sack =
    record {
      cumulative_tsn_ack = sack.cumulative_tsn_ack;
      a_rwnd = sack.a_rwnd;
      gap_ack_blocks = sack.gap_ack_blocks.items;
      duplicate_tsns = sack.duplicate_tsns.items;
    }
