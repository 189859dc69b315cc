-- The chunk of a fragment: DATA, or with interleaving I-DATA. Each number is as its field holds it.
use Rattle.std.specs.Prelude.{◌≡◌, ℕ, ◌%◌, ◌^◌, Bool, true, false, Some, List, [], ◌∷◌, map, slice_get, if◌then◌else◌}
use Rattle.dcsctp_types.specs.wire.Content.{ChunkContent, DataContent, IDataContent, data_chunk, i_data_chunk}
use Rattle.dcsctp_types.specs.wire.declared.chunk.user_data.DataFlags.{DataFlags}
use Rattle.dcsctp_spec.specs.Packet.{Plain, unworked}
use Rattle.dcsctp_spec.specs.queues.Items.{Item}
use Rattle.dcsctp_spec.specs.queues.Outstanding.{OutstandingState, tsn_at}
use Rattle.dcsctp_spec.specs.queues.Sending.{Fragment}

abbrev pub byte_field : ℕ → ℕ
byte_field byte = byte % 2 ^ 8

-- its flags as it is sent: it isn't to be acknowledged at once
abbrev pub flags_said : Fragment → DataFlags
flags_said part = record { is_end = part.is_end; is_beginning = part.is_beginning; is_unordered = part.is_unordered; immediate_ack = false }

-- as DATA (RFC 9260, section 3.3.1)
abbrev pub data_said : ℕ → Fragment → DataContent
data_said tsn part =
    record {
      flags = flags_said part;
      tsn = tsn % 2 ^ 32;
      stream_id = part.stream % 2 ^ 16;
      ssn = part.ssn % 2 ^ 16;
      ppid = part.ppid % 2 ^ 32;
      payload = map byte_field part.payload;
    }

-- A first fragment names its protocol, and each other one its number.
abbrev pub ppid_or_fsn : Fragment → ℕ
ppid_or_fsn part = if part.is_beginning then part.ppid else part.fsn

-- as I-DATA (RFC 8260, section 2.1)
abbrev pub i_data_said : ℕ → Fragment → IDataContent
i_data_said tsn part =
    record {
      flags = flags_said part;
      tsn = tsn % 2 ^ 32;
      stream_id = part.stream % 2 ^ 16;
      mid = part.mid % 2 ^ 32;
      ppid_or_fsn = ppid_or_fsn part % 2 ^ 32;
      payload = map byte_field part.payload;
    }

-- under this TSN, with interleaving or without
abbrev pub chunk_said : Bool → ℕ → Fragment → ChunkContent
chunk_said true tsn part = i_data_chunk (i_data_said tsn part)
chunk_said false tsn part = data_chunk (data_said tsn part)

-- It is the chunk of the item under this TSN.
pub record IsChunkOfItem (outstanding : OutstandingState) (tsn : ℕ) (chunk : Plain) : Type 0 where
  pub place : ℕ
  pub item : Item
  pub at : slice_get outstanding.items place ≡ Some item
  pub is : tsn ≡ tsn_at outstanding place
  pub says : chunk ≡ unworked (chunk_said outstanding.is_interleaved tsn item.fragment)

-- They are the chunks of these TSNs.
abbrev pub AreChunksOfTsns : OutstandingState → List ℕ → List Plain → Type 0
AreChunksOfTsns outstanding [] [] = Unit {0}
AreChunksOfTsns outstanding [] (chunk ∷ chunks) = ⊥
AreChunksOfTsns outstanding (tsn ∷ tsns) [] = ⊥
AreChunksOfTsns outstanding (tsn ∷ tsns) (chunk ∷ chunks) = IsChunkOfItem outstanding tsn chunk × AreChunksOfTsns outstanding tsns chunks
