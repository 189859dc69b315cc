-- What follows a chunk in its packet.
pub data Following : Type 0 where
  -- the chunk after it
  next_chunk : Following
  -- no other chunk, and then the end of the packet
  packet_end : Following
  -- nothing: the rest of the packet is dropped
  dropped_rest : Following
