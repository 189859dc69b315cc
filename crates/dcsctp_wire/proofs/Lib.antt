pub mod Chunks
pub mod CleanBlockLemmas
pub mod Frames
pub mod Items
pub mod Lengths
pub mod Packets
