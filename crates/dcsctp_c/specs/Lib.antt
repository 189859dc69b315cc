pub mod Channels
pub mod Exports
pub mod Queries
pub mod Lending
pub mod SlotMemory
