pub mod Appending
pub mod BuildingFacts
pub mod BuiltPackets
