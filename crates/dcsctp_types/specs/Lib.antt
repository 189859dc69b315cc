pub use Rattle.dcsctp_wire.specs as wire
pub mod ByResult
pub mod Ids
pub mod Offer
pub mod Readiness
pub mod Settings
pub mod Sizes
pub mod Snapshot
pub mod SnapshotItems
pub mod Schedule
pub mod Lifetimes
pub mod Setting
pub mod queues
pub mod StreamTables
