pub use Rattle.dcsctp_wire.proofs as wire_lemmas
pub mod LifetimeFacts
pub mod ReadinessFacts
pub mod ReadinessLemmas
pub mod RepeatLemmas
pub mod SnapshotFacts
pub mod SnapshotLemmas
pub mod StreamTableLemmas
