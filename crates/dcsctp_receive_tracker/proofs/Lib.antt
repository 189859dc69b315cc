pub mod BlockLemmas
pub mod NeighborLemmas
pub mod RangeEntryLemmas
pub mod ReceivedLemmas
pub mod ObservingLemmas
