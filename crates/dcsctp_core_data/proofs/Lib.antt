pub mod ArrivalLemmas
pub mod EndLemmas
pub mod HeardLemmas
pub mod ProceedLemmas
pub mod RefusalLemmas
pub mod ResendLemmas
pub mod SackLemmas
pub mod TakingLemmas
