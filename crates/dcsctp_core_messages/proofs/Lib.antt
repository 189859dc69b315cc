pub mod QueueingLemmas
pub mod RefusalLemmas
pub mod ResettingLemmas
pub mod SendingLemmas
pub mod TakingLemmas
