pub mod AbortLemmas
pub mod EchoedLemmas
pub mod EndLemmas
pub mod FitLemmas
pub mod SendingLemmas
pub mod T2Lemmas
