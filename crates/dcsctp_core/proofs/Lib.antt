pub use Rattle.dcsctp_transfer.proofs.wire_lemmas as wire_lemmas
pub use Rattle.dcsctp_transfer.proofs.spec_lemmas as spec_lemmas
pub mod AskLemmas
pub mod AtOnceLemmas
pub mod BelowLemmas
pub mod Composing
pub mod CutLemmas
pub mod EndLemmas
pub mod FillLemmas
pub mod FirstLemmas
pub mod FlushLemmas
pub mod ForwardLemmas
pub mod GapLemmas
pub mod LendingLemmas
pub mod ListingLemmas
pub mod LoopLemmas
pub mod Moving
pub mod PlaceLemmas
pub mod RelistLemmas
pub mod ResetLemmas
pub mod RestLemmas
pub mod RoundTripLemmas
pub mod SentLemmas
pub mod SevenLemmas
pub mod TimeoutLemmas
