pub use Rattle.dcsctp_api.proofs.wire_lemmas as wire_lemmas
pub use Rattle.dcsctp_api.proofs.spec_lemmas as spec_lemmas
pub mod AnswerLemmas
pub mod FreshLemmas
pub mod GivingUpLemmas
pub mod HaltingLemmas
pub mod QueueLemmas
pub mod SendingLemmas
pub mod SkippedLemmas
pub mod SkippingLemmas
pub mod StatesLemmas
pub mod BytesLemmas
pub mod HandoverLemmas
pub mod ItemsLemmas
pub mod MessageLemmas
pub mod NextLemmas
pub mod ReportLemmas
pub mod SettledLemmas
