pub use Rattle.dcsctp_send_retransmission.proofs.wire_lemmas as wire_lemmas
pub use Rattle.dcsctp_send_retransmission.proofs.spec_lemmas as spec_lemmas
pub mod AbandoningLemmas
pub mod AddingLemmas
pub mod FillingLemmas
pub mod ForwardingLemmas
pub mod ReceivingLemmas
pub mod RoomLemmas
pub mod SackLemmas
pub mod SacksLemmas
pub mod StoppedLemmas
pub mod StoppedTakingLemmas
pub mod StoppedUpLemmas
