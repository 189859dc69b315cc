pub use Rattle.dcsctp_api.specs.wire as wire
pub use Rattle.dcsctp_api.specs.types as types
pub use Rattle.dcsctp_api.specs.spec as spec
pub use Rattle.dcsctp_api.specs as api
pub use Rattle.dcsctp_send_queue.specs as send_queue
pub mod Answers
pub mod Forwarding
pub mod GivingUp
pub mod Halting
pub mod Queue
pub mod Sending
pub mod SkippedBytes
pub mod Skipping
pub mod States
pub mod Fresh
pub mod Handing
pub mod NamedPlaces
pub mod Outstanding
pub mod Settled
pub mod Totals
