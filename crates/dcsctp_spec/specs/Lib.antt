pub use Rattle.dcsctp_types.specs.wire as wire
pub use Rattle.dcsctp_types.specs as types
pub mod Admission
pub mod Cookie
pub mod Packet
pub mod Reconfiguration
pub mod SocketSnapshot
pub mod Handover
pub mod Soundness
pub mod CookieFits
pub mod HandoverInputs
pub mod association
pub mod endpoint
pub mod queues
