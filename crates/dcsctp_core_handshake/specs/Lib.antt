pub mod Echoes
pub mod Handshake
pub mod Timing
pub use Rattle.dcsctp_core.specs.api.Events
pub use Rattle.dcsctp_core.specs.Handling
pub use Rattle.dcsctp_core.specs.View
pub use Rattle.dcsctp_core.specs.spec.Packet
pub mod Resolution
