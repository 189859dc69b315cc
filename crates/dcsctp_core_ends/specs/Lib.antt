pub mod Ends
pub use Rattle.dcsctp_core.specs.Handling
pub use Rattle.dcsctp_core.specs.View
pub mod Shutdown
