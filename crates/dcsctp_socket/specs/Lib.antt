pub mod SocketView
pub use Rattle.dcsctp_core.specs.api.Calls
pub use Rattle.dcsctp_core.specs.spec.endpoint.Endpoint
pub use Rattle.dcsctp_core.specs.types.Settings
