pub use Rattle.dcsctp_transfer.specs.wire as wire
pub use Rattle.dcsctp_transfer.specs.wire_build as wire_build
pub use Rattle.dcsctp_transfer.specs.types as types
pub use Rattle.dcsctp_transfer.specs.spec as spec
pub use Rattle.dcsctp_transfer.specs.api as api
pub use Rattle.dcsctp_transfer.specs.send_queue as send_queue
pub use Rattle.dcsctp_transfer.specs.receive_reassembly as receive_reassembly
pub use Rattle.dcsctp_transfer.specs as transfer
pub mod Answering
pub mod Below
pub mod Drawing
pub mod Errors
pub mod Flushing
pub mod Handling
pub mod Lending
pub mod Listing
pub mod Phases
pub mod Reconfiguring
pub mod Resetting
pub mod Timeout
pub mod Timing
pub mod View
pub use Rattle.dcsctp_transfer.specs.api.Events
pub use Rattle.dcsctp_transfer.specs.spec.endpoint.Endpoint
pub use Rattle.dcsctp_transfer.specs.spec.endpoint.Outcome
