pub use Rattle.dcsctp_send_retransmission.specs.wire as wire
pub use Rattle.dcsctp_wire_build.specs as wire_build
pub use Rattle.dcsctp_send_retransmission.specs.types as types
pub use Rattle.dcsctp_send_retransmission.specs.spec as spec
pub use Rattle.dcsctp_send_retransmission.specs.api as api
pub use Rattle.dcsctp_send_retransmission.specs.send_queue as send_queue
pub use Rattle.dcsctp_receive_reassembly.specs as receive_reassembly
pub mod Adding
pub mod Filling
pub mod Forwarding
pub mod Sacks
