pub use Rattle.dcsctp_spec.specs.wire as wire
pub use Rattle.dcsctp_spec.specs.types as types
pub use Rattle.dcsctp_spec.specs as spec
