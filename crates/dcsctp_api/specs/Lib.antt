pub use Rattle.dcsctp_spec_lemmas.specs.wire as wire
pub use Rattle.dcsctp_spec_lemmas.specs.types as types
pub use Rattle.dcsctp_spec_lemmas.specs.spec as spec
pub mod Calls
pub mod Cookie
pub mod Events
pub mod Handover
pub mod Messages
pub mod Metrics
pub mod Packets
pub mod Resets
pub mod Time
pub use Rattle.dcsctp_spec_lemmas.specs.spec.endpoint.Event
pub use Rattle.dcsctp_spec_lemmas.specs.types.Offer
