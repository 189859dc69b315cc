pub use Rattle.dcsctp_channel_spec.specs as channel_spec
pub mod Contents
pub mod Format
pub mod Laws
