pub use Rattle.dcsctp_api.specs as api
pub use Rattle.dcsctp_channel_messages.specs as messages
pub mod Arrivals
pub mod Calls
pub mod Events
pub mod Late
pub mod Notices
pub mod Opening
pub mod Polls
pub mod Queries
pub mod Sending
pub mod View
pub mod Handover
