pub mod ChannelLaws
pub mod ChannelLists
